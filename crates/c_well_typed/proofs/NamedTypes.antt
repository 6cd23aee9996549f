-- The types that specifiers, declarators and type names name (C99 6.7.2, 6.7.5, 6.7.6): their functions give and take no arrays, and their arrays have
-- elements of complete types, where it is so of the types for which the names of typedefs stand.
use Rattle.std.proofs.Common.{◌≡◌, ℕ, ◌≤◌, Bool, true, false, sym, subst, cond, List, [], ◌∷◌, inl, inr}
use Rattle.std.specs.Prelude.{Option, Some, None}
use Rattle.std.specs.List.{AllByRecursion}
use Rattle.c_types.specs.Objects.{is_object}
use Rattle.c_types.specs.Types.{CType, CTypes, pointer, array, function}
use Rattle.c_ast.specs.declared.words.Spelling.{Spelling}
use Rattle.c_ast.specs.Trees
use Rattle.c_erasure.specs.Declarators.{Shape, closed, open_array, declared_name, parameter_type}
use Rattle.c_erasure.specs.Erasure.{IsBase, IsOne, Specifies, Declares, AreListed, with_parameter_if_named}
use Rattle.c_erasure.specs.Scopes.{Entity, typedef, Bound, FileScope, Scope}
use Rattle.c_erasure.specs.Scopes.{inside, with_local, visible, named, ended}
use Rattle.c_erasure.specs.Statements.{IsSized}
use Rattle.c_erasure.specs.Specifiers.{Words, words_of, same_words, table, found_in, named_by}
use Rattle.c_checking_laws.proofs.CompletePart.{complete_stays}
use Rattle.c_ast.specs.declared.operators.SpecifierKeyword.{SpecifierKeyword}
use Rattle.c_erasure.specs.Specifiers.{counted}
use Rattle.c_well_typed.proofs.NamesInScope.{IsEntityOf, AreNamesOf, IsScopeOf, named_in, with_local_in, inside_of, with_parameter_of}
use Rattle.c_well_typed.proofs.WellMade.{IsWellMade, AreWellMade}

some_is : {A : Type 0} (x y : A) → Some x ≡ Some y → x ≡ y
some_is x y h = cc

module _ (f : FileScope) (count : ℕ) (less : (at : ℕ) → ended f.ends at ≤ count) where
  abbrev W : CType → Type 0
  W = IsWellMade count

  -- ---- what a name stands for

  abbrev pub IsMadeEntity : Entity → Type 0
  IsMadeEntity e = IsEntityOf W e

  abbrev pub AreMadeNames : List Bound → Type 0
  AreMadeNames block = AreNamesOf W block

  abbrev pub IsMadeScope : Scope → Type 0
  IsMadeScope s = IsScopeOf f W s

  pub named_made : (s : Scope) (x : List ℕ) (at : ℕ) (e : Entity) → IsMadeScope s → (visible f.names x at ≡ Some e → IsMadeEntity e)
      → named s x at ≡ Some e → IsMadeEntity e
  named_made = named_in f W

  pub with_local_made : (s : Scope) (b : Bound) → IsMadeScope s → IsMadeEntity b.entity → IsMadeScope (with_local s b)
  with_local_made = with_local_in f W

  pub inside_made : (s : Scope) → IsMadeScope s → IsMadeScope (inside s)
  inside_made = inside_of f W

  pub parameter_in : (s : Scope) (x : Option Spelling) (t : CType) → IsMadeScope s → W t → IsMadeScope (with_parameter_if_named s x t)
  parameter_in s None t i m = i
  parameter_in s (Some x) t i m = with_parameter_of f W s x t i m

  -- ---- words

  found_made : (rows : List (List SpecifierKeyword × CType)) (w : Words) (t : CType) → AllByRecursion (λ (row : List SpecifierKeyword × CType). W row.1) rows
      → found_in rows w ≡ Some t → W t
  found_made [] w t h e = cc
  found_made (row ∷ rows) w t h e = by_test (same_words (counted row.0) w) e (found_made rows w t h.1)
    where
      by_test : (b : Bool) → cond b (Some row.1) (found_in rows w) ≡ Some t → (found_in rows w ≡ Some t → W t) → W t
      by_test true e again = subst W (some_is row.1 t e) h.0
      by_test false e again = again e

  words_made : (w : Words) (t : CType) → named_by w ≡ Some t → W t
  words_made w t e = found_made table w t (tt, (tt, (tt, (tt, (tt, (tt, (tt, (tt, (tt, (tt, (tt, (tt, (tt, (tt, (tt, (tt, (tt, (tt, (tt, (tt, (tt, tt))))))))))))))))))))) e

  -- ---- declarators

  abbrev pub IsMadeShape : Shape → Type 0
  IsMadeShape (closed t) = W t
  IsMadeShape (open_array t) = (is_object count t ≡ true) × W t

  shape_is : (shape own : Shape) → shape ≡ own → IsMadeShape own → IsMadeShape shape
  shape_is shape own e h = subst IsMadeShape (sym e) h

  type_is : (t own : CType) → t ≡ own → W own → W t
  type_is t own e h = subst W (sym e) h

  types_are : (all own : CTypes) → all ≡ own → AreWellMade count own → AreWellMade count all
  types_are all own e h = subst (AreWellMade count) (sym e) h

  pub elements : (s : Scope) (at : ℕ) (t : CType) → s.file ≡ f → is_object (ended s.file.ends at) t ≡ true → is_object count t ≡ true
  elements s at t e h = complete_stays (ended f.ends at) count t (less at) (subst (λ (f : FileScope). is_object (ended f.ends at) t ≡ true) e h)

  pub parameter_made : (shape : Shape) → IsMadeShape shape → W (parameter_type shape)
  parameter_made (closed (array t n)) h = h.2
  parameter_made (closed t) h = h
  parameter_made (open_array t) h = h.1

  -- an array whose length is left to its initializer
  pub sized_made : (shape : Shape) (v : Option (ℕ × Trees.Expression)) (s : Scope) (t : CType) → IsMadeShape shape → IsSized s shape v t → W t
  sized_made (closed u) v s t m h = type_is t _ h m
  sized_made (open_array u) None s t m h = absurd h
  sized_made (open_array u) (Some v) s t m h = type_is t _ h.0 (h.1, m.0, m.1)

  -- ---- parts of the tree of which it is known that their typedefs stand for such types

  module _ (AreSpecifiers : Trees.Specifiers → Type 0) (IsSpecifier : Trees.Specifier → Type 0) (IsDeclarator : Trees.Declarator → Type 0)
      (AreAll : Trees.Parameters → Type 0)
      (specifiers : (x : Trees.Specifier) (more : Trees.Specifiers) → AreSpecifiers (Trees.and_specifier x more) → IsSpecifier x × AreSpecifiers more)
      (behind_pointer : (at : ℕ) (consts : List ℕ) (d : Trees.Declarator) → IsDeclarator (Trees.pointer at consts d) → IsDeclarator d)
      (in_parentheses : (left : ℕ) (d : Trees.Declarator) (right : ℕ) → IsDeclarator (Trees.enclosed left d right) → IsDeclarator d)
      (of_array : (d : Trees.Declarator) (left : ℕ) (bound : Trees.OptionalExpression) (right : ℕ) → IsDeclarator (Trees.array d left bound right) → IsDeclarator d)
      (of_function : (d : Trees.Declarator) (left : ℕ) (all : Trees.ParameterList) (right : ℕ) → IsDeclarator (Trees.function d left all right) → IsDeclarator d)
      (listed : (d : Trees.Declarator) (left : ℕ) (all : Trees.Parameters) (right : ℕ) → IsDeclarator (Trees.function d left (Trees.listed all) right) → AreAll all)
      (parameters : (comma : Option ℕ) (specs : Trees.Specifiers) (d : Trees.Declarator) (more : Trees.Parameters)
      → AreAll (Trees.and_parameter comma specs d more) → AreSpecifiers specs × IsDeclarator d × AreAll more)
      (known : (s : Scope) (x : Spelling) (t : CType) → IsMadeScope s → IsSpecifier (Trees.typename x) → named s x.text x.from ≡ Some (typedef t) → W t) where
    specifier_made : (x : Trees.Specifier) (s : Scope) (t : CType) → IsMadeScope s → IsSpecifier x → Specifies s x t → W t
    specifier_made (Trees.plain word at) s t i w h = absurd h
    specifier_made (Trees.typename x) s t i w h = known s x t i w h
    specifier_made (Trees.struct_named at x) s t i w h = type_is t _ h.1 tt
    specifier_made (Trees.struct_body at x left all right) s t i w h = type_is t _ h.3 tt
    specifier_made (Trees.enum_named at x) s t i w h = type_is t _ h.0 tt
    specifier_made (Trees.enum_body at x left all comma right) s t i w h = type_is t _ h.1 tt

    one_made : (specs : Trees.Specifiers) (s : Scope) (t : CType) → IsMadeScope s → AreSpecifiers specs → IsOne s specs t → W t
    one_made Trees.no_specifiers s t i w h = absurd h
    one_made (Trees.and_specifier (Trees.plain word at) more) s t i w h = one_made more s t i (specifiers (Trees.plain word at) more w).1 h
    one_made (Trees.and_specifier x more) s t i w h = specifier_made x s t i (specifiers x more w).0 h.0

    pub base_made : (specs : Trees.Specifiers) (s : Scope) (t : CType) → IsMadeScope s → AreSpecifiers specs → IsBase (IsOne s specs) specs t → W t
    base_made specs s t i w (inl h) = words_made (words_of specs) t h.1
    base_made specs s t i w (inr h) = one_made specs s t i w h.1

    mutual
      pub declarator_made : (d : Trees.Declarator) (s : Scope) (t : CType) (shape : Shape) → IsMadeScope s → IsDeclarator d → W t → Declares s d t shape
          → IsMadeShape shape
      declarator_made Trees.nothing s t shape i w m h = shape_is shape _ h m
      declarator_made (Trees.named x) s t shape i w m h = shape_is shape _ h m
      declarator_made (Trees.pointer at consts d) s t shape i w m h = declarator_made d s (pointer t) shape i (behind_pointer at consts d w) m h.1
      declarator_made (Trees.enclosed left d right) s t shape i w m h = declarator_made d s t shape i (in_parentheses left d right w) m h
      declarator_made (Trees.array d left (Trees.some_expression a) right) s t shape i w m h =
          declarator_made d s (array t h.2) shape i (of_array d left (Trees.some_expression a) right w) (h.5, elements s left t i.0 h.6, m) h.8
      declarator_made (Trees.array d left Trees.no_expression right) s t shape i w m h = shape_is shape _ h.2 (elements s left t i.0 h.0, m)
      declarator_made (Trees.function d left (Trees.void_alone at) right) s t shape i w m h =
          declarator_made d s (function t h.0) shape i (of_function d left (Trees.void_alone at) right w) (h.2, m, types_are h.0 _ h.1 tt) h.4
      declarator_made (Trees.function d left (Trees.listed all) right) s t shape i w m h =
          declarator_made d s (function t h.0) shape i (of_function d left (Trees.listed all) right w)
          (h.2, m, listed_made all (inside s) h.0 (inside_made s i) (listed d left all right w) h.1) h.4

      pub listed_made : (all : Trees.Parameters) (s : Scope) (types : CTypes) → IsMadeScope s → AreAll all → AreListed s all types → AreWellMade count types
      listed_made Trees.no_parameters s types i w h = types_are types _ h tt
      listed_made (Trees.and_parameter comma specs d more) s types i w h =
          let p = parameters comma specs d more w in
          let b = base_made specs s h.0 i p.0 h.5 in
          let m = parameter_made h.1 (declarator_made d s h.0 h.1 i p.1 b h.6) in
          types_are types _ h.3
          (h.7, m, listed_made more (with_parameter_if_named s (declared_name d) (parameter_type h.1)) h.2 (parameter_in s (declared_name d) (parameter_type h.1) i m) p.2 h.10)
