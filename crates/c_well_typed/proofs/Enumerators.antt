-- The names that begin in a part of the tree of a file that is no declarator of the file scope are those of enumerators (C99 6.2.1, 6.7.2.2).
use Rattle.std.proofs.Common.{◌≡◌, ℕ, ◌+◌, ◌%◌, ◌^◌, true, refl, subst, List, [], ◌∷◌, ◌++◌, inl, inr}
use Rattle.std.specs.Prelude.{Option, Some, None, slice_get}
use Rattle.c_types.specs.Types.{CType, Field, pointer, array, function}
use Rattle.c_ast.specs.declared.words.Spelling.{Spelling}
use Rattle.c_ast.specs.declared.operators.UnaryOp.TheVariants as U
use Rattle.c_ast.specs.Trees
use Rattle.c_typed.specs.Trees as Typed
use Rattle.c_erasure.specs.Declarators.{Shape, closed, is_name}
use Rattle.c_erasure.specs.Erasure.{Erases, AreValues, Values, IsTypeName, IsBase, IsOne, Specifies, Declares, AreFields, AreMembers, AreEnumerators}
use Rattle.c_erasure.specs.Erasure.{IsEnumeratorValue, IsBound, after_all, comma_or}
use Rattle.c_erasure.specs.Marks.{Mark, a_tag, an_end, a_name, marks, marks_of_all, marks_of_type, marks_of_specifiers, marks_of_specifier}
use Rattle.c_erasure.specs.Marks.{marks_of_members, marks_of_member_declarators, marks_of_enumerators, marks_of_value, marks_of_declarator, an_enumeration}
use Rattle.c_erasure.specs.Marks.{tag_name}
use Rattle.c_erasure.specs.Noted.{Noted, Expression, Thing, an_object}
use Rattle.c_erasure.specs.Scopes.{Bound, Tag, Scope, FileScope, measured, for_value, defines, enumerator, at_file_scope}
use Rattle.c_erasure.specs.Specifiers.{types_among}
use Rattle.c_checking_units.proofs.Tracing as Tracing
use Rattle.c_checking_units.proofs.Tracing.{AreAll}

-- the enumerator whose name is in scope from there on
abbrev pub IsEnumerated : FileScope → ℕ → Type 0
IsEnumerated f from = (b : Bound) × (v : ℕ) × IsBound (at_file_scope f) b × (b.from ≡ from) × (b.entity ≡ enumerator v)

abbrev pub anything : List ℕ → Type 0
anything tag = Unit {0}

pub record AreEnumerated (f : FileScope) (u : List Mark) : Type 0 where
  pub all : AreAll (IsEnumerated f) anything u

module _ (f : FileScope) where
  abbrev u : ℕ → List ℕ
  u = f.untagged

  abbrev F : List Mark → Type 0
  F marks = AreEnumerated f marks

  none : F []
  none = record { all = tt }

  both : {a b : List Mark} → F a → F b → F (a ++ b)
  both {a} {b} x y = record { all = Tracing.both (IsEnumerated f) anything a b x.all y.all }

  tag_found : (t : Tag) → F (a_tag t ∷ [])
  tag_found t = record { all = tt }

  end_found : (tag : List ℕ) (right : ℕ) → F (an_end tag right ∷ [])
  end_found tag right = record { all = (tt, tt) }

  -- ---- words and names have no marks

  words_found : (specs : Trees.Specifiers) → types_among specs ≡ [] → F (marks_of_specifiers u specs)
  words_found Trees.no_specifiers h = none
  words_found (Trees.and_specifier (Trees.plain word at) more) h = both none (words_found more h)
  words_found (Trees.and_specifier (Trees.typename x) more) h = cc
  words_found (Trees.and_specifier (Trees.struct_named at x) more) h = cc
  words_found (Trees.and_specifier (Trees.struct_body at x left all right) more) h = cc
  words_found (Trees.and_specifier (Trees.enum_named at x) more) h = cc
  words_found (Trees.and_specifier (Trees.enum_body at x left all comma right) more) h = cc

  by_words : (specs : Trees.Specifiers) (s : Scope) (t : CType) → IsBase (IsOne s specs) specs t
      → (IsOne s specs t → F (marks_of_specifiers u specs)) → F (marks_of_specifiers u specs)
  by_words specs s t (inl h) one = words_found specs h.0
  by_words specs s t (inr h) one = one h.1

  bare_found : (d : Trees.Declarator) → is_name d ≡ true → F (marks_of_declarator u d)
  bare_found Trees.nothing h = none
  bare_found (Trees.named x) h = none
  bare_found (Trees.enclosed left d right) h = bare_found d h
  bare_found (Trees.pointer at consts d) h = cc
  bare_found (Trees.array d left length right) h = cc
  bare_found (Trees.function d left all right) h = cc

  enumerator_named : (s : Scope) → s.file ≡ f → (x : Spelling) (from v : ℕ)
      → IsBound s (record { name = x.text; place = x.from; from = from; how = defines; entity = enumerator v }) → F (a_name from ∷ [])
  enumerator_named s e x from v h =
      let b : Bound = record { name = x.text; place = x.from; from = from; how = defines; entity = enumerator v } in
      record { all = ((b, v, (h.0, subst (λ (f : FileScope). slice_get f.names h.0 ≡ Some b) e h.1), refl, refl), tt) }

  enumeration_found : (x : Option Spelling) (right : ℕ) → F (an_enumeration u x right)
  enumeration_found None right = none
  enumeration_found (Some x) right = tag_found _

  mutual
    pub found : (a : Trees.Expression) (s : Scope) (th : Thing) → s.file ≡ f → Erases a s th → F (marks u a)
    found (Trees.name x) s th e h = none
    found (Trees.number x v kind) s th e h = none
    found (Trees.character x v) s th e h = none
    found (Trees.texts all) s th e h = none
    found (Trees.paren left a right) s th e h = found a s th e h
    found (Trees.index a left b right) s th e (inl h) = both (found a s (an_object h.1) e h.5) (found b s h.6.0 e h.6.2)
    found (Trees.index a left b right) s th e (inr (inl h)) = both (found a s h.4.0 e h.4.2) (found b s h.5.0 e h.5.2)
    found (Trees.index a left b right) s th e (inr (inr h)) = both (found a s h.5.0 e h.5.2) (found b s h.6.0 e h.6.2)
    found (Trees.call c left all right) s th e h = both (found c s h.1 e h.4) (values_found s h.2 all e h.5)
    found (Trees.dot a at x) s th e h = found a s (an_object h.1) e h.6
    found (Trees.arrow a at x) s th e h = found a s h.6.0 e h.6.2
    found (Trees.post a op at) s th e h = found a s (an_object h.1) e h.3
    found (Trees.pre op at a) s th e h = found a s (an_object h.1) e h.3
    found (Trees.unary U.Address at a) s th e h = found a s h.0 e h.2
    found (Trees.unary U.Deref at a) s th e h = found a s h.2.0 e h.2.2
    found (Trees.unary U.Plus at a) s th e h = found a s h.3.0 e h.3.2
    found (Trees.unary U.Minus at a) s th e h = found a s h.3.0 e h.3.2
    found (Trees.unary U.Complement at a) s th e h = found a s h.3.0 e h.3.2
    found (Trees.unary U.Not at a) s th e h = found a s h.3.0 e h.3.2
    found (Trees.sizeof_expression at a) s th e h = found a (measured s) h.1.0 e h.1.1
    found (Trees.sizeof_type at left t right) s th e h = type_found t s h.0 e h.1
    found (Trees.cast left t right a) s th e h = both (type_found t s h.0 e h.2) (found a s h.4.0 e h.4.2)
    found (Trees.binary a op at b) s th e h = both (found a s h.4.0 e h.4.2) (found b s h.5.0 e h.5.2)
    found (Trees.cond a question b colon c) s th e h =
        (both (both (found a s h.5.0 e h.5.2) (found b s h.6.0 e h.6.2)) (found c s h.7.0 e h.7.2))
    found (Trees.assign a op at b) s th e (inl h) = both (found a s (an_object h.1) e h.5) (found b s h.6.0 e h.6.2)
    found (Trees.assign a op at b) s th e (inr (inl h)) = both (found a s (an_object h.1) e h.5) (found b s (an_object h.2) e h.6)
    found (Trees.assign a op at b) s th e (inr (inr h)) = both (found a s (an_object h.1) e h.6) (found b s h.7.0 e h.7.2)
    found (Trees.comma a at b) s th e h = both (found a s h.4.0 e h.4.2) (found b s h.5.0 e h.5.2)
    found (Trees.braces left all comma right) s th e h = absurd h

    values_found : (s : Scope) (xs : Typed.Expressions Noted) (all : Trees.Arguments) → s.file ≡ f → AreValues s xs all
        → F (marks_of_all u all)
    values_found s xs Trees.no_arguments e h = none
    values_found s xs (Trees.and_argument comma a more) e h = both (found a s h.3.0 e h.3.2) (values_found s h.1 more e h.4)

    type_found : (t : Trees.TypeName) (s : Scope) (ty : CType) → s.file ≡ f → IsTypeName s t ty → F (marks_of_type u t)
    type_found (Trees.type_name specs d) s ty e h =
        both (by_words specs s h.0 h.2 (λ k. one_found specs s h.0 e k)) (lengths_found d s h.0 (closed ty) e h.3)

    one_found : (specs : Trees.Specifiers) (s : Scope) (t : CType) → s.file ≡ f → IsOne s specs t → F (marks_of_specifiers u specs)
    one_found Trees.no_specifiers s t e h = absurd h
    one_found (Trees.and_specifier (Trees.plain word at) more) s t e h = both none (one_found more s t e h)
    one_found (Trees.and_specifier (Trees.typename x) more) s t e h = both (specifier_found (Trees.typename x) s t e h.0) (words_found more h.1)
    one_found (Trees.and_specifier (Trees.struct_named at x) more) s t e h =
        both (specifier_found (Trees.struct_named at x) s t e h.0) (words_found more h.1)
    one_found (Trees.and_specifier (Trees.struct_body at x left all right) more) s t e h =
        both (specifier_found (Trees.struct_body at x left all right) s t e h.0) (words_found more h.1)
    one_found (Trees.and_specifier (Trees.enum_named at x) more) s t e h =
        both (specifier_found (Trees.enum_named at x) s t e h.0) (words_found more h.1)
    one_found (Trees.and_specifier (Trees.enum_body at x left all comma right) more) s t e h =
        both (specifier_found (Trees.enum_body at x left all comma right) s t e h.0) (words_found more h.1)

    specifier_found : (x : Trees.Specifier) (s : Scope) (t : CType) → s.file ≡ f → Specifies s x t → F (marks_of_specifier u x)
    specifier_found (Trees.plain word at) s t e h = none
    specifier_found (Trees.typename x) s t e h = none
    specifier_found (Trees.struct_named at x) s t e h = tag_found _
    specifier_found (Trees.struct_body at x left all right) s t e h =
        both {a = a_tag _ ∷ []} (tag_found _) (both (members_found all s h.1.fields e h.9) (end_found (tag_name u at x) right))
    specifier_found (Trees.enum_named at x) s t e h = none
    specifier_found (Trees.enum_body at x left all comma right) s t e h =
        ((both (enumerators_found all s 0 (after_all comma right) e h.2) (enumeration_found x right)))

    pub lengths_found : (d : Trees.Declarator) (s : Scope) (t : CType) (shape : Shape) → s.file ≡ f → Declares s d t shape
        → F (marks_of_declarator u d)
    lengths_found Trees.nothing s t shape e h = none
    lengths_found (Trees.named x) s t shape e h = none
    lengths_found (Trees.pointer at consts d) s t shape e h = lengths_found d s (pointer t) shape e h.1
    lengths_found (Trees.enclosed left d right) s t shape e h = lengths_found d s t shape e h
    lengths_found (Trees.array d left (Trees.some_expression a) right) s t shape e h =
        both (lengths_found d s (array t h.2) shape e h.8) (found a (for_value s) h.3.1.0 e h.3.1.2)
    lengths_found (Trees.array d left Trees.no_expression right) s t shape e h = both (bare_found d h.1) none
    lengths_found (Trees.function d left all right) s t shape e h = lengths_found d s (function t h.0) shape e h.4

    members_found : (all : Trees.MemberDeclarations) (s : Scope) (fields : List Field) → s.file ≡ f → AreFields s all fields → F (marks_of_members u all)
    members_found Trees.no_member_declarations s fields e h = none
    members_found (Trees.and_member_declaration specs ds semicolon more) s fields e h =
        both (both (by_words specs s h.0 h.5 (λ k. one_found specs s h.0 e k)) (line_found ds s h.0 semicolon h.1 e h.6)) (members_found more s h.2 e h.7)

    line_found : (ds : Trees.MemberDeclarators) (s : Scope) (base : CType) (semicolon : ℕ) (fields : List Field) → s.file ≡ f
        → AreMembers s base ds semicolon fields → F (marks_of_member_declarators u ds)
    line_found Trees.no_member_declarators s base semicolon fields e h = none
    line_found (Trees.and_member_declarator comma d more) s base semicolon fields e h =
        both (lengths_found d s base (closed h.1) e h.4) (line_found more s base semicolon h.2 e h.8)

    enumerators_found : (all : Trees.Enumerators) (s : Scope) (next after : ℕ) → s.file ≡ f → AreEnumerators s next all after
        → F (marks_of_enumerators u all after)
    enumerators_found Trees.no_enumerators s next after e h = none
    enumerators_found (Trees.and_enumerator comma x value more) s next after e h =
        let a = enumerator_found value s next h.0 e h.1 in
        let b = enumerator_named s e x (comma_or more after) h.0 h.2 in
        let c = enumerators_found more s ((h.0 + 1) % 2 ^ 32) after e h.3 in
        both a (both b c)

    enumerator_found : (value : Trees.EnumeratorValue) (s : Scope) (next v : ℕ) → s.file ≡ f → IsEnumeratorValue s next value v
        → F (marks_of_value u value)
    enumerator_found Trees.no_value s next v e h = none
    enumerator_found (Trees.valued equal a) s next v e h = found a (for_value s) h.1.1.0 e h.1.1.2

  pub value_found : (a : Trees.Expression) (s : Scope) (x : Expression) → s.file ≡ f → Values (Erases a s) x → F (marks u a)
  value_found a s x e h = found a s h.0 e h.2

  pub base_found : (specs : Trees.Specifiers) (s : Scope) (t : CType) → s.file ≡ f → IsBase (IsOne s specs) specs t
      → F (marks_of_specifiers u specs)
  base_found specs s t e h = by_words specs s t h (λ k. one_found specs s t e k)
