-- Each structure that a file defines has a member (C99 6.7.2.1): its declaration has one, as the grammar asks.
use Rattle.std.proofs.Common.{◌≡◌, ◌≢◌, ◌∙◌, ℕ, ◌+◌, ◌%◌, ◌^◌, Bool, true, false, refl, sym, ap, subst, List, [], ◌∷◌, ◌++◌, map, inl, inr}
use Rattle.std.proofs.lemmas.List.Elements.{recursion_from_All}
use Rattle.std.specs.Prelude.{◌⊎◌, Option, Some, None, slice_get}
use Rattle.std.specs.List.{AllByRecursion}
use Rattle.c_types.specs.Types.{CType, pointer, array, function, structure, Field, Record}
use Rattle.c_ast.specs.declared.words.Spelling.{Spelling}
use Rattle.c_ast.specs.declared.operators.UnaryOp.TheVariants as U
use Rattle.c_ast.specs.Trees
use Rattle.c_ast.specs.WellFormed as Formed
use Rattle.c_ast.specs.WellFormed.{types_after}
use Rattle.c_typed.specs.Conversions.{is_scalar}
use Rattle.c_typed.specs.Trees as Typed
use Rattle.c_erasure.specs.Declarators.{AreDifferent, Shape, closed, is_name}
use Rattle.c_erasure.specs.Erasure.{Erases, AreValues, Values, IsTypeName, IsBase, IsOne, Specifies, Declares, AreFields, AreMembers, AreEnumerators}
use Rattle.c_erasure.specs.Erasure.{IsEnumeratorValue, after_all, comma_or, tag_text}
use Rattle.c_erasure.specs.Files.{IsFileDeclarator, AreFileDeclarators, IsDefinition, ErasesItem, IsFileOf}
use Rattle.c_erasure.specs.Initializers.{Part, part_at, texts_of, IsText, Initializes, IsOneValue, InitializeElements, InitializeFields, IsInitializer}
use Rattle.c_erasure.specs.Marks.{Mark, an_end, a_name, marks, marks_of_all, marks_of_type, marks_of_specifiers, marks_of_specifier, marks_of_members}
use Rattle.c_erasure.specs.Marks.{marks_of_member_declarators, marks_of_enumerators, marks_of_value, marks_of_declarator, an_enumeration, tag_name}
use Rattle.c_erasure.specs.Marks.{marks_of_initial, marks_of_declarators, marks_of_item, marks_of_file, name_from, after_declarator}
use Rattle.c_erasure.specs.Noted.{Noted, Expression, Path, Thing, an_object, type_of, type_of_path}
use Rattle.c_erasure.specs.Scopes.{AnObject, Scope, FileScope, measured, for_value, at_file_scope}
use Rattle.c_erasure.specs.Specifiers.{Storage, storage_of, no_storage, a_typedef, is_extern, is_static, is_auto, is_register, several, types_among}
use Rattle.c_checking_laws.proofs.WholeFiles.CompleteObjects.{mapped_at}
use Rattle.c_checking_units.proofs.Lists.{different_apart}
use Rattle.c_checking_units.proofs.Tracing as Tracing
use Rattle.c_checking_units.proofs.Tracing.{AreAll, record_at}

some_is : {A : Type 0} (x y : A) → Some x ≡ Some y → x ≡ y
some_is x y h = cc

abbrev anywhere : ℕ → Type 0
anywhere from = Unit {0}

more_specifiers : (types : List (List ℕ)) (specs : Trees.Specifiers) → Formed.AreSpecifiers types specs → Formed.AreMoreSpecifiers types specs
more_specifiers types Trees.no_specifiers w = absurd w
more_specifiers types (Trees.and_specifier s more) w = w

module _ (f : FileScope) where
  abbrev u : ℕ → List ℕ
  u = f.untagged

  -- the structure with that tag has a member
  abbrev IsFull : List ℕ → Type 0
  IsFull tag = (r : ℕ) × (rec : Record) × (slice_get f.records r ≡ Some rec) × (rec.tag ≡ tag) × (rec.fields ≢ [])

  record AreFull (u : List Mark) : Type 0 where
    pub all : AreAll anywhere IsFull u

  none : AreFull []
  none = record { all = tt }

  both : {a b : List Mark} → AreFull a → AreFull b → AreFull (a ++ b)
  both {a} {b} x y = record { all = Tracing.both anywhere IsFull a b x.all y.all }

  name_full : (from : ℕ) → AreFull (a_name from ∷ [])
  name_full from = record { all = (tt, tt) }

  -- ---- words and names have no such marks

  words_full : (specs : Trees.Specifiers) → types_among specs ≡ [] → AreFull (marks_of_specifiers u specs)
  words_full Trees.no_specifiers h = none
  words_full (Trees.and_specifier (Trees.plain word at) more) h = both none (words_full more h)
  words_full (Trees.and_specifier (Trees.typename x) more) h = cc
  words_full (Trees.and_specifier (Trees.struct_named at x) more) h = cc
  words_full (Trees.and_specifier (Trees.struct_body at x left all right) more) h = cc
  words_full (Trees.and_specifier (Trees.enum_named at x) more) h = cc
  words_full (Trees.and_specifier (Trees.enum_body at x left all comma right) more) h = cc

  by_words : (specs : Trees.Specifiers) (s : Scope) (t : CType) → IsBase (IsOne s specs) specs t
      → (IsOne s specs t → AreFull (marks_of_specifiers u specs)) → AreFull (marks_of_specifiers u specs)
  by_words specs s t (inl h) one = words_full specs h.0
  by_words specs s t (inr h) one = one h.1

  bare_full : (d : Trees.Declarator) → is_name d ≡ true → AreFull (marks_of_declarator u d)
  bare_full Trees.nothing h = none
  bare_full (Trees.named x) h = none
  bare_full (Trees.enclosed left d right) h = bare_full d h
  bare_full (Trees.pointer at consts d) h = cc
  bare_full (Trees.array d left length right) h = cc
  bare_full (Trees.function d left all right) h = cc

  enumeration_full : (x : Option Spelling) (right : ℕ) → AreFull (an_enumeration u x right)
  enumeration_full None right = none
  enumeration_full (Some x) right = record { all = tt }

  -- ---- members

  tag_same : (s : Scope) (at : ℕ) (x : Option Spelling) → s.file ≡ f → tag_text s at x ≡ tag_name u at x
  tag_same s at None e = ap (λ (f : FileScope). f.untagged at) e
  tag_same s at (Some x) e = refl

  members_some : (ds : Trees.MemberDeclarators) (s : Scope) (base : CType) (semicolon : ℕ) (fields : List Field) → ds ≢ Trees.no_member_declarators
      → AreMembers s base ds semicolon fields → fields ≢ []
  members_some Trees.no_member_declarators s base semicolon fields d h e = d refl
  members_some (Trees.and_member_declarator comma d more) s base semicolon fields n h e = let no = sym h.7 ∙ e in cc

  fields_some : (types : List (List ℕ)) (all : Trees.MemberDeclarations) (s : Scope) (fields : List Field) → all ≢ Trees.no_member_declarations
      → Formed.AreMemberDeclarations types all → AreFields s all fields → fields ≢ []
  fields_some types Trees.no_member_declarations s fields n well h e = n refl
  fields_some types (Trees.and_member_declaration specs ds semicolon more) s fields n well h e =
      first_none h.1 h.2 (members_some ds s h.0 semicolon h.1 well.1 h.6) (sym h.3 ∙ e)
    where
      first_none : (a b : List Field) → a ≢ [] → a ++ b ≡ [] → ⊥
      first_none [] b d e = d refl
      first_none (x ∷ a) b d e = cc

  record_full : (s : Scope) (at : ℕ) (x : Option Spelling) (r : ℕ) (rec : Record) (right : ℕ) → s.file ≡ f → slice_get s.file.records r ≡ Some rec
      → rec.tag ≡ tag_text s at x → rec.fields ≢ [] → AreFull (an_end (tag_name u at x) right ∷ [])
  record_full s at x r rec right e h t n =
      record { all = ((r, rec, subst (λ (f : FileScope). slice_get f.records r ≡ Some rec) e h, t ∙ tag_same s at x e, n), tt) }

  module _ (types : List (List ℕ)) where
    mutual
      full : (a : Trees.Expression) (s : Scope) (th : Thing) → s.file ≡ f → Formed.IsExpression types a → Erases a s th → AreFull (marks u a)
      full (Trees.name x) s th e w h = none
      full (Trees.number x v kind) s th e w h = none
      full (Trees.character x v) s th e w h = none
      full (Trees.texts all) s th e w h = none
      full (Trees.paren left a right) s th e w h = full a s th e w h
      full (Trees.index a left b right) s th e w (inl h) = both (full a s (an_object h.1) e w.1 h.5) (full b s h.6.0 e w.2 h.6.2)
      full (Trees.index a left b right) s th e w (inr (inl h)) = both (full a s h.4.0 e w.1 h.4.2) (full b s h.5.0 e w.2 h.5.2)
      full (Trees.index a left b right) s th e w (inr (inr h)) = both (full a s h.5.0 e w.1 h.5.2) (full b s h.6.0 e w.2 h.6.2)
      full (Trees.call c left all right) s th e w h = both (full c s h.1 e w.1 h.4) (values_full s h.2 all true e w.2 h.5)
      full (Trees.dot a at x) s th e w h = full a s (an_object h.1) e w.1 h.6
      full (Trees.arrow a at x) s th e w h = full a s h.6.0 e w.1 h.6.2
      full (Trees.post a op at) s th e w h = full a s (an_object h.1) e w.1 h.3
      full (Trees.pre op at a) s th e w h = full a s (an_object h.1) e w.1 h.3
      full (Trees.unary U.Address at a) s th e w h = full a s h.0 e w.1 h.2
      full (Trees.unary U.Deref at a) s th e w h = full a s h.2.0 e w.1 h.2.2
      full (Trees.unary U.Plus at a) s th e w h = full a s h.3.0 e w.1 h.3.2
      full (Trees.unary U.Minus at a) s th e w h = full a s h.3.0 e w.1 h.3.2
      full (Trees.unary U.Complement at a) s th e w h = full a s h.3.0 e w.1 h.3.2
      full (Trees.unary U.Not at a) s th e w h = full a s h.3.0 e w.1 h.3.2
      full (Trees.sizeof_expression at a) s th e w h = full a (measured s) h.1.0 e w.1 h.1.1
      full (Trees.sizeof_type at left t right) s th e w h = type_full t s h.0 e w h.1
      full (Trees.cast left t right a) s th e w h = both (type_full t s h.0 e w.1 h.2) (full a s h.4.0 e w.2 h.4.2)
      full (Trees.binary a op at b) s th e w h = both (full a s h.4.0 e w.2 h.4.2) (full b s h.5.0 e w.3 h.5.2)
      full (Trees.cond a question b colon c) s th e w h =
          both (both (full a s h.5.0 e w.2 h.5.2) (full b s h.6.0 e w.3 h.6.2)) (full c s h.7.0 e w.4 h.7.2)
      full (Trees.assign a op at b) s th e w (inl h) = both (full a s (an_object h.1) e w.2 h.5) (full b s h.6.0 e w.3 h.6.2)
      full (Trees.assign a op at b) s th e w (inr (inl h)) = both (full a s (an_object h.1) e w.2 h.5) (full b s (an_object h.2) e w.3 h.6)
      full (Trees.assign a op at b) s th e w (inr (inr h)) = both (full a s (an_object h.1) e w.2 h.6) (full b s h.7.0 e w.3 h.7.2)
      full (Trees.comma a at b) s th e w h = both (full a s h.4.0 e w.1 h.4.2) (full b s h.5.0 e w.2 h.5.2)
      full (Trees.braces left all comma right) s th e w h = absurd h

      values_full : (s : Scope) (xs : Typed.Expressions Noted) (all : Trees.Arguments) (first : Bool) → s.file ≡ f → Formed.AreArguments types first all
          → AreValues s xs all → AreFull (marks_of_all u all)
      values_full s xs Trees.no_arguments first e w h = none
      values_full s xs (Trees.and_argument comma a more) first e w h =
          both (full a s h.3.0 e w.2 h.3.2) (values_full s h.1 more false e w.3 h.4)

      type_full : (t : Trees.TypeName) (s : Scope) (ty : CType) → s.file ≡ f → Formed.IsTypeName types t → IsTypeName s t ty → AreFull (marks_of_type u t)
      type_full (Trees.type_name specs d) s ty e w h =
          both (by_words specs s h.0 h.2 (λ k. one_full specs s h.0 e (more_specifiers types specs w.0) k)) (lengths_full d s h.0 (closed ty) e w.1 h.3)

      one_full : (specs : Trees.Specifiers) (s : Scope) (t : CType) → s.file ≡ f → Formed.AreMoreSpecifiers types specs → IsOne s specs t
          → AreFull (marks_of_specifiers u specs)
      one_full Trees.no_specifiers s t e w h = absurd h
      one_full (Trees.and_specifier (Trees.plain word at) more) s t e w h = both none (one_full more s t e w.1 h)
      one_full (Trees.and_specifier (Trees.typename x) more) s t e w h = both none (words_full more h.1)
      one_full (Trees.and_specifier (Trees.struct_named at x) more) s t e w h =
          both (specifier_full (Trees.struct_named at x) s t e w.0 h.0) (words_full more h.1)
      one_full (Trees.and_specifier (Trees.struct_body at x left all right) more) s t e w h =
          both (specifier_full (Trees.struct_body at x left all right) s t e w.0 h.0) (words_full more h.1)
      one_full (Trees.and_specifier (Trees.enum_named at x) more) s t e w h = both none (words_full more h.1)
      one_full (Trees.and_specifier (Trees.enum_body at x left all comma right) more) s t e w h =
          both (specifier_full (Trees.enum_body at x left all comma right) s t e w.0 h.0) (words_full more h.1)

      specifier_full : (x : Trees.Specifier) (s : Scope) (t : CType) → s.file ≡ f → Formed.IsSpecifier types x → Specifies s x t
          → AreFull (marks_of_specifier u x)
      specifier_full (Trees.plain word at) s t e w h = none
      specifier_full (Trees.typename x) s t e w h = none
      specifier_full (Trees.struct_named at x) s t e w h = record { all = tt }
      specifier_full (Trees.struct_body at x left all right) s t e w h =
          let r = members_full all s h.1.fields e w.1 h.9 in
          let own = record_full s at x h.0 h.1 right e h.5 h.7 (fields_some types all s h.1.fields w.0 w.1 h.9) in
          let z = both r own in
          record { all = z.all }
      specifier_full (Trees.enum_named at x) s t e w h = none
      specifier_full (Trees.enum_body at x left all comma right) s t e w h =
          both (enumerators_full all true s 0 (after_all comma right) e w.1 h.2) (enumeration_full x right)

      lengths_full : (d : Trees.Declarator) (s : Scope) (t : CType) (shape : Shape) → s.file ≡ f → Formed.IsDeclarator types d → Declares s d t shape
          → AreFull (marks_of_declarator u d)
      lengths_full Trees.nothing s t shape e w h = none
      lengths_full (Trees.named x) s t shape e w h = none
      lengths_full (Trees.pointer at consts d) s t shape e w h = lengths_full d s (pointer t) shape e w h.1
      lengths_full (Trees.enclosed left d right) s t shape e w h = lengths_full d s t shape e w.1 h
      lengths_full (Trees.array d left (Trees.some_expression a) right) s t shape e w h =
          both (lengths_full d s (array t h.2) shape e w.1 h.8) (full a (for_value s) h.3.1.0 e w.2.1 h.3.1.2)
      lengths_full (Trees.array d left Trees.no_expression right) s t shape e w h = both (bare_full d h.1) none
      lengths_full (Trees.function d left all right) s t shape e w h = lengths_full d s (function t h.0) shape e w.1 h.4

      members_full : (all : Trees.MemberDeclarations) (s : Scope) (fields : List Field) → s.file ≡ f → Formed.AreMemberDeclarations types all
          → AreFields s all fields → AreFull (marks_of_members u all)
      members_full Trees.no_member_declarations s fields e w h = none
      members_full (Trees.and_member_declaration specs ds semicolon more) s fields e w h =
          both (both (by_words specs s h.0 h.5 (λ k. one_full specs s h.0 e (more_specifiers types specs w.0) k))
          (line_full ds true s h.0 semicolon h.1 e w.2 h.6)) (members_full more s h.2 e w.3 h.7)

      line_full : (ds : Trees.MemberDeclarators) (first : Bool) (s : Scope) (base : CType) (semicolon : ℕ) (fields : List Field) → s.file ≡ f
          → Formed.AreMemberDeclarators types first ds → AreMembers s base ds semicolon fields → AreFull (marks_of_member_declarators u ds)
      line_full Trees.no_member_declarators first s base semicolon fields e w h = none
      line_full (Trees.and_member_declarator comma d more) first s base semicolon fields e w h =
          both (lengths_full d s base (closed h.1) e w.1 h.4) (line_full more false s base semicolon h.2 e w.3 h.8)

      enumerators_full : (all : Trees.Enumerators) (first : Bool) (s : Scope) (next after : ℕ) → s.file ≡ f → Formed.AreEnumerators types first all
          → AreEnumerators s next all after → AreFull (marks_of_enumerators u all after)
      enumerators_full Trees.no_enumerators first s next after e w h = none
      enumerators_full (Trees.and_enumerator comma x value more) first s next after e w h =
          let a = enumerator_full value s next h.0 e w.2 h.1 in
          let c = enumerators_full more false s ((h.0 + 1) % 2 ^ 32) after e w.3 h.3 in
          both a (both (name_full (comma_or more after)) c)

      enumerator_full : (value : Trees.EnumeratorValue) (s : Scope) (next v : ℕ) → s.file ≡ f → Formed.IsEnumeratorValue types value
          → IsEnumeratorValue s next value v → AreFull (marks_of_value u value)
      enumerator_full Trees.no_value s next v e w h = none
      enumerator_full (Trees.valued equal a) s next v e w h = full a (for_value s) h.1.1.0 e w.1 h.1.1.2

    base_full : (specs : Trees.Specifiers) (s : Scope) (t : CType) → s.file ≡ f → Formed.AreSpecifiers types specs → IsBase (IsOne s specs) specs t
        → AreFull (marks_of_specifiers u specs)
    base_full specs s t e w h = by_words specs s t h (λ k. one_full specs s t e (more_specifiers types specs w) k)

    -- ---- initializers

    text_full : (a : Trees.Expression) (s : Scope) (t : CType) (at : ℕ) (parts : List Part) → IsText (texts_of a) s t at parts → AreFull (marks u a)
    text_full (Trees.texts all) s t at parts h = none
    text_full (Trees.braces left Trees.no_arguments last right) s t at parts h = absurd h
    text_full (Trees.braces left (Trees.and_argument comma (Trees.texts all) Trees.no_arguments) last right) s t at parts h = none
    text_full (Trees.braces left (Trees.and_argument comma (Trees.texts all) (Trees.and_argument second b more)) last right) s t at parts h = absurd h
    text_full (Trees.braces left (Trees.and_argument comma a more) last right) s t at parts h = absurd h
    text_full a s t at parts h = absurd h

    abbrev IsSingle : Trees.Expression → Scope → CType → ℕ → List Part → Type 0
    IsSingle a s t at parts =
        ((x : Expression) × (is_scalar t ≡ true) × (type_of x ≡ t) × (parts ≡ part_at at (Typed.value x)) × Values (Erases a s) x)
        ⊎ ((r : ℕ) × (p : Path) × (t ≡ structure r) × (type_of_path p ≡ t) × (parts ≡ part_at at (Typed.record_of p)) × Erases a s (an_object p))
        ⊎ IsText (texts_of a) s t at parts

    single_full : (a : Trees.Expression) (s : Scope) (t : CType) (at : ℕ) (parts : List Part) → s.file ≡ f → Formed.IsExpression types a
        → IsSingle a s t at parts → AreFull (marks u a)
    single_full a s t at parts e w (inl h) = full a s h.4.0 e w h.4.2
    single_full a s t at parts e w (inr (inl h)) = full a s (an_object h.1) e w h.5
    single_full a s t at parts e w (inr (inr h)) = text_full a s t at parts h

    -- an expression, or one in braces whose initializer is none of an array or a structure
    value_full : (a : Trees.Expression) (s : Scope) (x : Expression) → s.file ≡ f → Formed.IsInitializer types a → Values (Erases a s) x → AreFull (marks u a)
    value_full (Trees.braces left all last right) s x e w h = absurd h.2
    value_full a s x e w h = full a s h.0 e w.1 h.2

    one_value : (all : Trees.Arguments) (first : Bool) (s : Scope) (x : Expression) → s.file ≡ f → Formed.AreInitializers types first all → IsOneValue all s x
        → AreFull (marks_of_all u all)
    one_value Trees.no_arguments first s x e w h = absurd h
    one_value (Trees.and_argument comma a Trees.no_arguments) first s x e w h = both (value_full a s x e w.1 h) none
    one_value (Trees.and_argument comma a (Trees.and_argument second b more)) first s x e w h = absurd h

    mutual
      initial_full : (a : Trees.Expression) (s : Scope) (t : CType) (at : ℕ) (parts : List Part) → s.file ≡ f → Formed.IsInitializer types a
          → Initializes a s t at parts → AreFull (marks u a)
      initial_full (Trees.braces left all last right) s t at parts e w (inl h) = one_value all true s h.0 e w.1 h.4
      initial_full (Trees.braces left all last right) s t at parts e w (inr (inl h)) = elements_full all true s h.1 h.0 at parts e w.1 h.4
      initial_full (Trees.braces left all last right) s t at parts e w (inr (inr (inl h))) = fields_full all true s h.0 0 h.1.fields at parts e w.1 h.4
      initial_full (Trees.braces left all last right) s t at parts e w (inr (inr (inr h))) = text_full (Trees.braces left all last right) s t at parts h
      initial_full a s t at parts e w h = single_full a s t at parts e w.1 h

      elements_full : (all : Trees.Arguments) (first : Bool) (s : Scope) (ty : CType) (k at : ℕ) (parts : List Part) → s.file ≡ f
          → Formed.AreInitializers types first all → InitializeElements all s ty k at parts → AreFull (marks_of_all u all)
      elements_full Trees.no_arguments first s ty k at parts e w h = none
      elements_full (Trees.and_argument comma a more) first s ty k at parts e w h =
          both (initial_full a s ty at h.1 e w.1 h.5) (elements_full more false s ty h.0 _ h.2 e w.2 h.6)

      fields_full : (all : Trees.Arguments) (first : Bool) (s : Scope) (r k : ℕ) (fields : List Field) (at : ℕ) (parts : List Part) → s.file ≡ f
          → Formed.AreInitializers types first all → InitializeFields all s r k fields at parts → AreFull (marks_of_all u all)
      fields_full Trees.no_arguments first s r k fields at parts e w h = none
      fields_full (Trees.and_argument comma a more) first s r k fields at parts e w h =
          both (initial_full a s h.0.ty _ h.2 e w.1 h.6) (fields_full more false s r (k + 1) h.1 at h.3 e w.2 h.7)

    initializer_full : (a : Trees.Expression) (s : Scope) (t : CType) (i : Typed.Initializer Noted) → s.file ≡ f → Formed.IsInitializer types a
        → IsInitializer a s t i → AreFull (marks u a)
    initializer_full a s t i e w (inl h) = initial_full a s t 0 _ e w h.3
    initializer_full a s t i e w (inr (inl h)) = initial_full a s t 0 _ e w h.4
    initializer_full a s t i e w (inr (inr h)) = initial_full a s t 0 h.0 e w h.3

    -- ---- declarators of the file scope

    abbrev F : Scope
    F = at_file_scope f

    value_of_object : (v : Option (ℕ × Trees.Expression)) (place : ℕ) (t : CType) (o : AnObject) → Formed.IsValue types v
        → IsDefinition F place t v o → AreFull (marks_of_initial u v)
    value_of_object None place t o w h = none
    value_of_object (Some v) place t o w h = initializer_full v.1 F t h.0 refl w h.1.0

    no_value : (v : Option (ℕ × Trees.Expression)) → v ≡ None → AreFull (marks_of_initial u v)
    no_value v h = subst (λ v. AreFull (marks_of_initial u v)) (sym h) none

    abbrev IsFullDeclarator : Trees.InitDeclarator → ℕ → Type 0
    IsFullDeclarator d from = AreFull (marks_of_declarator u d.declarator ++ a_name from ∷ marks_of_initial u d.value)

    with_name : (d : Trees.InitDeclarator) (from : ℕ) → AreFull (marks_of_declarator u d.declarator) → AreFull (marks_of_initial u d.value)
        → IsFullDeclarator d from
    with_name d from a b = both a (both (name_full from) b)

    declarator_full : (words : Storage) (base : CType) (d : Trees.InitDeclarator) (x : Spelling) (place from : ℕ) → Formed.IsDeclarator types d.declarator
        → Formed.IsValue types d.value → IsFileDeclarator f words base d x place from → IsFullDeclarator d from
    declarator_full a_typedef base d x place from w v h = with_name d from (lengths_full d.declarator F base (closed h.0) refl w h.3) (no_value d.value h.1)
    declarator_full no_storage base d x place from w v (inl h) = with_name d from (lengths_full d.declarator F base (closed h.0) refl w h.2) (no_value d.value h.1)
    declarator_full no_storage base d x place from w v (inr h) =
        with_name d from (lengths_full d.declarator F base h.0 refl w h.4) (value_of_object d.value place h.1 h.3 v h.16)
    declarator_full is_extern base d x place from w v (inl h) = with_name d from (lengths_full d.declarator F base (closed h.0) refl w h.2) (no_value d.value h.1)
    declarator_full is_extern base d x place from w v (inr h) =
        with_name d from (lengths_full d.declarator F base h.0 refl w h.4) (value_of_object d.value place h.1 h.3 v h.16)
    declarator_full is_static base d x place from w v (inl h) = with_name d from (lengths_full d.declarator F base (closed h.0) refl w h.2) (no_value d.value h.1)
    declarator_full is_static base d x place from w v (inr h) =
        with_name d from (lengths_full d.declarator F base h.0 refl w h.4) (value_of_object d.value place h.1 h.3 v h.16)
    declarator_full is_auto base d x place from w v h = absurd h
    declarator_full is_register base d x place from w v h = absurd h
    declarator_full several base d x place from w v h = absurd h

    declarators_full : (ds : List Trees.InitDeclarator) (first : Bool) (words : Storage) (base : CType) (semicolon : ℕ)
        → Formed.AreInitDeclarators types first ds → AreFileDeclarators f words base ds semicolon → AreFull (marks_of_declarators u ds semicolon)
    declarators_full [] first words base semicolon w h = none
    declarators_full (d ∷ more) first words base semicolon w h =
        both (declarator_full words base d h.0 _ (name_from d.value (after_declarator more semicolon)) w.1 w.3 h.2)
        (declarators_full more false words base semicolon w.4 h.3)

    item_full : (item : Trees.Item) → Formed.IsItem types item → ErasesItem f item → AreFull (marks_of_item u item)
    item_full (Trees.declaration d) w h =
        both (base_full d.specs F h.0 refl w.0 h.2) (declarators_full d.all true (storage_of d.specs) h.0 d.semicolon w.1 h.4)
    item_full (Trees.defines specs d left items right) w h =
        both (both (base_full specs F h.0 refl w.0 h.7) (lengths_full d F h.0 (closed (function h.1 h.2)) refl w.1 h.10)) (name_full left)

  items_full : (types : List (List ℕ)) (items : List Trees.Item) → Formed.AreItems types items → AllByRecursion (ErasesItem f) items
      → AreFull (marks_of_file u items)
  items_full types [] w h = none
  items_full types (item ∷ items) w h = both (item_full types item w.0 h.0) (items_full (types_after types item) items w.1 h.1)

  pub records_full : (items : List Trees.Item) → Formed.AreItems [] items → IsFileOf items f → (r : ℕ) (rec : Record) → slice_get f.records r ≡ Some rec
      → rec.fields ≢ []
  records_full items well h r rec e =
      let tag : slice_get (map (λ (r : Record). r.tag) f.records) r ≡ Some rec.tag = mapped_at (λ (r : Record). r.tag) f.records r rec e in
      let all = (items_full [] items well (recursion_from_All (ErasesItem f) items h.each_item)).all in
      let z = record_at anywhere IsFull (marks_of_file u items) r rec.tag all (subst (λ all. slice_get all r ≡ Some rec.tag) h.records tag) in
      let other = mapped_at (λ (r : Record). r.tag) f.records z.0 z.1 z.2 ∙ ap Some z.3 in
      let same : z.0 ≡ r = different_apart (map (λ r. r.tag) f.records) (subst AreDifferent (sym h.records) h.defined_once) z.0 r rec.tag other tag in
      let there : slice_get f.records r ≡ Some z.1 = subst (λ r. slice_get f.records r ≡ Some z.1) same z.2 in
      subst (λ (r : Record). r.fields ≢ []) (some_is z.1 rec (sym there ∙ e)) z.4
