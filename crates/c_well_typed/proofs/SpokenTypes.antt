-- The types of which a file speaks in its expressions, specifiers and declarators, and those of the fields of the structures that it defines there
-- (C99 6.5.3.4, 6.5.4, 6.7.2 to 6.7.6), have what all types have that functions and arrays can have (`IsWellMade`), where the operands of `sizeof` have it.
use Rattle.std.proofs.Common.{◌≡◌, ◌∙◌, ℕ, ◌+◌, ◌≤◌, ◌%◌, ◌^◌, true, false, refl, sym, ap, subst, List, [], ◌∷◌, ◌++◌, inl, inr}
use Rattle.std.specs.Prelude.{Option, Some, None, slice_get}
use Rattle.std.specs.List.{AllByRecursion}
use Rattle.c_types.specs.Types.{CType, CTypes, pointer, array, function, Field, Record}
use Rattle.c_types.specs.Objects.{is_object}
use Rattle.c_ast.specs.declared.operators.UnaryOp.TheVariants as U
use Rattle.c_ast.specs.declared.words.Spelling.{Spelling}
use Rattle.c_ast.specs.Places.{first_specifiers, first_declarator}
use Rattle.c_ast.specs.Trees
use Rattle.c_typed.specs.declared.program.MentionKind.{MentionKind}
use Rattle.c_typed.specs.declared.program.MentionKind.TheVariants.{Named, Sizeof}
use Rattle.c_typed.specs.Trees as Typed
use Rattle.c_erasure.specs.Declarators.{closed, is_name, Shape, declared_name, parameter_type}
use Rattle.c_erasure.specs.Erasure.{IsMeasured, Erases, AreValues, IsTypeName, IsBase, IsOne, Specifies, Declares, AreFields, AreMembers, AreEnumerators}
use Rattle.c_erasure.specs.Erasure.{IsEnumeratorValue, AreListed, IsSize, after_all, comma_or, place_of_name, tag_text, with_parameter_if_named}
use Rattle.c_erasure.specs.Marks.{Mark, an_end, a_name, marks, marks_of_all, marks_of_type, marks_of_specifiers, marks_of_specifier}
use Rattle.c_erasure.specs.Marks.{marks_of_members, marks_of_member_declarators, marks_of_enumerators, marks_of_value, marks_of_declarator, an_enumeration}
use Rattle.c_erasure.specs.Marks.{tag_name}
use Rattle.c_erasure.specs.MentionPlaces.{spoken, spoken_of_all, spoken_of_type, spoken_of_specifiers, spoken_of_specifier, spoken_of_members}
use Rattle.c_erasure.specs.MentionPlaces.{spoken_of_fields, spoken_of_enumerators, spoken_of_value, spoken_of_declarator, spoken_of_parameters}
use Rattle.c_erasure.specs.Noted.{Noted, Thing, an_object}
use Rattle.c_erasure.specs.Scopes.{Entity, Scope, FileScope, Purpose, in_full, value_alone, type_alone, purpose_of_value, is_measured, IsListedAt, IsMentioned}
use Rattle.c_erasure.specs.Scopes.{measured, for_value, inside, visible, ended}
use Rattle.c_erasure.specs.Specifiers.{types_among}
use Rattle.c_checking_laws.proofs.CompletePart.{complete_stays}
use Rattle.c_checking_units.proofs.Tracing as Tracing
use Rattle.c_checking_units.proofs.Tracing.{AreAll}
use Rattle.c_well_typed.proofs.KnownTypes.{base_known, declarator_known, listed_known, type_known}
use Rattle.c_well_typed.proofs.NamedTypes.{IsMadeEntity, IsMadeScope, inside_made, parameter_in, parameter_made, elements}
use Rattle.c_well_typed.proofs.NamesInScope.{joined}
use Rattle.c_well_typed.proofs.WellMade.{IsWellMade, AreWellMade}

pub value_told : (p : Purpose) → is_measured p ≡ false → is_measured (purpose_of_value p) ≡ false
value_told in_full h = refl
value_told value_alone h = refl
value_told type_alone h = cc

parameter_told : (s : Scope) (x : Option Spelling) (t : CType) → is_measured s.purpose ≡ false
    → is_measured (with_parameter_if_named s x t).purpose ≡ false
parameter_told s None t h = h
parameter_told s (Some x) t h = h

abbrev pub anywhere : ℕ → Type 0
anywhere from = Unit {0}

module _ (f : FileScope) (count : ℕ) (less : (at : ℕ) → ended f.ends at ≤ count)
    (visible_made : (x : List ℕ) (at : ℕ) (e : Entity) → visible f.names x at ≡ Some e → IsMadeEntity f count less e)
    (H : CType → Type 0) (of_made : (t : CType) → IsWellMade count t → H t)
    (sized : (a : Trees.Expression) (s : Scope) (t : CType) → IsMadeScope f count less s → IsMeasured (Erases a) s t → is_object count t ≡ true → H t) where
  abbrev u : ℕ → List ℕ
  u = f.untagged

  abbrev W : CType → Type 0
  W = IsWellMade count

  abbrev In : Scope → Type 0
  In s = IsMadeScope f count less s

  abbrev pub AreMadeFields : List Field → Type 0
  AreMadeFields fields = AllByRecursion (λ (x : Field). IsWellMade count x.ty) fields

  -- the structure with that tag has such fields
  abbrev pub IsMadeRecord : List ℕ → Type 0
  IsMadeRecord tag = (r : ℕ) × (rec : Record) × (slice_get f.records r ≡ Some rec) × (rec.tag ≡ tag) × AreMadeFields rec.fields

  -- the file speaks there of such a type
  abbrev pub IsSpoken : ℕ → Type 0
  IsSpoken at = (kind : MentionKind) × (t : CType) × IsListedAt f.mentions kind t at × H t

  abbrev pub AreSpoken : List ℕ → Type 0
  AreSpoken places = AllByRecursion IsSpoken places

  -- of the marks of a part, and of its places where it is no operand of a `sizeof`
  pub record IsTold (p : Purpose) (u : List Mark) (places : List ℕ) : Type 0 where
    pub marks : AreAll anywhere IsMadeRecord u
    pub spoken : is_measured p ≡ false → AreSpoken places

  pub spoken_both : (a b : List ℕ) → AreSpoken a → AreSpoken b → AreSpoken (a ++ b)
  spoken_both a b h k = joined IsSpoken a b h k

  pub marks_both : (a b : List Mark) → AreAll anywhere IsMadeRecord a → AreAll anywhere IsMadeRecord b → AreAll anywhere IsMadeRecord (a ++ b)
  marks_both a b h k = Tracing.both anywhere IsMadeRecord a b h k

  pub none : {p : Purpose} → IsTold p [] []
  none = record { marks = tt; spoken = λ n. tt }

  pub both : {p : Purpose} {a b : List Mark} {x y : List ℕ} → IsTold p a x → IsTold p b y → IsTold p (a ++ b) (x ++ y)
  both {p} {a} {b} {x} {y} h k = record { marks = marks_both a b h.marks k.marks; spoken = λ n. spoken_both x y (h.spoken n) (k.spoken n) }

  pub of_value : {p : Purpose} {a : List Mark} {x : List ℕ} → IsTold (purpose_of_value p) a x → IsTold p a x
  of_value {p} h = record { marks = h.marks; spoken = λ n. h.spoken (value_told p n) }

  pub place_told : (s : Scope) (kind : MentionKind) (t : CType) (at : ℕ) → In s → IsMentioned s kind t at → H t → is_measured s.purpose ≡ false
      → IsSpoken at
  place_told s kind t at i (inl m) w n = let true_is_false : true ≡ false = sym m ∙ n in cc
  place_told s kind t at i (inr l) w n = (kind, t, subst (λ (f : FileScope). IsListedAt f.mentions kind t at) i.0 l, w)

  -- ---- words and names

  words_told : {p : Purpose} (specs : Trees.Specifiers) → types_among specs ≡ [] → IsTold p (marks_of_specifiers u specs) (spoken_of_specifiers specs)
  words_told Trees.no_specifiers h = none
  words_told (Trees.and_specifier (Trees.plain word at) more) h = words_told more h
  words_told (Trees.and_specifier (Trees.typename x) more) h = cc
  words_told (Trees.and_specifier (Trees.struct_named at x) more) h = cc
  words_told (Trees.and_specifier (Trees.struct_body at x left all right) more) h = cc
  words_told (Trees.and_specifier (Trees.enum_named at x) more) h = cc
  words_told (Trees.and_specifier (Trees.enum_body at x left all comma right) more) h = cc

  by_words : (specs : Trees.Specifiers) (s : Scope) (t : CType) → IsBase (IsOne s specs) specs t
      → (IsOne s specs t → IsTold s.purpose (marks_of_specifiers u specs) (spoken_of_specifiers specs))
      → IsTold s.purpose (marks_of_specifiers u specs) (spoken_of_specifiers specs)
  by_words specs s t (inl h) one = words_told specs h.0
  by_words specs s t (inr h) one = one h.1

  bare_told : {p : Purpose} (d : Trees.Declarator) → is_name d ≡ true → IsTold p (marks_of_declarator u d) (spoken_of_declarator d)
  bare_told Trees.nothing h = none
  bare_told (Trees.named x) h = none
  bare_told (Trees.enclosed left d right) h = bare_told d h
  bare_told (Trees.pointer at consts d) h = cc
  bare_told (Trees.array d left length right) h = cc
  bare_told (Trees.function d left all right) h = cc

  enumeration_told : (x : Option Spelling) (right : ℕ) → AreAll anywhere IsMadeRecord (an_enumeration u x right)
  enumeration_told None right = tt
  enumeration_told (Some x) right = tt

  -- ---- structures

  tag_same : (s : Scope) (at : ℕ) (x : Option Spelling) → s.file ≡ f → tag_text s at x ≡ tag_name u at x
  tag_same s at None e = ap (λ (f : FileScope). f.untagged at) e
  tag_same s at (Some x) e = refl

  members_made : (ds : Trees.MemberDeclarators) (s : Scope) (base : CType) (semicolon : ℕ) (fields : List Field) → In s → W base
      → AreMembers s base ds semicolon fields → AreMadeFields fields
  members_made Trees.no_member_declarators s base semicolon fields i m h = subst AreMadeFields (sym h) tt
  members_made (Trees.and_member_declarator comma d more) s base semicolon fields i m h =
      subst AreMadeFields (sym h.7)
      (declarator_known f count less visible_made d s base (closed h.1) i m h.4, members_made more s base semicolon h.2 i m h.8)

  fields_made : (all : Trees.MemberDeclarations) (s : Scope) (fields : List Field) → In s → AreFields s all fields → AreMadeFields fields
  fields_made Trees.no_member_declarations s fields i h = subst AreMadeFields (sym h) tt
  fields_made (Trees.and_member_declaration specs ds semicolon more) s fields i h =
      subst AreMadeFields (sym h.3)
      (joined (λ (x : Field). IsWellMade count x.ty) h.1 h.2
      (members_made ds s h.0 semicolon h.1 i (base_known f count less visible_made specs s h.0 i h.5) h.6) (fields_made more s h.2 i h.7))

  record_made : (s : Scope) (at : ℕ) (x : Option Spelling) (r : ℕ) (rec : Record) → s.file ≡ f → slice_get s.file.records r ≡ Some rec
      → rec.tag ≡ tag_text s at x → AreMadeFields rec.fields → IsMadeRecord (tag_name u at x)
  record_made s at x r rec e h t m = (r, rec, subst (λ (f : FileScope). slice_get f.records r ≡ Some rec) e h, t ∙ tag_same s at x e, m)

  size_complete : (s : Scope) (at by : ℕ) (t : CType) (th : Thing) → In s → IsSize s at by t th → is_object count t ≡ true
  size_complete s at by t th i h =
      complete_stays (ended f.ends by) count t (less by) (subst (λ (f : FileScope). is_object (ended f.ends by) t ≡ true) i.0 h.0)

  size_told : (s : Scope) (at by : ℕ) (t : CType) (th : Thing) → In s → IsSize s at by t th → H t → is_measured s.purpose ≡ false → IsSpoken at
  size_told s at by t th i h w n = place_told s Sizeof t at i h.1 w n

  mutual
    pub told : (a : Trees.Expression) (s : Scope) (th : Thing) → In s → Erases a s th → IsTold s.purpose (marks u a) (spoken a)
    told (Trees.name x) s th e h = none
    told (Trees.number x v kind) s th e h = none
    told (Trees.character x v) s th e h = none
    told (Trees.texts all) s th e h = none
    told (Trees.paren left a right) s th e h = told a s th e h
    told (Trees.index a left b right) s th e (inl h) = both (told a s (an_object h.1) e h.5) (told b s h.6.0 e h.6.2)
    told (Trees.index a left b right) s th e (inr (inl h)) = both (told a s h.4.0 e h.4.2) (told b s h.5.0 e h.5.2)
    told (Trees.index a left b right) s th e (inr (inr h)) = both (told a s h.5.0 e h.5.2) (told b s h.6.0 e h.6.2)
    told (Trees.call c left all right) s th e h = both (told c s h.1 e h.4) (values_told s h.2 all e h.5)
    told (Trees.dot a at x) s th e h = told a s (an_object h.1) e h.6
    told (Trees.arrow a at x) s th e h = told a s h.6.0 e h.6.2
    told (Trees.post a op at) s th e h = told a s (an_object h.1) e h.3
    told (Trees.pre op at a) s th e h = told a s (an_object h.1) e h.3
    told (Trees.unary U.Address at a) s th e h = told a s h.0 e h.2
    told (Trees.unary U.Deref at a) s th e h = told a s h.2.0 e h.2.2
    told (Trees.unary U.Plus at a) s th e h = told a s h.3.0 e h.3.2
    told (Trees.unary U.Minus at a) s th e h = told a s h.3.0 e h.3.2
    told (Trees.unary U.Complement at a) s th e h = told a s h.3.0 e h.3.2
    told (Trees.unary U.Not at a) s th e h = told a s h.3.0 e h.3.2
    told (Trees.sizeof_expression at a) s th e h =
        let r = told a (measured s) h.1.0 e h.1.1 in
        let w = sized a s h.0 e h.1 (size_complete s at at h.0 th e h.2) in
        record { marks = r.marks; spoken = λ n. (size_told s at at h.0 th e h.2 w n, tt) }
    told (Trees.sizeof_type at left t right) s th e h =
        let r = type_told t s h.0 e h.2 h.1 in
        let w = of_made h.0 (type_known f count less visible_made t s h.0 e h.1) in
        record { marks = r.marks; spoken = λ n. (size_told s at right h.0 th e h.3 w n, r.spoken n) }
    told (Trees.cast left t right a) s th e h = both (type_told t s h.0 e h.3 h.2) (told a s h.4.0 e h.4.2)
    told (Trees.binary a op at b) s th e h = both (told a s h.4.0 e h.4.2) (told b s h.5.0 e h.5.2)
    told (Trees.cond a question b colon c) s th e h =
        both (both (told a s h.5.0 e h.5.2) (told b s h.6.0 e h.6.2)) (told c s h.7.0 e h.7.2)
    told (Trees.assign a op at b) s th e (inl h) = both (told a s (an_object h.1) e h.5) (told b s h.6.0 e h.6.2)
    told (Trees.assign a op at b) s th e (inr (inl h)) = both (told a s (an_object h.1) e h.5) (told b s (an_object h.2) e h.6)
    told (Trees.assign a op at b) s th e (inr (inr h)) = both (told a s (an_object h.1) e h.6) (told b s h.7.0 e h.7.2)
    told (Trees.comma a at b) s th e h = both (told a s h.4.0 e h.4.2) (told b s h.5.0 e h.5.2)
    told (Trees.braces left all comma right) s th e h = absurd h

    values_told : (s : Scope) (xs : Typed.Expressions Noted) (all : Trees.Arguments) → In s → AreValues s xs all
        → IsTold s.purpose (marks_of_all u all) (spoken_of_all all)
    values_told s xs Trees.no_arguments e h = none
    values_told s xs (Trees.and_argument comma a more) e h = both (told a s h.3.0 e h.3.2) (values_told s h.1 more e h.4)

    type_told : (t : Trees.TypeName) (s : Scope) (ty : CType) → In s → IsMentioned s Named ty (place_of_name t) → IsTypeName s t ty
        → IsTold s.purpose (marks_of_type u t) (spoken_of_type t)
    type_told (Trees.type_name specs d) s ty e m h =
        let w = of_made ty (type_known f count less visible_made (Trees.type_name specs d) s ty e h) in
        let b = by_words specs s h.0 h.2 (λ k. one_told specs s h.0 e k) in
        let c = lengths_told d s h.0 (closed ty) e (base_known f count less visible_made specs s h.0 e h.2) h.3 in
        both b (record { marks = c.marks; spoken = λ n. (place_told s Named ty (first_declarator d (first_specifiers specs)) e m w n, c.spoken n) })

    one_told : (specs : Trees.Specifiers) (s : Scope) (t : CType) → In s → IsOne s specs t
        → IsTold s.purpose (marks_of_specifiers u specs) (spoken_of_specifiers specs)
    one_told Trees.no_specifiers s t e h = absurd h
    one_told (Trees.and_specifier (Trees.plain word at) more) s t e h = one_told more s t e h
    one_told (Trees.and_specifier (Trees.typename x) more) s t e h = words_told more h.1
    one_told (Trees.and_specifier (Trees.struct_named at x) more) s t e h =
        both (specifier_told (Trees.struct_named at x) s t e h.0) (words_told more h.1)
    one_told (Trees.and_specifier (Trees.struct_body at x left all right) more) s t e h =
        both (specifier_told (Trees.struct_body at x left all right) s t e h.0) (words_told more h.1)
    one_told (Trees.and_specifier (Trees.enum_named at x) more) s t e h = words_told more h.1
    one_told (Trees.and_specifier (Trees.enum_body at x left all comma right) more) s t e h =
        both (specifier_told (Trees.enum_body at x left all comma right) s t e h.0) (words_told more h.1)

    specifier_told : (x : Trees.Specifier) (s : Scope) (t : CType) → In s → Specifies s x t → IsTold s.purpose (marks_of_specifier u x) (spoken_of_specifier x)
    specifier_told (Trees.plain word at) s t e h = none
    specifier_told (Trees.typename x) s t e h = none
    specifier_told (Trees.struct_named at x) s t e h = record { marks = tt; spoken = λ n. tt }
    specifier_told (Trees.struct_body at x left all right) s t e h =
        let r = members_told all s h.1.fields e h.9 in
        let own = record_made s at x h.0 h.1 e.0 h.5 h.7 (fields_made all s h.1.fields e h.9) in
        record { marks = marks_both (marks_of_members u all) (an_end (tag_name u at x) right ∷ []) r.marks (own, tt); spoken = r.spoken }
    specifier_told (Trees.enum_named at x) s t e h = none
    specifier_told (Trees.enum_body at x left all comma right) s t e h =
        let r = enumerators_told all s 0 (after_all comma right) e h.2 in
        record {
          marks = marks_both (marks_of_enumerators u all (after_all comma right)) (an_enumeration u x right) r.marks (enumeration_told x right);
          spoken = r.spoken;
        }

    pub lengths_told : (d : Trees.Declarator) (s : Scope) (t : CType) (shape : Shape) → In s → W t → Declares s d t shape
        → IsTold s.purpose (marks_of_declarator u d) (spoken_of_declarator d)
    lengths_told Trees.nothing s t shape e m h = none
    lengths_told (Trees.named x) s t shape e m h = none
    lengths_told (Trees.pointer at consts d) s t shape e m h = lengths_told d s (pointer t) shape e m h.1
    lengths_told (Trees.enclosed left d right) s t shape e m h = lengths_told d s t shape e m h
    lengths_told (Trees.array d left (Trees.some_expression a) right) s t shape e m h =
        let own : W (array t h.2) = (h.5, elements f count less s left t e.0 h.6, m) in
        both (lengths_told d s (array t h.2) shape e own h.8) (of_value (told a (for_value s) h.3.1.0 e h.3.1.2))
    lengths_told (Trees.array d left Trees.no_expression right) s t shape e m h = both (bare_told d h.1) none
    lengths_told (Trees.function d left (Trees.void_alone at) right) s t shape e m h =
        let own : W (function t h.0) = (h.2, m, subst (AreWellMade count) (sym h.1) tt) in
        let r = lengths_told d s (function t h.0) shape e own h.4 in
        record { marks = r.marks; spoken = λ n. spoken_both (spoken_of_declarator d) [] (r.spoken n) tt }
    lengths_told (Trees.function d left (Trees.listed all) right) s t shape e m h =
        let i = inside_made f count less s e in
        let own : W (function t h.0) = (h.2, m, listed_known f count less visible_made all (inside s) h.0 i h.1) in
        let r = lengths_told d s (function t h.0) shape e own h.4 in
        record {
          marks = r.marks;
          spoken = λ n. spoken_both (spoken_of_declarator d) (spoken_of_parameters all) (r.spoken n) (parameters_told all (inside s) h.0 i h.1 n);
        }

    members_told : (all : Trees.MemberDeclarations) (s : Scope) (fields : List Field) → In s → AreFields s all fields
        → IsTold s.purpose (marks_of_members u all) (spoken_of_members all)
    members_told Trees.no_member_declarations s fields e h = none
    members_told (Trees.and_member_declaration specs ds semicolon more) s fields e h =
        both (both (by_words specs s h.0 h.5 (λ k. one_told specs s h.0 e k))
        (line_told ds s h.0 semicolon h.1 e (base_known f count less visible_made specs s h.0 e h.5) h.6)) (members_told more s h.2 e h.7)

    line_told : (ds : Trees.MemberDeclarators) (s : Scope) (base : CType) (semicolon : ℕ) (fields : List Field) → In s → W base
        → AreMembers s base ds semicolon fields → IsTold s.purpose (marks_of_member_declarators u ds) (spoken_of_fields ds semicolon)
    line_told Trees.no_member_declarators s base semicolon fields e m h = none
    line_told (Trees.and_member_declarator comma d more) s base semicolon fields e m h =
        let c = lengths_told d s base (closed h.1) e m h.4 in
        let w = of_made h.1 (declarator_known f count less visible_made d s base (closed h.1) e m h.4) in
        let r = line_told more s base semicolon h.2 e m h.8 in
        both {x = first_declarator d semicolon ∷ spoken_of_declarator d}
        (record { marks = c.marks; spoken = λ n. (place_told s Named h.1 (first_declarator d semicolon) e h.6 w n, c.spoken n) }) r

    enumerators_told : (all : Trees.Enumerators) (s : Scope) (next after : ℕ) → In s → AreEnumerators s next all after
        → IsTold s.purpose (marks_of_enumerators u all after) (spoken_of_enumerators all)
    enumerators_told Trees.no_enumerators s next after e h = none
    enumerators_told (Trees.and_enumerator comma x value more) s next after e h =
        let a = enumerator_told value s next h.0 e h.1 in
        let c = enumerators_told more s ((h.0 + 1) % 2 ^ 32) after e h.3 in
        record {
          marks = marks_both (marks_of_value u value) (a_name (comma_or more after) ∷ marks_of_enumerators u more after) a.marks (tt, c.marks);
          spoken = λ n. spoken_both (spoken_of_value value) (spoken_of_enumerators more) (a.spoken n) (c.spoken n);
        }

    enumerator_told : (value : Trees.EnumeratorValue) (s : Scope) (next v : ℕ) → In s → IsEnumeratorValue s next value v
        → IsTold s.purpose (marks_of_value u value) (spoken_of_value value)
    enumerator_told Trees.no_value s next v e h = none
    enumerator_told (Trees.valued equal a) s next v e h = of_value (told a (for_value s) h.1.1.0 e h.1.1.2)

    parameters_told : (all : Trees.Parameters) (s : Scope) (types : CTypes) → In s → AreListed s all types → is_measured s.purpose ≡ false
        → AreSpoken (spoken_of_parameters all)
    parameters_told Trees.no_parameters s types e h n = tt
    parameters_told (Trees.and_parameter comma specs d more) s types e h n =
        let base = base_known f count less visible_made specs s h.0 e h.5 in
        let m = parameter_made f count less h.1 (declarator_known f count less visible_made d s h.0 h.1 e base h.6) in
        let b = by_words specs s h.0 h.5 (λ k. one_told specs s h.0 e k) in
        let c = lengths_told d s h.0 h.1 e base h.6 in
        let own = place_told s Named (parameter_type h.1) (first_declarator d (first_specifiers specs)) e h.9 (of_made (parameter_type h.1) m) n in
        let r = parameters_told more (with_parameter_if_named s (declared_name d) (parameter_type h.1)) h.2
        (parameter_in f count less s (declared_name d) (parameter_type h.1) e m) h.10 (parameter_told s (declared_name d) (parameter_type h.1) n) in
        spoken_both (spoken_of_specifiers specs ++ first_declarator d (first_specifiers specs) ∷ spoken_of_declarator d) (spoken_of_parameters more)
        (spoken_both (spoken_of_specifiers specs) (first_declarator d (first_specifiers specs) ∷ spoken_of_declarator d) (b.spoken n) (own, c.spoken n)) r

  pub base_told : (specs : Trees.Specifiers) (s : Scope) (t : CType) → In s → IsBase (IsOne s specs) specs t
      → IsTold s.purpose (marks_of_specifiers u specs) (spoken_of_specifiers specs)
  base_told specs s t e h = by_words specs s t h (λ k. one_told specs s t e k)
