-- The structures that a part of the tree of a file defines are paid for by its nodes, and the names that begin there define no function
-- (C99 6.2.1, 6.7.2).
use Rattle.std.proofs.Common.{◌≡◌, ℕ, ◌+◌, ◌%◌, ◌^◌, true, refl, sym, subst, List, [], ◌∷◌, ◌++◌, arith, inl, inr}
use Rattle.std.specs.Prelude.{Option, Some, None, slice_get}
use Rattle.c_types.specs.Types.{CType, Field, pointer, array, function}
use Rattle.c_ast.specs.declared.words.Spelling.{Spelling}
use Rattle.c_ast.specs.declared.operators.UnaryOp.TheVariants as U
use Rattle.c_ast.specs.Trees
use Rattle.c_ast.specs.Sizes.{size, size_arguments, size_type_name, size_specifiers, size_specifier, size_member_declarations}
use Rattle.c_ast.specs.Sizes.{size_member_declarators, size_enumerators, size_enumerator_value, size_declarator}
use Rattle.c_typed.specs.Trees as Typed
use Rattle.c_erasure.specs.Declarators.{Shape, closed, is_name}
use Rattle.c_erasure.specs.Erasure.{Erases, AreValues, Values, IsTypeName, IsBase, IsOne, Specifies, Declares, AreFields, AreMembers, AreEnumerators}
use Rattle.c_erasure.specs.Erasure.{IsEnumeratorValue, IsBound, after_all, comma_or}
use Rattle.c_erasure.specs.Marks.{Mark, a_name, marks, marks_of_all, marks_of_type, marks_of_specifiers, marks_of_specifier}
use Rattle.c_erasure.specs.Marks.{marks_of_members, marks_of_member_declarators, marks_of_enumerators, marks_of_value, marks_of_declarator, an_enumeration}
use Rattle.c_erasure.specs.Marks.{tag_name}
use Rattle.c_erasure.specs.Noted.{Noted, Expression, Thing, an_object}
use Rattle.c_erasure.specs.Scopes.{Scope, FileScope, measured, for_value, defines, enumerator, a_function}
use Rattle.c_erasure.specs.Specifiers.{types_among}
use Rattle.c_well_typed.specs.ProgramWeights.Counted.{Kind, field}
use Rattle.c_well_typed.specs.ProgramWeights.Weights.{weight_of_fields, weight_of_record}
use Rattle.c_well_typed.proofs.ProgramWeights.Found.{Found, none_found, both_found, two_found, found_in, more_nodes, tag_found, name_found, end_found}
use Rattle.c_well_typed.proofs.ProgramWeights.Functions.{lengths, lengths_less, lengths_and_name}
use Rattle.c_well_typed.proofs.ProgramWeights.Initializers.{more_paid}
use Rattle.c_well_typed.proofs.ProgramWeights.Within.{AreWithin}

fields_append : (n : Kind → ℕ) (a b : List Field) → weight_of_fields n (a ++ b) ≡ weight_of_fields n a + weight_of_fields n b
fields_append n [] b = omega arith
fields_append n (x ∷ a) b = let e = fields_append n a b in omega (arith, e)

module _ (n : Kind → ℕ) (most : ℕ) (w : AreWithin n most) (f : FileScope) where
  abbrev u : ℕ → List ℕ
  u = f.untagged

  abbrev F : List Mark → ℕ → Type 0
  F marks nodes = Found n most f 0 marks nodes

  none : (nodes : ℕ) → F [] nodes
  none nodes = none_found n most f nodes

  over : {m : List Mark} {i : ℕ} → F m i → F m (i + 1)
  over {m} {i} a = more_nodes n most f (i + 1) (omega arith) a

  both : {a b : List Mark} {i j : ℕ} → F a i → F b j → F (a ++ b) (i + j)
  both x y = two_found n most f x y

  no_more : {m : List Mark} {i : ℕ} → F m (i + 0) → F m i
  no_more {m} {i} h = more_nodes n most f i (omega arith) h

  -- ---- words and names have no marks

  words_found : (specs : Trees.Specifiers) → types_among specs ≡ [] → F (marks_of_specifiers u specs) (size_specifiers specs).nodes
  words_found Trees.no_specifiers h = none 0
  words_found (Trees.and_specifier (Trees.plain word at) more) h = both (none 1) (words_found more h)
  words_found (Trees.and_specifier (Trees.typename x) more) h = cc
  words_found (Trees.and_specifier (Trees.struct_named at x) more) h = cc
  words_found (Trees.and_specifier (Trees.struct_body at x left all right) more) h = cc
  words_found (Trees.and_specifier (Trees.enum_named at x) more) h = cc
  words_found (Trees.and_specifier (Trees.enum_body at x left all comma right) more) h = cc

  by_words : (specs : Trees.Specifiers) (s : Scope) (t : CType) → IsBase (IsOne s specs) specs t
      → (IsOne s specs t → F (marks_of_specifiers u specs) (size_specifiers specs).nodes) → F (marks_of_specifiers u specs) (size_specifiers specs).nodes
  by_words specs s t (inl h) one = words_found specs h.0
  by_words specs s t (inr h) one = one h.1

  bare_found : (d : Trees.Declarator) → is_name d ≡ true → F (marks_of_declarator u d) (lengths d)
  bare_found Trees.nothing h = none 0
  bare_found (Trees.named x) h = none 0
  bare_found (Trees.enclosed left d right) h = bare_found d h
  bare_found (Trees.pointer at consts d) h = cc
  bare_found (Trees.array d left length right) h = cc
  bare_found (Trees.function d left all right) h = cc

  no_function : (v j : ℕ) (t : CType) → enumerator v ≡ a_function j t → ⊥
  no_function v j t h = cc

  enumerator_named : (s : Scope) → s.file ≡ f → (x : Spelling) (from v : ℕ)
      → IsBound s (record { name = x.text; place = x.from; from = from; how = defines; entity = enumerator v }) → F (a_name from ∷ []) 0
  enumerator_named s e x from v h =
      name_found n most f from h.0 (record { name = x.text; place = x.from; from = from; how = defines; entity = enumerator v })
      (subst (λ f. slice_get f.names h.0 ≡ Some (record { name = x.text; place = x.from; from = from; how = defines; entity = enumerator v })) e h.1)
      refl (λ j t d i. no_function v j t i)

  enumeration_found : (x : Option Spelling) (right : ℕ) → F (an_enumeration u x right) 0
  enumeration_found None right = none 0
  enumeration_found (Some x) right = tag_found n most f _

  mutual
    pub found : (a : Trees.Expression) (s : Scope) (th : Thing) → s.file ≡ f → Erases a s th → F (marks u a) (size a).nodes
    found (Trees.name x) s th e h = none 1
    found (Trees.number x v kind) s th e h = none 1
    found (Trees.character x v) s th e h = none 1
    found (Trees.texts all) s th e h = none 1
    found (Trees.paren left a right) s th e h = over (found a s th e h)
    found (Trees.index a left b right) s th e (inl h) = over (both (found a s (an_object h.1) e h.5) (found b s h.6.0 e h.6.2))
    found (Trees.index a left b right) s th e (inr (inl h)) = over (both (found a s h.4.0 e h.4.2) (found b s h.5.0 e h.5.2))
    found (Trees.index a left b right) s th e (inr (inr h)) = over (both (found a s h.5.0 e h.5.2) (found b s h.6.0 e h.6.2))
    found (Trees.call c left all right) s th e h = over (both (found c s h.1 e h.4) (values_found s h.2 all e h.5))
    found (Trees.dot a at x) s th e h = over (found a s (an_object h.1) e h.6)
    found (Trees.arrow a at x) s th e h = over (found a s h.6.0 e h.6.2)
    found (Trees.post a op at) s th e h = over (found a s (an_object h.1) e h.3)
    found (Trees.pre op at a) s th e h = over (found a s (an_object h.1) e h.3)
    found (Trees.unary U.Address at a) s th e h = over (found a s h.0 e h.2)
    found (Trees.unary U.Deref at a) s th e h = over (found a s h.2.0 e h.2.2)
    found (Trees.unary U.Plus at a) s th e h = over (found a s h.3.0 e h.3.2)
    found (Trees.unary U.Minus at a) s th e h = over (found a s h.3.0 e h.3.2)
    found (Trees.unary U.Complement at a) s th e h = over (found a s h.3.0 e h.3.2)
    found (Trees.unary U.Not at a) s th e h = over (found a s h.3.0 e h.3.2)
    found (Trees.sizeof_expression at a) s th e h = over (found a (measured s) h.1.0 e h.1.1)
    found (Trees.sizeof_type at left t right) s th e h = over (type_found t s h.0 e h.1)
    found (Trees.cast left t right a) s th e h = over (both (type_found t s h.0 e h.2) (found a s h.4.0 e h.4.2))
    found (Trees.binary a op at b) s th e h = over (both (found a s h.4.0 e h.4.2) (found b s h.5.0 e h.5.2))
    found (Trees.cond a question b colon c) s th e h =
        over (both (both (found a s h.5.0 e h.5.2) (found b s h.6.0 e h.6.2)) (found c s h.7.0 e h.7.2))
    found (Trees.assign a op at b) s th e (inl h) = over (both (found a s (an_object h.1) e h.5) (found b s h.6.0 e h.6.2))
    found (Trees.assign a op at b) s th e (inr (inl h)) = over (both (found a s (an_object h.1) e h.5) (found b s (an_object h.2) e h.6))
    found (Trees.assign a op at b) s th e (inr (inr h)) = over (both (found a s (an_object h.1) e h.6) (found b s h.7.0 e h.7.2))
    found (Trees.comma a at b) s th e h = over (both (found a s h.4.0 e h.4.2) (found b s h.5.0 e h.5.2))
    found (Trees.braces left all comma right) s th e h = absurd h

    values_found : (s : Scope) (xs : Typed.Expressions Noted) (all : Trees.Arguments) → s.file ≡ f → AreValues s xs all
        → F (marks_of_all u all) (size_arguments all).nodes
    values_found s xs Trees.no_arguments e h = none 0
    values_found s xs (Trees.and_argument comma a more) e h = both (found a s h.3.0 e h.3.2) (values_found s h.1 more e h.4)

    type_found : (t : Trees.TypeName) (s : Scope) (ty : CType) → s.file ≡ f → IsTypeName s t ty → F (marks_of_type u t) (size_type_name t).nodes
    type_found (Trees.type_name specs d) s ty e h =
        both (by_words specs s h.0 h.2 (λ k. one_found specs s h.0 e k)) (more_nodes n most f (size_declarator d).nodes (lengths_less d) (lengths_found d s h.0 (closed ty) e h.3))

    one_found : (specs : Trees.Specifiers) (s : Scope) (t : CType) → s.file ≡ f → IsOne s specs t → F (marks_of_specifiers u specs) (size_specifiers specs).nodes
    one_found Trees.no_specifiers s t e h = absurd h
    one_found (Trees.and_specifier (Trees.plain word at) more) s t e h = both (none 1) (one_found more s t e h)
    one_found (Trees.and_specifier (Trees.typename x) more) s t e h = both (specifier_found (Trees.typename x) s t e h.0) (words_found more h.1)
    one_found (Trees.and_specifier (Trees.struct_named at x) more) s t e h =
        both (specifier_found (Trees.struct_named at x) s t e h.0) (words_found more h.1)
    one_found (Trees.and_specifier (Trees.struct_body at x left all right) more) s t e h =
        both (specifier_found (Trees.struct_body at x left all right) s t e h.0) (words_found more h.1)
    one_found (Trees.and_specifier (Trees.enum_named at x) more) s t e h =
        both (specifier_found (Trees.enum_named at x) s t e h.0) (words_found more h.1)
    one_found (Trees.and_specifier (Trees.enum_body at x left all comma right) more) s t e h =
        both (specifier_found (Trees.enum_body at x left all comma right) s t e h.0) (words_found more h.1)

    specifier_found : (x : Trees.Specifier) (s : Scope) (t : CType) → s.file ≡ f → Specifies s x t → F (marks_of_specifier u x) (size_specifier x).nodes
    specifier_found (Trees.plain word at) s t e h = none 1
    specifier_found (Trees.typename x) s t e h = none 1
    specifier_found (Trees.struct_named at x) s t e h = over (tag_found n most f _)
    specifier_found (Trees.struct_body at x left all right) s t e h =
        let m = members_found all s h.1.fields e h.9 in
        let k = w.structure_node in
        let i = (size_member_declarations all).nodes in
        more_nodes n most f (i + 1) (omega arith)
        (two_found n most f {i = 0} {j = i + 1} (tag_found n most f _)
        (end_found n most f (tag_name u at x) right h.0 h.1 (subst (λ f. slice_get f.records h.0 ≡ Some h.1) e h.5)
        (subst (λ f. slice_get f.ends h.0 ≡ Some right) e h.6) (found_in n most f (weight_of_record n h.1) (i + 1) (omega (arith, k)) m)))
    specifier_found (Trees.enum_named at x) s t e h = none 1
    specifier_found (Trees.enum_body at x left all comma right) s t e h =
        over (no_more (both (enumerators_found all s 0 (after_all comma right) e h.2) (enumeration_found x right)))

    pub lengths_found : (d : Trees.Declarator) (s : Scope) (t : CType) (shape : Shape) → s.file ≡ f → Declares s d t shape
        → F (marks_of_declarator u d) (lengths d)
    lengths_found Trees.nothing s t shape e h = none 0
    lengths_found (Trees.named x) s t shape e h = none 0
    lengths_found (Trees.pointer at consts d) s t shape e h = lengths_found d s (pointer t) shape e h.1
    lengths_found (Trees.enclosed left d right) s t shape e h = lengths_found d s t shape e h
    lengths_found (Trees.array d left (Trees.some_expression a) right) s t shape e h =
        both (lengths_found d s (array t h.2) shape e h.8) (found a (for_value s) h.3.1.0 e h.3.1.2)
    lengths_found (Trees.array d left Trees.no_expression right) s t shape e h = both (bare_found d h.1) (none 0)
    lengths_found (Trees.function d left all right) s t shape e h = lengths_found d s (function t h.0) shape e h.4

    members_found : (all : Trees.MemberDeclarations) (s : Scope) (fields : List Field) → s.file ≡ f → AreFields s all fields
        → Found n most f (weight_of_fields n fields) (marks_of_members u all) (size_member_declarations all).nodes
    members_found Trees.no_member_declarations s fields e h =
        subst (λ fields. Found n most f (weight_of_fields n fields) [] 0) (sym h) (none 0)
    members_found (Trees.and_member_declaration specs ds semicolon more) s fields e h =
        let a = by_words specs s h.0 h.5 (λ k. one_found specs s h.0 e k) in
        let b = line_found ds s h.0 semicolon h.1 e h.6 in
        let c = members_found more s h.2 e h.7 in
        let k = fields_append n h.1 h.2 in
        let i = (size_specifiers specs).nodes in
        let j = (size_member_declarators ds).nodes in
        let l = (size_member_declarations more).nodes in
        subst (λ fields. Found n most f (weight_of_fields n fields) (marks_of_members u (Trees.and_member_declaration specs ds semicolon more)) (i + j + 1 + l))
        (sym h.3) (found_in n most f (weight_of_fields n (h.1 ++ h.2)) (i + j + 1 + l) (omega (arith, k)) (both_found n most f (both_found n most f a b) c))

    line_found : (ds : Trees.MemberDeclarators) (s : Scope) (base : CType) (semicolon : ℕ) (fields : List Field) → s.file ≡ f
        → AreMembers s base ds semicolon fields
        → Found n most f (weight_of_fields n fields) (marks_of_member_declarators u ds) (size_member_declarators ds).nodes
    line_found Trees.no_member_declarators s base semicolon fields e h =
        subst (λ fields. Found n most f (weight_of_fields n fields) [] 0) (sym h) (none 0)
    line_found (Trees.and_member_declarator comma d more) s base semicolon fields e h =
        let a = lengths_found d s base (closed h.1) e h.4 in
        let b = line_found more s base semicolon h.2 e h.8 in
        let k = more_paid most (lengths d + 1) (size_declarator d).nodes (lengths_and_name d h.0 h.3) in
        let l = w.field_name in
        let j = (size_declarator d).nodes + (size_member_declarators more).nodes in
        subst (λ fields. Found n most f (weight_of_fields n fields) (marks_of_member_declarators u (Trees.and_member_declarator comma d more)) j)
        (sym h.7) (found_in n most f (n field + weight_of_fields n h.2) j (omega (arith, k, l)) (both_found n most f a b))

    enumerators_found : (all : Trees.Enumerators) (s : Scope) (next after : ℕ) → s.file ≡ f → AreEnumerators s next all after
        → F (marks_of_enumerators u all after) (size_enumerators all).nodes
    enumerators_found Trees.no_enumerators s next after e h = none 0
    enumerators_found (Trees.and_enumerator comma x value more) s next after e h =
        let a = enumerator_found value s next h.0 e h.1 in
        let b = enumerator_named s e x (comma_or more after) h.0 h.2 in
        let c = enumerators_found more s ((h.0 + 1) % 2 ^ 32) after e h.3 in
        let i = (size_enumerator_value value).nodes in
        let l = (size_enumerators more).nodes in
        more_nodes n most f (i + 1 + l) (omega arith) (both a (both b c))

    enumerator_found : (value : Trees.EnumeratorValue) (s : Scope) (next v : ℕ) → s.file ≡ f → IsEnumeratorValue s next value v
        → F (marks_of_value u value) (size_enumerator_value value).nodes
    enumerator_found Trees.no_value s next v e h = none 0
    enumerator_found (Trees.valued equal a) s next v e h = found a (for_value s) h.1.1.0 e h.1.1.2

  pub value_found : (a : Trees.Expression) (s : Scope) (x : Expression) → s.file ≡ f → Values (Erases a s) x → F (marks u a) (size a).nodes
  value_found a s x e h = found a s h.0 e h.2

  pub base_found : (specs : Trees.Specifiers) (s : Scope) (t : CType) → s.file ≡ f → IsBase (IsOne s specs) specs t
      → F (marks_of_specifiers u specs) (size_specifiers specs).nodes
  base_found specs s t e h = by_words specs s t h (λ k. one_found specs s t e k)
