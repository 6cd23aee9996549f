-- What is found stands for its part of the text and is well typed, in each file that goes on from the one that finding leaves.
use Rattle.std.proofs.Common.{◌≡◌, ℕ, ◌+◌, ◌<◌, true, false, refl, List, [], ◌∷◌, ◌++◌, arith}
use Rattle.std.specs.Prelude.{◌^◌, ◌%◌, Ok}
use Rattle.c_types.specs.declared.ty.IntKind.{IntKind}
use Rattle.c_types.specs.Types.{CType, CTypes, no_types, and_type, Field}
use Rattle.c_ast.specs.Trees
use Rattle.c_ast.specs.Places.{first, first_specifiers, first_declarator}
use Rattle.c_typed.specs.declared.program.MentionKind.TheVariants.{Named}
use Rattle.c_typed.specs.Trees as Typed
use Rattle.c_erasure.specs.Declarators.{declared_name, parameter_type}
use Rattle.c_erasure.specs.Erasure.{comma_or, after_all}
use Rattle.c_erasure.specs.Marks.{Mark, a_name, marks, marks_of_all, marks_of_type, marks_of_specifiers, marks_of_specifier, marks_of_members}
use Rattle.c_erasure.specs.Marks.{marks_of_member_declarators, marks_of_enumerators, marks_of_value, marks_of_declarator, an_enumeration}
use Rattle.c_erasure.specs.Noted.{Noted, Expression, Thing}
use Rattle.c_erasure.specs.Scopes.{FileScope, Scope, inside, measured, for_value}
use Rattle.c_erasure.specs.Specifiers.{types_among, storage_of}
use Rattle.c_erasure.specs.Checking.Answers.{moved}
use Rattle.c_erasure.specs.Checking.Nodes.{signature_in, argument_in, target_in, measured_in, sized_type}
use Rattle.c_erasure.specs.Checking.Declaring.{with_mention, mentions_in, Derivation, derived, length_value, object_at, base_kind, without_storage}
use Rattle.c_erasure.specs.Checking.Declaring.{parameter_storage, scalar_parameter}
use Rattle.c_erasure.specs.Checking.Declaring.{enumerator_in}
use Rattle.c_erasure.specs.Checking.Finding.{complete, value_at, tested_at, constant_at, base_type, type_of_derived, find, arguments, type_name, one_of}
use Rattle.c_erasure.specs.Checking.Finding.{specified, members}
use Rattle.c_erasure.specs.Checking.Finding.{member_declarators, enumerators, enumerator_value, derivations, array_step, parameter_list, parameters}
use Rattle.c_checking_laws.proofs.InRange.{IsInRange, AreInRange, IsTypeInRange, AreSpecifiersInRange, IsSpecifierInRange, AreMembersInRange}
use Rattle.c_checking_laws.proofs.InRange.{AreDeclaratorsInRange}
use Rattle.c_checking_laws.proofs.InRange.{AreEnumeratorsInRange, IsValueInRange, IsDeclaratorInRange, IsListInRange, AreParametersInRange}
use Rattle.c_checking_laws.proofs.Results.{bound_ok, bound_with, chosen}
use Rattle.c_checking_laws.proofs.Agreement.{Ready, then, left, right}
use Rattle.c_checking_laws.proofs.Declared.{mentioned, no_storage_is, parameter_storage_is, unless_ok}
use Rattle.c_checking_laws.proofs.Found.{Found, FoundValue, FoundAll, FoundType, FoundConstant, valued, constant_found, name_found, number_found}
use Rattle.c_checking_laws.proofs.Found.{character_found}
use Rattle.c_checking_laws.proofs.Found.{texts_found, index_found, dot_found, arrow_found, call_found, no_arguments_found, argument_found, post_found}
use Rattle.c_checking_laws.proofs.Found.{pre_found, unary_found}
use Rattle.c_checking_laws.proofs.Found.{sizeof_expression_found, sizeof_type_found, cast_found, binary_found, comma_found, tested_found, choice_found}
use Rattle.c_checking_laws.proofs.Found.{assign_found}
use Rattle.c_checking_laws.proofs.FoundTypes.{FoundBase, ready_inside, FoundOne, FoundSpecifier}
use Rattle.c_checking_laws.proofs.FoundTypes.{FoundFields, FoundMembers, FoundEnumerators, FoundNumber, FoundSteps}
use Rattle.c_checking_laws.proofs.FoundTypes.{FoundParameters, FoundList, base_found, one_found, typename_found, struct_named_found, enum_named_found}
use Rattle.c_checking_laws.proofs.FoundTypes.{struct_ready}
use Rattle.c_checking_laws.proofs.FoundTypes.{struct_body_found, enum_body_found, no_value_found, value_found, no_enumerators_found, bound_of}
use Rattle.c_checking_laws.proofs.FoundTypes.{enumerator_grown, enumerator_found}
use Rattle.c_checking_laws.proofs.FoundTypes.{no_members_found, members_found, no_declarators_found, member_found, type_found}
use Rattle.c_checking_laws.proofs.FoundDeclarators.{ready_in, new_bound, parameter_inside, parameter_ready, nothing_found, named_found, pointer_found}
use Rattle.c_checking_laws.proofs.FoundDeclarators.{enclosed_found, open_found}
use Rattle.c_checking_laws.proofs.FoundDeclarators.{array_found, function_found, void_found, listed_found, no_parameters_found, behind_parameter}
use Rattle.c_checking_laws.proofs.FoundDeclarators.{parameter_made, parameter_found}

module _ (untagged : ℕ → List ℕ) where
  -- an integer constant expression, which stands for its value
  pub constant_part : (a : Trees.Expression) (s : Scope) → ((y : Thing × FileScope) → find a (for_value s) ≡ Ok y → Found untagged (for_value s) a y)
      → (z : (IntKind × ℕ) × FileScope) → constant_at (first a) (value_at (first a) (find a (for_value s))) ≡ Ok z → FoundConstant untagged s a z
  constant_part a s sound z h =
      constant_found untagged a s (first a) (value_at (first a) (find a (for_value s)))
      (λ x k. valued untagged a (for_value s) (first a) (find a (for_value s)) sound x k) z h

  mutual
    unfolding find arguments type_name one_of specified members member_declarators enumerators enumerator_value derivations array_step parameter_list parameters

    pub sound : (a : Trees.Expression) (s : Scope) → IsInRange a → Ready s (marks untagged a) → (z : Thing × FileScope) → find a s ≡ Ok z → Found untagged s a z
    sound (Trees.name x) s n r z h = name_found untagged s x r z h
    sound (Trees.number x v kind) s n r z h = number_found untagged s x v kind n z h
    sound (Trees.character x v) s n r z h = character_found untagged s x v n z h
    sound (Trees.texts all) s n r z h = texts_found untagged s all z h
    sound (Trees.paren from a to) s n r z h = let v = sound a s n r z h in record { grew = v.grew; holds = λ g e. v.holds g e }
    sound (Trees.index a from b to) s n r z h =
        let x = bound_ok (find a s) _ z h in
        let v = sound a s n.0 (left (marks untagged a) (marks untagged b) r) x.0 x.1 in
        let later = right (marks untagged a) (marks untagged b) r v.grew in
        index_found untagged s a from b to x.0 v (λ f. find b (moved s f)) (λ y k. sound b (moved s x.0.1) n.1 later y k) z x.2
    sound (Trees.call f from all to) s n r z h =
        let x = bound_ok (find f s) _ z h in
        let v = sound f s n.0 (left (marks untagged f) (marks_of_all untagged all) r) x.0 x.1 in
        let t = bound_with x.0.1 (signature_in (first f) x.0.0) _ z x.2 in
        let xs = bound_ok (arguments to t.0.0 all (moved s x.0.1)) _ z t.2 in
        let w = sound_all all to t.0.0 (moved s x.0.1) n.1 (right (marks untagged f) (marks_of_all untagged all) r v.grew) xs.0 xs.1 in
        call_found untagged s f from all to x.0 v t.0 t.1 xs.0 w z xs.2
    sound (Trees.dot a at x) s n r z h =
        let p = bound_ok (find a s) _ z h in
        dot_found untagged s a at x p.0 (sound a s n r p.0 p.1) z p.2
    sound (Trees.arrow a at x) s n r z h =
        let e = bound_ok (value_at (first a) (find a s)) _ z h in
        arrow_found untagged s a at x e.0 (valued untagged a s (first a) (find a s) (λ y k. sound a s n r y k) e.0 e.1) z e.2
    sound (Trees.post a op at) s n r z h =
        let p = bound_ok (find a s) _ z h in
        post_found untagged s a op at p.0 (sound a s n r p.0 p.1) z p.2
    sound (Trees.pre op at a) s n r z h =
        let p = bound_ok (find a s) _ z h in
        pre_found untagged s op at a p.0 (sound a s n r p.0 p.1) z p.2
    sound (Trees.unary op at a) s n r z h = unary_found untagged s op at a (find a s) (λ x k. sound a s n r x k) z h
    sound (Trees.sizeof_expression at a) s n r z h =
        let x = bound_ok (find a (measured s)) _ z h in
        let t = bound_with x.0.1 (measured_in x.0.1.records (complete s at) at (first a) x.0.0) _ z x.2 in
        sizeof_expression_found untagged s at a x.0 (sound a (measured s) n r x.0 x.1) t.0 t.1 z t.2
    sound (Trees.sizeof_type at from m to) s n r z h =
        let x = bound_ok (type_name m s) _ z h in
        let t = bound_with x.0.1 (sized_type x.0.1.records (complete s to) at x.0.0) _ z x.2 in
        sizeof_type_found untagged s at from m to x.0 (sound_type m s n r x.0 x.1) t.0 t.1 z t.2
    sound (Trees.cast from m to a) s n r z h =
        let t = bound_ok (type_name m s) _ z h in
        let v = sound_type m s n.0 (left (marks_of_type untagged m) (marks untagged a) r) t.0 t.1 in
        let later = right (marks_of_type untagged m) (marks untagged a) r v.grew in
        let x = bound_ok (value_at (first a) (find a (moved s t.0.1))) _ z t.2 in
        let w = valued untagged a (moved s t.0.1) (first a) (find a (moved s t.0.1)) (λ y k. sound a (moved s t.0.1) n.1 later y k) x.0 x.1 in
        cast_found untagged s from m to a t.0 v x.0 w z x.2
    sound (Trees.binary a op at b) s n r z h =
        let x = bound_ok (value_at (first a) (find a s)) _ z h in
        let v = valued untagged a s (first a) (find a s) (λ y k. sound a s n.0 (left (marks untagged a) (marks untagged b) r) y k) x.0 x.1 in
        let later = right (marks untagged a) (marks untagged b) r v.grew in
        let y = bound_ok (value_at (first b) (find b (moved s x.0.1))) _ z x.2 in
        let w = valued untagged b (moved s x.0.1) (first b) (find b (moved s x.0.1)) (λ y k. sound b (moved s x.0.1) n.1 later y k) y.0 y.1 in
        binary_found untagged s a op at b x.0 v y.0 w z y.2
    sound (Trees.cond a question b colon c) s n r z h =
        let u = marks untagged a in
        let before = left (u ++ marks untagged b) (marks untagged c) r in
        let x = bound_ok (tested_at question (value_at (first a) (find a s))) _ z h in
        let v = tested_found untagged s a question (value_at (first a) (find a s))
        (λ x k. valued untagged a s (first a) (find a s) (λ y k. sound a s n.0 (left u (marks untagged b) before) y k) x k) x.0 x.1 in
        let later = right u (marks untagged b) before v.0.grew in
        let y = bound_ok (value_at (first b) (find b (moved s x.0.1))) _ z x.2 in
        let w = valued untagged b (moved s x.0.1) (first b) (find b (moved s x.0.1)) (λ y k. sound b (moved s x.0.1) n.1 later y k) y.0 y.1 in
        let last = right (u ++ marks untagged b) (marks untagged c) r (then v.0.grew w.grew) in
        let e = bound_ok (value_at (first c) (find c (moved s y.0.1))) _ z y.2 in
        let t = valued untagged c (moved s y.0.1) (first c) (find c (moved s y.0.1)) (λ y' k. sound c (moved s y.0.1) n.2 last y' k) e.0 e.1 in
        choice_found untagged s a question b colon c x.0 v y.0 w e.0 t z e.2
    sound (Trees.assign a op at b) s n r z h =
        let p = bound_ok (find a s) _ z h in
        let v = sound a s n.0 (left (marks untagged a) (marks untagged b) r) p.0 p.1 in
        let later = right (marks untagged a) (marks untagged b) r v.grew in
        let t = bound_with p.0.1 (target_in (first a) p.0.0) _ z p.2 in
        assign_found untagged s a op at b p.0 v t.0 t.1 (λ f. find b (moved s f)) (λ y k. sound b (moved s p.0.1) n.1 later y k) z t.2
    sound (Trees.comma a at b) s n r z h =
        let x = bound_ok (value_at (first a) (find a s)) _ z h in
        let v = valued untagged a s (first a) (find a s) (λ y k. sound a s n.0 (left (marks untagged a) (marks untagged b) r) y k) x.0 x.1 in
        let later = right (marks untagged a) (marks untagged b) r v.grew in
        let y = bound_ok (value_at (first b) (find b (moved s x.0.1))) _ z x.2 in
        let w = valued untagged b (moved s x.0.1) (first b) (find b (moved s x.0.1)) (λ y k. sound b (moved s x.0.1) n.1 later y k) y.0 y.1 in
        comma_found untagged s a at b x.0 v y.0 w z y.2
    sound (Trees.braces from all comma to) s n r z h = cc

    pub sound_all : (all : Trees.Arguments) (to : ℕ) (types : CTypes) (s : Scope) → AreInRange all → Ready s (marks_of_all untagged all)
        → (z : Typed.Expressions Noted × FileScope) → arguments to types all s ≡ Ok z → FoundAll untagged s types all z
    sound_all Trees.no_arguments to no_types s n r z h = no_arguments_found untagged s z h
    sound_all Trees.no_arguments to (and_type t more) s n r z h = cc
    sound_all (Trees.and_argument comma a rest) to no_types s n r z h = cc
    sound_all (Trees.and_argument comma a rest) to (and_type t more) s n r z h =
        let x = bound_ok (value_at (first a) (find a s)) _ z h in
        let v = valued untagged a s (first a) (find a s) (λ y k. sound a s n.0 (left (marks untagged a) (marks_of_all untagged rest) r) y k) x.0 x.1 in
        let y = bound_with x.0.1 (argument_in (first a) t x.0.0) _ z x.2 in
        let ys = bound_ok (arguments to more rest (moved s x.0.1)) _ z y.2 in
        let w = sound_all rest to more (moved s x.0.1) n.1 (right (marks untagged a) (marks_of_all untagged rest) r v.grew) ys.0 ys.1 in
        argument_found untagged s t more comma a rest x.0 v y.0 y.1 ys.0 w z ys.2

    pub sound_type : (m : Trees.TypeName) (s : Scope) → IsTypeInRange m → Ready s (marks_of_type untagged m) → (z : CType × FileScope) → type_name m s ≡ Ok z
        → FoundType untagged s m z
    sound_type (Trees.type_name specs d) s n r z h =
        let at = first_specifiers specs in
        let b = bound_ok (without_storage at (storage_of specs) (base_type (base_kind specs) at s.file (one_of specs s))) _ z h in
        let k = no_storage_is at (storage_of specs) (base_type (base_kind specs) at s.file (one_of specs s)) b.0 b.1 in
        let before = left (marks_of_specifiers untagged specs) (marks_of_declarator untagged d) r in
        let v = base_found untagged s specs at (one_of specs s) (λ x e y j. sound_one specs s n.0 before x e y j) b.0 k.1 in
        let steps = bound_ok (derivations d (moved s b.0.1)) _ z b.2 in
        let w = sound_steps d (moved s b.0.1) n.1 (right (marks_of_specifiers untagged specs) (marks_of_declarator untagged d) r v.grew) steps.0 steps.1 in
        let t = bound_with steps.0.1 (type_of_derived (first_declarator d at) steps.0.1 steps.0.0 b.0.0) _ z steps.2 in
        type_found untagged s specs d k.0 b.0 v steps.0 w t.0 t.1 z t.2

    pub sound_one : (specs : Trees.Specifiers) (s : Scope) → AreSpecifiersInRange specs → Ready s (marks_of_specifiers untagged specs)
        → (x : Trees.Specifier) → types_among specs ≡ x ∷ [] → (z : CType × FileScope) → one_of specs s ≡ Ok z → FoundOne untagged s specs z
    sound_one Trees.no_specifiers s n r x e z h = cc
    sound_one (Trees.and_specifier (Trees.plain word at) more) s n r x e z h =
        let v = sound_one more s n.1 r x e z h in record { grew = v.grew; holds = λ g p. v.holds g p }
    sound_one (Trees.and_specifier (Trees.typename y) more) s n r x e z h =
        one_found untagged s (Trees.typename y) more z (sound_specifier (Trees.typename y) s n.0 (left _ _ r) z h) (let f : types_among more ≡ [] = cc in f)
        (λ g p. p)
    sound_one (Trees.and_specifier (Trees.struct_named at y) more) s n r x e z h =
        one_found untagged s (Trees.struct_named at y) more z (sound_specifier (Trees.struct_named at y) s n.0 (left _ _ r) z h)
        (let f : types_among more ≡ [] = cc in f) (λ g p. p)
    sound_one (Trees.and_specifier (Trees.struct_body at y from all to) more) s n r x e z h =
        one_found untagged s (Trees.struct_body at y from all to) more z (sound_specifier (Trees.struct_body at y from all to) s n.0 (left _ _ r) z h)
        (let f : types_among more ≡ [] = cc in f) (λ g p. p)
    sound_one (Trees.and_specifier (Trees.enum_named at y) more) s n r x e z h =
        one_found untagged s (Trees.enum_named at y) more z (sound_specifier (Trees.enum_named at y) s n.0 (left _ _ r) z h)
        (let f : types_among more ≡ [] = cc in f) (λ g p. p)
    sound_one (Trees.and_specifier (Trees.enum_body at y from all comma to) more) s n r x e z h =
        one_found untagged s (Trees.enum_body at y from all comma to) more z (sound_specifier (Trees.enum_body at y from all comma to) s n.0 (left _ _ r) z h)
        (let f : types_among more ≡ [] = cc in f) (λ g p. p)

    pub sound_specifier : (x : Trees.Specifier) (s : Scope) → IsSpecifierInRange x → Ready s (marks_of_specifier untagged x) → (z : CType × FileScope)
        → specified x s ≡ Ok z → FoundSpecifier untagged s x z
    sound_specifier (Trees.plain word at) s n r z h = cc
    sound_specifier (Trees.typename x) s n r z h = typename_found untagged s x z h
    sound_specifier (Trees.struct_named at x) s n r z h = struct_named_found untagged s at x z h
    sound_specifier (Trees.struct_body at x from all to) s n r z h =
        chosen s.is_inside _ _ z (FoundSpecifier untagged s (Trees.struct_body at x from all to) z) h (λ i h. cc)
        (λ i h.
        let u = unless_ok _ _ z h in
        let m = bound_ok (members all s) _ z u.1 in
        struct_body_found untagged s at x from all to r i n.0 m.0 (sound_members all s n.1 (struct_ready untagged s at x from all to r) m.0 m.1) z m.2)
    sound_specifier (Trees.enum_named at x) s n r z h = enum_named_found untagged s at x z h
    sound_specifier (Trees.enum_body at x from all comma to) s n r z h =
        chosen s.is_inside _ _ z (FoundSpecifier untagged s (Trees.enum_body at x from all comma to) z) h (λ i h. cc)
        (λ i h.
        let f = bound_ok (enumerators all s 0 (after_all comma to)) _ z h in
        let v = sound_enumerators all s 0 (after_all comma to) i (omega arith) n
        (left (marks_of_enumerators untagged all (after_all comma to)) (an_enumeration untagged x to) r) f.0 f.1 in
        enum_body_found untagged s at x from all comma to i f.0.1 v z f.2)

    pub sound_members : (all : Trees.MemberDeclarations) (s : Scope) → AreMembersInRange all → Ready s (marks_of_members untagged all)
        → (z : List Field × FileScope)
        → members all s ≡ Ok z → FoundFields untagged s all z
    sound_members Trees.no_member_declarations s n r z h = no_members_found untagged s z h
    sound_members (Trees.and_member_declaration specs ds semicolon more) s n r z h =
        let at = first_specifiers specs in
        let u = marks_of_specifiers untagged specs in
        let before = left (u ++ marks_of_member_declarators untagged ds) (marks_of_members untagged more) r in
        let b = bound_ok (without_storage at (storage_of specs) (base_type (base_kind specs) at s.file (one_of specs s))) _ z h in
        let k = no_storage_is at (storage_of specs) (base_type (base_kind specs) at s.file (one_of specs s)) b.0 b.1 in
        let first = left u (marks_of_member_declarators untagged ds) before in
        let v = base_found untagged s specs at (one_of specs s) (λ x e y j. sound_one specs s n.0 first x e y j) b.0 k.1 in
        let own = bound_ok (member_declarators ds b.0.0 semicolon (moved s b.0.1)) _ z b.2 in
        let w = sound_declarators ds b.0.0 semicolon (moved s b.0.1) n.1 (right u (marks_of_member_declarators untagged ds) before v.grew) own.0 own.1 in
        let rest = bound_ok (members more (moved s own.0.1)) _ z own.2 in
        let last = right (u ++ marks_of_member_declarators untagged ds) (marks_of_members untagged more) r (then v.grew w.grew) in
        let t = sound_members more (moved s own.0.1) n.2 last rest.0 rest.1 in
        members_found untagged s specs ds semicolon more k.0 b.0 v own.0 w rest.0 t z rest.2

    pub sound_declarators : (all : Trees.MemberDeclarators) (base : CType) (semicolon : ℕ) (s : Scope) → AreDeclaratorsInRange all
        → Ready s (marks_of_member_declarators untagged all) → (z : List Field × FileScope) → member_declarators all base semicolon s ≡ Ok z
        → FoundMembers untagged s base all semicolon z
    sound_declarators Trees.no_member_declarators base semicolon s n r z h = no_declarators_found untagged s base semicolon z h
    sound_declarators (Trees.and_member_declarator comma d more) base semicolon s n r z h =
        let at = first_declarator d semicolon in
        let u = marks_of_declarator untagged d in
        let steps = bound_ok (derivations d s) _ z h in
        let v = sound_steps d s n.0 (left u (marks_of_member_declarators untagged more) r) steps.0 steps.1 in
        let t = bound_with steps.0.1 (type_of_derived at steps.0.1 steps.0.0 base) _ z steps.2 in
        let o = bound_with steps.0.1 (object_at steps.0.1.records (complete s at) at t.0) _ z t.2 in
        let f = with_mention s (mentions_in s.file) Named o.0 at steps.0.1 in
        let later = right u (marks_of_member_declarators untagged more) r (mentioned s (mentions_in s.file) Named o.0 at v.grew) in
        member_found untagged s base comma d more semicolon steps.0 v t.0 o.0 t.1 o.1 (member_declarators more base semicolon (moved s f))
        (λ rest k. sound_declarators more base semicolon (moved s f) n.1 later rest k) z o.2

    pub sound_enumerators : (all : Trees.Enumerators) (s : Scope) (next after : ℕ) → s.is_inside ≡ false → next < 2 ^ 32 → AreEnumeratorsInRange all
        → Ready s (marks_of_enumerators untagged all after) → (z : Unit {0} × FileScope) → enumerators all s next after ≡ Ok z
        → FoundEnumerators untagged s next all after z.1
    sound_enumerators Trees.no_enumerators s next after i b n r z h = no_enumerators_found untagged s next after z h
    sound_enumerators (Trees.and_enumerator comma x value more) s next after i b n r z h =
        let u = marks_of_value untagged value in
        let own : List Mark = a_name (comma_or more after) ∷ [] in
        let rest = marks_of_enumerators untagged more after in
        let v = bound_ok (enumerator_value value s x.from next) _ z h in
        let w = sound_value value s x.from next b n.0 (left u (own ++ rest) r) v.0 v.1 in
        let f = bound_ok (enumerator_in v.0.1 (bound_of untagged x more after v.0.0)) _ z v.2 in
        let g = enumerator_grown untagged s i next x value more after v.0 w f.0 f.1 in
        let t = sound_enumerators more (moved s f.0) ((v.0.0 + 1) % 2 ^ 32) after i (omega arith) n.1 (right own rest (right u (own ++ rest) r w.grew) g) z f.2 in
        enumerator_found untagged s i comma x value more next after v.0 w f.0 f.1 z.1 t

    pub sound_value : (value : Trees.EnumeratorValue) (s : Scope) (at next : ℕ) → next < 2 ^ 32 → IsValueInRange value → Ready s (marks_of_value untagged value)
        → (z : ℕ × FileScope) → enumerator_value value s at next ≡ Ok z → FoundNumber untagged s next value z
    sound_value Trees.no_value s at next b n r z h = no_value_found untagged s at next b z h
    sound_value (Trees.valued equal a) s at next b n r z h =
        let c = bound_ok (constant_at (first a) (value_at (first a) (find a (for_value s)))) _ z h in
        value_found untagged s equal a next c.0 (constant_part a s (λ y j. sound a (for_value s) n r y j) c.0 c.1) z c.2

    pub sound_steps : (d : Trees.Declarator) (s : Scope) → IsDeclaratorInRange d → Ready s (marks_of_declarator untagged d) → (z : List Derivation × FileScope)
        → derivations d s ≡ Ok z → FoundSteps untagged s d z
    sound_steps Trees.nothing s n r z h = nothing_found untagged s z h
    sound_steps (Trees.named x) s n r z h = named_found untagged s x z h
    sound_steps (Trees.pointer at consts d) s n r z h =
        let steps = bound_ok (derivations d s) _ z h in
        pointer_found untagged s at consts d steps.0 (sound_steps d s n r steps.0 steps.1) z steps.2
    sound_steps (Trees.enclosed from d to) s n r z h = enclosed_found untagged s from d to z (sound_steps d s n r z h)
    sound_steps (Trees.array d from Trees.no_expression to) s n r z h =
        let steps = bound_ok (derivations d s) _ z h in
        open_found untagged s d from to steps.0 (sound_steps d s n.0 (left (marks_of_declarator untagged d) [] r) steps.0 steps.1) z steps.2
    sound_steps (Trees.array d from (Trees.some_expression a) to) s n r z h =
        let u = marks_of_declarator untagged d in
        let steps = bound_ok (derivations d s) _ z h in
        let v = sound_steps d s n.0 (left u (marks untagged a) r) steps.0 steps.1 in
        let c = bound_ok (constant_at (first a) (value_at (first a) (find a (for_value (moved s steps.0.1))))) _ z steps.2 in
        let later = right u (marks untagged a) r v.grew in
        let w = constant_part a (moved s steps.0.1) (λ y j. sound a (for_value (moved s steps.0.1)) n.1 later y j) c.0 c.1 in
        let l = bound_with c.0.1 (length_value (first a) c.0.0) _ z c.2 in
        array_found untagged s d from a to steps.0 v c.0 w l.0 l.1 z l.2
    sound_steps (Trees.function d from all to) s n r z h =
        let u = marks_of_declarator untagged d in
        let steps = bound_ok (derivations d s) _ z h in
        let v = sound_steps d s n.0 r steps.0 steps.1 in
        let types = bound_ok (parameter_list all (inside (moved s steps.0.1))) _ z steps.2 in
        let w = sound_list all (inside (moved s steps.0.1)) refl n.1 (ready_in s u steps.0.1 r v.grew) types.0 types.1 in
        function_found untagged s d from all to steps.0 v types.0 w z types.2

    pub sound_list : (all : Trees.ParameterList) (s : Scope) → s.is_inside ≡ true → IsListInRange all → Ready s [] → (z : CTypes × FileScope)
        → parameter_list all s ≡ Ok z → FoundList untagged s all z
    sound_list (Trees.void_alone at) s i n r z h = void_found untagged s at z h
    sound_list (Trees.listed all) s i n r z h = listed_found untagged s all z (sound_parameters all s i n r z h)

    pub sound_parameters : (all : Trees.Parameters) (s : Scope) → s.is_inside ≡ true → AreParametersInRange all → Ready s [] → (z : CTypes × FileScope)
        → parameters all s ≡ Ok z → FoundParameters untagged s all z
    sound_parameters Trees.no_parameters s i n r z h = no_parameters_found untagged s z h
    sound_parameters (Trees.and_parameter comma specs d more) s i n r z h =
        let at = first_specifiers specs in
        let place = first_declarator d at in
        let u = marks_of_specifiers untagged specs in
        let k = marks_of_declarator untagged d in
        let all = ready_inside i [] (u ++ k) r in
        let b = bound_ok (parameter_storage at (storage_of specs) (base_type (base_kind specs) at s.file (one_of specs s))) _ z h in
        let q = parameter_storage_is at (storage_of specs) (base_type (base_kind specs) at s.file (one_of specs s)) b.0 b.1 in
        let v = base_found untagged s specs at (one_of specs s) (λ x e y j. sound_one specs s n.0 (left u k all) x e y j) b.0 q.1 in
        let steps = bound_ok (derivations d (moved s b.0.1)) _ z b.2 in
        let w = sound_steps d (moved s b.0.1) n.1 (right u k all v.grew) steps.0 steps.1 in
        let shape = bound_with steps.0.1 (derived steps.0.1.records steps.0.0 b.0.0) _ z steps.2 in
        let t = new_bound s (declared_name d) steps.0.1 (scalar_parameter place (parameter_type shape.0)) _ z shape.2 in
        let m = mentions_in b.0.1 in
        let p = parameter_made untagged s i specs d q.0 b.0 v steps.0 w shape.0 shape.1 t.0 t.1.0 t.1.1 in
        let f = with_mention s m Named t.1.0 place steps.0.1 in
        let known = right [] [] r (mentioned s m Named t.1.0 place p.grown) in
        let scope = behind_parameter untagged s m (declared_name d) t.1.0 place steps.0.1 in
        let rest = bound_ok (parameters more scope) _ z t.1.2 in
        let o = sound_parameters more scope (parameter_inside (moved s f) (declared_name d) t.1.0 i) n.2
        (parameter_ready (moved s f) (declared_name d) t.1.0 p.is_scalar i known) rest.0 rest.1 in
        parameter_found untagged s comma specs d more m t.1.0 steps.0.1 p rest.0 o z rest.2

  -- ---- what stands outside of expressions asks for

  pub sound_value_of : (a : Trees.Expression) (s : Scope) → IsInRange a → Ready s (marks untagged a) → (at : ℕ) (z : Expression × FileScope)
      → value_at at (find a s) ≡ Ok z → FoundValue untagged s a z
  sound_value_of a s n r at z h = valued untagged a s at (find a s) (λ y k. sound a s n r y k) z h

  pub sound_constant : (a : Trees.Expression) (s : Scope) → IsInRange a → Ready s (marks untagged a) → (z : (IntKind × ℕ) × FileScope)
      → constant_at (first a) (value_at (first a) (find a (for_value s))) ≡ Ok z → FoundConstant untagged s a z
  sound_constant a s n r z h = constant_part a s (λ y k. sound a (for_value s) n r y k) z h

  pub sound_base : (specs : Trees.Specifiers) (s : Scope) → AreSpecifiersInRange specs → Ready s (marks_of_specifiers untagged specs) → (at : ℕ)
      → (z : CType × FileScope) → base_type (base_kind specs) at s.file (one_of specs s) ≡ Ok z → FoundBase untagged s specs z
  sound_base specs s n r at z h = base_found untagged s specs at (one_of specs s) (λ x e y k. sound_one specs s n r x e y k) z h
