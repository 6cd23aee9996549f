-- Each fault at which finding stops is one: in a file that goes on from the one at which it starts, the rule that the fault names is broken.
use Rattle.std.proofs.Common.{◌≡◌, ℕ, ◌+◌, ◌≤◌, ◌<◌, true, false, refl, sym, ◌∙◌, subst, List, [], ◌∷◌, ◌++◌, length, inl, inr, arith}
use Rattle.std.specs.Prelude.{◌^◌, ◌%◌, ◌⊎◌, Some, Err, slice_get}
use Rattle.lay_base.specs.declared.faults.Rule.TheVariants as R
use Rattle.c_types.specs.Types.{CType, CTypes, no_types, and_type, function}
use Rattle.c_types.specs.Objects.{is_object}
use Rattle.c_ast.specs.Trees
use Rattle.c_ast.specs.Places.{first, first_specifiers, first_declarator}
use Rattle.c_typed.specs.declared.program.MentionKind.TheVariants.{Named}
use Rattle.c_typed.specs.Trees as Typed
use Rattle.c_erasure.specs.Broken.{Fault, ill_typed, HasNoValue, IsBroken, IsBrokenTypeName}
use Rattle.c_erasure.specs.Broken.{AreBroken, IsBrokenSpecifier, AreBrokenEnumerators, IsBrokenValue, AreBrokenMembers, AreBrokenFields}
use Rattle.c_erasure.specs.Broken.{IsBrokenWithin}
use Rattle.c_erasure.specs.Broken.{IsBrokenLength, AreBrokenParameters, IsBrokenAmong, IsFunctionType}
use Rattle.c_erasure.specs.Declarators.{declared_name, parameter_type, closed}
use Rattle.c_erasure.specs.Erasure.{place_in, literal_of, comma_or, after_all, with_parameter_if_named}
use Rattle.c_erasure.specs.Literals.{literals}
use Rattle.c_erasure.specs.Marks as Marks
use Rattle.c_erasure.specs.Marks.{Mark, a_name, an_end, marks, marks_of_all, marks_of_type, marks_of_specifiers, marks_of_specifier, marks_of_members}
use Rattle.c_erasure.specs.Marks.{marks_of_member_declarators, marks_of_enumerators, marks_of_value, marks_of_declarator, an_enumeration}
use Rattle.c_erasure.specs.MentionPlaces.{spoken, spoken_of_members, spoken_of_enumerators, spoken_of_specifiers, spoken_of_declarator, spoken_of_list}
use Rattle.c_erasure.specs.MentionPlaces.{spoken_of_parameters}
use Rattle.c_erasure.specs.Noted.{Noted, Thing}
use Rattle.c_erasure.specs.Scopes.{FileScope, Scope, inside, measured, for_value, is_measured, named, ended}
use Rattle.c_erasure.specs.Specifiers.{types_among, storage_of, is_word}
use Rattle.c_erasure.specs.Checking.Answers.{moved}
use Rattle.c_erasure.specs.Checking.Nodes.{worth, named_in, signature_in, argument_in, call_in, target_in, measured_in, sized_type, cast_in}
use Rattle.c_erasure.specs.Checking.Declaring.{with_mention, mentions_in, derived, length_value, object_at, base_kind, without_storage, parameter_storage}
use Rattle.c_erasure.specs.Checking.Declaring.{scalar_parameter}
use Rattle.c_erasure.specs.Checking.Declaring.{enumerator_in, type_named, definable, known_tag, int_value, next_value, enumeration_of}
use Rattle.c_erasure.specs.Checking.Finding.{complete, value_at, constant_at, base_type, type_of_derived, find, arguments, type_name, one_of, specified}
use Rattle.c_erasure.specs.Checking.Finding.{members}
use Rattle.c_erasure.specs.Checking.Finding.{with_member, member_declarators, enumerators, enumerator_value, derivations, array_step, parameter_list}
use Rattle.c_erasure.specs.Checking.Finding.{parameters}
use Rattle.c_checking_laws.proofs.InRange.{IsInRange, AreInRange, IsTypeInRange, AreSpecifiersInRange, IsSpecifierInRange, AreMembersInRange}
use Rattle.c_checking_laws.proofs.InRange.{AreDeclaratorsInRange}
use Rattle.c_checking_laws.proofs.InRange.{AreEnumeratorsInRange, IsValueInRange, IsDeclaratorInRange, IsListInRange, AreParametersInRange}
use Rattle.c_checking_laws.proofs.Extends.{Extends, itself, further, records_grow, at_end, bound_stays, constants_stay}
use Rattle.c_checking_laws.proofs.Agreement.{added, none_grown, then}
use Rattle.c_checking_laws.proofs.Declared.{mentioned, before_mention, no_storage_is, parameter_storage_is, enumerator_is}
use Rattle.c_checking_laws.proofs.NodesOfParts.{signature_is}
use Rattle.c_checking_laws.proofs.Derived.{type_derived, object_is}
use Rattle.c_checking_laws.proofs.Found.{valued}
use Rattle.c_checking_laws.proofs.FoundTypes.{base_found, bound_of, enumerator_grown}
use Rattle.c_checking_laws.proofs.FoundDeclarators.{ready_in, parameter_inside, behind_parameter, parameter_made}
use Rattle.c_checking_laws.proofs.Sound.{sound, sound_type, sound_one, sound_members, sound_declarators, sound_value, sound_steps, sound_enumerators}
use Rattle.c_checking_laws.proofs.Sound.{constant_part}
use Rattle.c_checking_laws.proofs.FaultResults.{Allows, allows_left, allows_right, allows_tag, allows_said, allows_marks, allows_measured, allows_value}
use Rattle.c_checking_laws.proofs.FaultResults.{allows_inside, allows_there, reaches_then, reaches_outside, reached}
use Rattle.c_checking_laws.proofs.FaultAdditions.{of, of_all, of_type, of_specifiers, of_specifier, of_members, of_fields, of_enumerators, of_value}
use Rattle.c_checking_laws.proofs.FaultAdditions.{of_declarator, of_list, of_parameters, of_constant, behind_name, nothing_added}
use Rattle.c_checking_laws.proofs.FaultAdditions.{allows_list, allows_parameter}
use Rattle.c_checking_laws.proofs.FaultResults.{Broken, same_fault, bound_err, with_file_err, beside_err, chosen_err, here, there, whole, later}
use Rattle.c_checking_laws.proofs.Adding.{Grows, makes_none, mention_before, mention_between, bound_adds, adds_then, as_inside, file_of_tested}
use Rattle.c_checking_laws.proofs.Consistent.{enumerator_consistent}
use Rattle.c_checking_laws.proofs.Within.{Additions, both}
use Rattle.c_checking_laws.proofs.Growth.{grow, grow_type, grow_base, grow_members, grow_declarators, grow_enumerators, grow_value, grow_steps}
use Rattle.c_checking_laws.proofs.Growth.{grow_value_of, grow_constant}
use Rattle.c_checking_laws.proofs.FaultNodes.{named_fault, signature_fault, argument_fault, call_fault, target_fault, sized_fault, cast_fault}
use Rattle.c_checking_laws.proofs.FaultDeclaring.{type_named_fault, unless_fault, definable_fault, enumeration_fault, int_fault, next_fault, length_fault}
use Rattle.c_checking_laws.proofs.FaultDeclaring.{object_fault}
use Rattle.c_checking_laws.proofs.FaultDeclaring.{orderly_stays, storage_fault, parameter_storage_fault, scalar_fault}
use Rattle.c_checking_laws.proofs.FaultPremises.{Prepared, inside_prepared, left, right, known_after, IsTimely, AreTimely, IsTypeTimely}
use Rattle.c_checking_laws.proofs.FaultPremises.{AreSpecifiersTimely, IsSpecifierTimely, AreMembersTimely}
use Rattle.c_checking_laws.proofs.FaultPremises.{AreDeclaratorsTimely, AreEnumeratorsTimely, IsValueTimely, IsDeclaratorTimely, IsListTimely}
use Rattle.c_checking_laws.proofs.FaultPremises.{AreParametersTimely}
use Rattle.c_checking_laws.proofs.FaultRules.{tag_ends_nothing, new_stops, Stop, arguments_broken, argument_behind, size_broken, shape_broken, field_broken}
use Rattle.c_checking_laws.proofs.FaultRules.{StopsAtValue, enumerator_broken}
use Rattle.c_checking_laws.proofs.FaultSteps.{read_steps, asked}
use Rattle.c_checking_laws.proofs.FaultParts.{literal_stops, Read, thing_stands, value_stands, worthless, value_part, constant_stops, StopsAtConstant}
use Rattle.c_checking_laws.proofs.FaultParts.{index_stops}
use Rattle.c_checking_laws.proofs.FaultParts.{dot_stops}
use Rattle.c_checking_laws.proofs.FaultParts.{arrow_stops, post_stops, pre_stops, unary_stops, sizeof_stops, binary_stops, comma_stops, tested_part}
use Rattle.c_checking_laws.proofs.FaultParts.{choice_stops}
use Rattle.c_checking_laws.proofs.FaultParts.{assign_stops}
use Rattle.c_checking_laws.proofs.FaultTypes.{within_broken, base_stops, shape_stops, struct_named_stops, enum_named_stops, struct_body_stops, enumerator_stops}
use Rattle.c_checking_laws.proofs.FaultTypes.{prepared_inside}
use Rattle.c_checking_laws.proofs.FaultTypes.{parameter_prepared, parameter_file, behind_broken}

module _ (untagged : ℕ → List ℕ) (ends : List ℕ) (May : FileScope → Type 0) where
  -- what the theorems say of a part, as the lemmas of its alternatives ask it
  pub reading : (a : Trees.Expression) (s : Scope) → IsInRange a → Prepared untagged ends s (marks untagged a) → Allows May s (of untagged a)
      → ((f : Fault) → find a s ≡ Err f → Broken May s (λ s. IsBroken a s f)) → Read untagged May s a (find a s)
  reading a s i p may names = record {
    steady = p.steady;
    locals = p.locals_are;
    sound = λ y k. sound untagged a s i p.ready y k;
    reaches = λ y k. reached May s (sound untagged a s i p.ready y k).grew (grow untagged a s p.untagged_are y k) may;
    names = names;
  }

  length_broken : (s : Scope) (a : Trees.Expression) (f : Fault) → StopsAtConstant untagged May a f s → IsBrokenLength (Trees.some_expression a) s f
  length_broken s a f (inl b) = inl b
  length_broken s a f (inr (inl b)) = inr (inl b)
  length_broken s a f (inr (inr b)) = inr (inr (inl b))

  -- ---- enumerators

  value_broken : (s : Scope) (equal : ℕ) (a : Trees.Expression) (f : Fault) → StopsAtConstant untagged May a f s → IsBrokenValue (Trees.valued equal a) s f
  value_broken s equal a f (inl b) = inl b
  value_broken s equal a f (inr (inl b)) = inr (inl b)
  value_broken s equal a f (inr (inr b)) = inr (inr (inl b))

  mutual
    unfolding find arguments type_name one_of specified members member_declarators enumerators enumerator_value derivations array_step parameter_list parameters

    pub faults : (a : Trees.Expression) (s : Scope) (n : ℕ) → IsInRange a → Prepared untagged ends s (marks untagged a) → n ≤ length s.file.records
        → IsTimely untagged ends s.is_inside n a → Allows May s (of untagged a) → (f : Fault) → find a s ≡ Err f → Broken May s (λ s. IsBroken a s f)
    faults (Trees.name x) s n i p l t may f h =
        here May s (λ s. IsBroken (Trees.name x) s f)
        (named_fault (place_in s x.from) x.text (named s x.text x.from) f
        (with_file_err s.file (named_in (place_in s x.from) x.text (named s x.text x.from)) f h))
    faults (Trees.number x v kind) s n i p l t may f h = cc
    faults (Trees.character x v) s n i p l t may f h = cc
    faults (Trees.texts all) s n i p l t may f h = absurd (literal_stops s (place_in s (first (Trees.texts all))) (literal_of all) f h)
    faults (Trees.paren from a to) s n i p l t may f h =
        whole May s (λ s. IsBroken a s f) (λ s. IsBroken (Trees.paren from a to) s f) (faults a s n i p l t may f h) (λ g p h. h)
    faults (Trees.index a from b to) s n i p l t may f h =
        let u = marks untagged a in
        let before = left untagged ends u (marks untagged b) p in
        let in_a = allows_left May s (of untagged a) (of untagged b) may in
        let part = reading a s i.0 before in_a (λ f k. faults a s n i.0 before l t.0 in_a f k) in
        bound_err (find a s) _ f (Broken May s (λ s. IsBroken (Trees.index a from b to) s f)) h
        (λ e. whole May s (λ s. IsBroken a s f) (λ s. IsBroken (Trees.index a from b to) s f) (part.names f e) (λ g p h. inl h))
        (λ y e h.
        let w = part.sound y e in
        let after = right untagged ends u (marks untagged b) p w.grew in
        let in_b = allows_right May s (of untagged b) (grow untagged a s p.untagged_are y e) may in
        index_stops untagged May s a from b to (find a s) part y e (λ f. find b (moved s f)) (reading b (moved s y.1) i.1 after in_b
        (λ f k. faults b (moved s y.1) (n + added s.is_inside u) i.1 after (known_after n l w.grew) t.1 in_b f k)) f h)
    faults (Trees.call g from all to) s n i p l t may f h =
        let u = marks untagged g in
        let before = left untagged ends u (marks_of_all untagged all) p in
        let in_g = allows_left May s (of untagged g) (of_all untagged all) may in
        let part = reading g s i.0 before in_g (λ f k. faults g s n i.0 before l t.0 in_g f k) in
        bound_err (find g s) _ f (Broken May s (λ s. IsBroken (Trees.call g from all to) s f)) h
        (λ e. whole May s (λ s. IsBroken g s f) (λ s. IsBroken (Trees.call g from all to) s f) (part.names f e) (λ g p h. inl h))
        (λ y e h.
        let w = part.sound y e in
        let reach = part.reaches y e in
        let after = right untagged ends u (marks_of_all untagged all) p w.grew in
        let in_all = allows_right May s (of_all untagged all) (grow untagged g s p.untagged_are y e) may in
        beside_err y.1 (signature_in (first g) y.0) _ f (Broken May s (λ s. IsBroken (Trees.call g from all to) s f)) h
        (λ k. let m = signature_fault (first g) y.0 f k in
        there May s (λ s. IsBroken (Trees.call g from all to) s f) y.1 (part.reaches y e)
        (inr (inr (inl (m.0, (y.0, thing_stands untagged May w y.1 (itself y.1), m.1))))))
        (λ c k h.
        let is = signature_is (first g) y.0 c k in
        bound_err (arguments to c.0 all (moved s y.1)) _ f (Broken May s (λ s. IsBroken (Trees.call g from all to) s f)) h
        (λ e. later May s y.1 reach (Stop all to c.0 f) (λ s. IsBroken (Trees.call g from all to) s f)
        (faults_all all to c.0 (moved s y.1) (n + added s.is_inside u) i.1 after (known_after n l w.grew) t.1 in_all f e)
        (λ h p b. arguments_broken (moved s h) g from all to y.0 c.0 (thing_stands untagged May w h p) (subst (λ o. IsFunctionType o c.0) (sym is) refl) f b))
        (λ xs k h. absurd (call_fault (place_in s (first g)) y.0 c.1 xs.0 (function c.1 c.0) is f
        (with_file_err xs.1 (call_in (place_in s (first g)) y.0 c.1 xs.0) f h)))))
    faults (Trees.dot a at x) s n i p l t may f h =
        let part = reading a s i p may (λ f k. faults a s n i p l t.0 may f k) in
        dot_stops untagged May s a at x (find a s) part
        (λ y e. asked untagged ends s (n + added s.is_inside (marks untagged a)) at y.1 p.ends_are t.1 (known_after n l (part.sound y e).grew)) f h
    faults (Trees.arrow a at x) s n i p l t may f h =
        let part = reading a s i p may (λ f k. faults a s n i p l t.0 may f k) in
        arrow_stops untagged May s a at x (find a s) part
        (λ y e. asked untagged ends s (n + added s.is_inside (marks untagged a)) (first a) y.1 p.ends_are t.1
        (known_after n l (valued untagged a s (first a) (find a s) part.sound y e).grew)) f h
    faults (Trees.post a op at) s n i p l t may f h =
        post_stops untagged May s a op at (find a s) (reading a s i p may (λ f k. faults a s n i p l t may f k)) f h
    faults (Trees.pre op at a) s n i p l t may f h =
        pre_stops untagged May s op at a (find a s) (reading a s i p may (λ f k. faults a s n i p l t may f k)) f h
    faults (Trees.unary op at a) s n i p l t may f h =
        unary_stops untagged May s op at a (find a s) (reading a s i p may (λ f k. faults a s n i p l t may f k)) f h
    faults (Trees.sizeof_expression at a) s n i p l t may f h =
        let in_a = allows_measured May s (marks untagged a) (spoken a) (literals a) (at ∷ []) [] may in
        let part = reading a (measured s) i p in_a (λ f k. faults a (measured s) n i p l t.0 in_a f k) in
        bound_err (find a (measured s)) _ f (Broken May s (λ s. IsBroken (Trees.sizeof_expression at a) s f)) h
        (λ e. let b = part.names f e in record { file = b.file; reaches = b.reaches; is = inl b.is })
        (λ y e h. beside_err y.1 (measured_in y.1.records (complete s at) at (first a) y.0) _ f (Broken May s (λ s. IsBroken (Trees.sizeof_expression at a) s f)) h
        (λ k. sizeof_stops untagged May s at a (find a (measured s)) part
        (λ y e. asked untagged ends s (n + added s.is_inside (marks untagged a)) at y.1 p.ends_are t.1 (known_after n l (part.sound y e).grew)) f y e k)
        (λ u k h. cc))
    faults (Trees.sizeof_type at from m to) s n i p l t may f h =
        let in_m = allows_said May s at (of_type untagged m) may in
        bound_err (type_name m s) _ f (Broken May s (λ s. IsBroken (Trees.sizeof_type at from m to) s f)) h
        (λ e. whole May s (λ s. IsBrokenTypeName m s f) (λ s. IsBroken (Trees.sizeof_type at from m to) s f) (faults_type m s n i p l t.0 in_m f e) (λ g p h. inl h))
        (λ y e h.
        let v = sound_type untagged m s i p.ready y e in
        let known = asked untagged ends s (n + added s.is_inside (marks_of_type untagged m)) to y.1 p.ends_are t.1 (known_after n l v.grew) in
        beside_err y.1 (sized_type y.1.records (complete s to) at y.0) _ f (Broken May s (λ s. IsBroken (Trees.sizeof_type at from m to) s f)) h
        (λ k.
        let q = v.grew.extends in
        let g = constants_stay q (λ ends file. sized_type y.1.records (ended ends to) at y.0 ≡ Err f) k in
        let r = constants_stay q (λ ends file. ended ends to ≤ length y.1.records) known in
        there May s (λ s. IsBroken (Trees.sizeof_type at from m to) s f) y.1 (reached May s v.grew (grow_type untagged m s p.untagged_are y e) in_m)
        (size_broken (moved s y.1) at from m to y.0 f (v.holds y.1 (itself y.1)).0 (sized_fault y.1.records (ended y.1.ends to) at y.0 r f g)))
        (λ u k h. cc))
    faults (Trees.cast from m to a) s n i p l t may f h =
        let u = marks_of_type untagged m in
        let before = left untagged ends u (marks untagged a) p in
        let in_m = allows_left May s (of_type untagged m) (of untagged a) may in
        bound_err (type_name m s) _ f (Broken May s (λ s. IsBroken (Trees.cast from m to a) s f)) h
        (λ e. whole May s (λ s. IsBrokenTypeName m s f) (λ s. IsBroken (Trees.cast from m to a) s f) (faults_type m s n i.0 before l t.0 in_m f e) (λ g p h. inl h))
        (λ y e h.
        let v = sound_type untagged m s i.0 before.ready y e in
        let r = reached May s v.grew (grow_type untagged m s p.untagged_are y e) in_m in
        let after = right untagged ends u (marks untagged a) p v.grew in
        let in_a = allows_right May s (of untagged a) (grow_type untagged m s p.untagged_are y e) may in
        let part = reading a (moved s y.1) i.1 after in_a
        (λ f k. faults a (moved s y.1) (n + added s.is_inside u) i.1 after (known_after n l v.grew) t.1 in_a f k) in
        value_part untagged May (moved s y.1) a (find a (moved s y.1)) part _ f (Broken May s (λ s. IsBroken (Trees.cast from m to a) s f)) h
        (λ b. later May s y.1 r (λ s. IsBroken a s f) (λ s. IsBroken (Trees.cast from m to a) s f) b
        (λ g p h. inr (inl ((y.0, (v.holds g p).0), h))))
        (λ b. later May s y.1 r (λ s. HasNoValue a s f) (λ s. IsBroken (Trees.cast from m to a) s f) b
        (λ g p h. inr (inr (inl ((y.0, (v.holds g p).0), h)))))
        (λ x w k h.
        let c = cast_fault (place_in s from) y.0 x.0 f (with_file_err x.1 (cast_in (place_in s from) y.0 x.0) f h) in
        there May s (λ s. IsBroken (Trees.cast from m to a) s f) x.1 (reaches_then r w.reaches)
        (inr (inr (inr (y.0, c.0, (v.holds x.1 w.found.grew.extends).0, (x.0, value_stands untagged May w x.1 (itself x.1), c.1)))))))
    faults (Trees.binary a op at b) s n i p l t may f h =
        let u = marks untagged a in
        let before = left untagged ends u (marks untagged b) p in
        let in_a = allows_left May s (of untagged a) (of untagged b) may in
        let part = reading a s i.0 before in_a (λ f k. faults a s n i.0 before l t.0 in_a f k) in
        value_part untagged May s a (find a s) part _ f (Broken May s (λ s. IsBroken (Trees.binary a op at b) s f)) h
        (λ e. whole May s (λ s. IsBroken a s f) (λ s. IsBroken (Trees.binary a op at b) s f) e (λ g p h. inl h))
        (λ e. whole May s (λ s. HasNoValue a s f) (λ s. IsBroken (Trees.binary a op at b) s f) e (λ g p h. inr (inr (inl h))))
        (λ x v e h.
        let after = right untagged ends u (marks untagged b) p v.found.grew in
        let in_b = allows_right May s (of untagged b) (grow_value_of untagged a s p.untagged_are (first a) x e) may in
        binary_stops untagged May s a op at b x v (find b (moved s x.1)) (reading b (moved s x.1) i.1 after in_b
        (λ f k. faults b (moved s x.1) (n + added s.is_inside u) i.1 after (known_after n l v.found.grew) t.1 in_b f k)) f h)
    faults (Trees.cond a question b colon c) s n i p l t may f h =
        let u = marks untagged a in
        let v = marks untagged b in
        let first_two = left untagged ends (u ++ v) (marks untagged c) p in
        let before = left untagged ends u v first_two in
        let two = allows_left May s (both (of untagged a) (of untagged b)) (of untagged c) may in
        let in_a = allows_left May s (of untagged a) (of untagged b) two in
        tested_part untagged May s a question b colon c (find a s) (reading a s i.0 before in_a (λ f k. faults a s n i.0 before l t.0 in_a f k)) _ f h
        (λ x w e h.
        let after = right untagged ends u v first_two w.found.grew in
        let known = known_after n l w.found.grew in
        let own = file_of_tested (Grows s u (spoken a) (literals a)) question (value_at (first a) (find a s)) x e
        (λ y k. grow_value_of untagged a s p.untagged_are (first a) y k) in
        let in_b = allows_right May s (of untagged b) own two in
        value_part untagged May (moved s x.1) b (find b (moved s x.1)) (reading b (moved s x.1) i.1 after in_b
        (λ f k. faults b (moved s x.1) (n + added s.is_inside u) i.1 after known t.1 in_b f k)) _ f
        (Broken May s (λ s. IsBroken (Trees.cond a question b colon c) s f)) h
        (λ j. later May s x.1 w.reaches (λ s. IsBroken b s f) (λ s. IsBroken (Trees.cond a question b colon c) s f) j
        (λ g p h. inr (inr (inr (inl (w.stands g p, inl h))))))
        (λ j. later May s x.1 w.reaches (λ s. HasNoValue b s f) (λ s. IsBroken (Trees.cond a question b colon c) s f) j
        (λ g p h. inr (inr (inr (inl (w.stands g p, inr h))))))
        (λ y k e h.
        let last = right untagged ends (u ++ v) (marks untagged c) p (then w.found.grew k.found.grew) in
        let in_c = allows_right May s (of untagged c) (adds_then own (grow_value_of untagged b (moved s x.1) after.untagged_are (first b) y e)) may in
        choice_stops untagged May s a question b colon c x w y k (find c (moved s y.1)) (reading c (moved s y.1) i.2 last in_c
        (λ f j. faults c (moved s y.1) (n + added s.is_inside u + added s.is_inside v) i.2 last
        (known_after (n + added s.is_inside u) known k.found.grew) t.2 in_c f j)) f h))
    faults (Trees.assign a op at b) s n i p l t may f h =
        let u = marks untagged a in
        let before = left untagged ends u (marks untagged b) p in
        let in_a = allows_left May s (of untagged a) (of untagged b) may in
        let part = reading a s i.0 before in_a (λ f k. faults a s n i.0 before l t.0 in_a f k) in
        bound_err (find a s) _ f (Broken May s (λ s. IsBroken (Trees.assign a op at b) s f)) h
        (λ e. whole May s (λ s. IsBroken a s f) (λ s. IsBroken (Trees.assign a op at b) s f) (part.names f e) (λ g p h. inl h))
        (λ y e h.
        let w = part.sound y e in
        let after = right untagged ends u (marks untagged b) p w.grew in
        let in_b = allows_right May s (of untagged b) (grow untagged a s p.untagged_are y e) may in
        beside_err y.1 (target_in (first a) y.0) _ f (Broken May s (λ s. IsBroken (Trees.assign a op at b) s f)) h
        (λ k. let m = target_fault (first a) y.0 f k in
        there May s (λ s. IsBroken (Trees.assign a op at b) s f) y.1 (part.reaches y e)
        (inr (inr (inl (m.0, (y.0, thing_stands untagged May w y.1 (itself y.1), m.1))))))
        (λ c k h. assign_stops untagged May s a op at b y w (part.reaches y e) c k (λ f. find b (moved s f)) (reading b (moved s y.1) i.1 after in_b
        (λ f k. faults b (moved s y.1) (n + added s.is_inside u) i.1 after (known_after n l w.grew) t.1 in_b f k)) f h))
    faults (Trees.comma a at b) s n i p l t may f h =
        let u = marks untagged a in
        let before = left untagged ends u (marks untagged b) p in
        let in_a = allows_left May s (of untagged a) (of untagged b) may in
        let part = reading a s i.0 before in_a (λ f k. faults a s n i.0 before l t.0 in_a f k) in
        value_part untagged May s a (find a s) part _ f (Broken May s (λ s. IsBroken (Trees.comma a at b) s f)) h
        (λ e. whole May s (λ s. IsBroken a s f) (λ s. IsBroken (Trees.comma a at b) s f) e (λ g p h. inl h))
        (λ e. whole May s (λ s. HasNoValue a s f) (λ s. IsBroken (Trees.comma a at b) s f) e (λ g p h. inr (inr (inl h))))
        (λ x v e h.
        let after = right untagged ends u (marks untagged b) p v.found.grew in
        let in_b = allows_right May s (of untagged b) (grow_value_of untagged a s p.untagged_are (first a) x e) may in
        comma_stops untagged May s a at b x v (find b (moved s x.1)) (reading b (moved s x.1) i.1 after in_b
        (λ f k. faults b (moved s x.1) (n + added s.is_inside u) i.1 after (known_after n l v.found.grew) t.1 in_b f k)) f h)
    faults (Trees.braces from all comma to) s n i p l t may f h =
        here May s (λ s. IsBroken (Trees.braces from all comma to) s f) (same_fault (Thing × FileScope) (ill_typed R.Init from) f h)

    pub faults_all : (all : Trees.Arguments) (to : ℕ) (types : CTypes) (s : Scope) (n : ℕ) → AreInRange all
        → Prepared untagged ends s (marks_of_all untagged all)
        → n ≤ length s.file.records → AreTimely untagged ends s.is_inside n all → Allows May s (of_all untagged all)
        → (f : Fault) → arguments to types all s ≡ Err f
        → Broken May s (Stop all to types f)
    faults_all Trees.no_arguments to no_types s n i p l t may f h = cc
    faults_all Trees.no_arguments to (and_type u more) s n i p l t may f h =
        here May s (Stop Trees.no_arguments to (and_type u more) f) (inr (same_fault (Typed.Expressions Noted × FileScope) (ill_typed R.Arguments to) f h))
    faults_all (Trees.and_argument comma a rest) to no_types s n i p l t may f h =
        here May s (Stop (Trees.and_argument comma a rest) to no_types f)
        (inr (same_fault (Typed.Expressions Noted × FileScope) (ill_typed R.Arguments (first a)) f h))
    faults_all (Trees.and_argument comma a rest) to (and_type c more) s n i p l t may f h =
        let u = marks untagged a in
        let before = left untagged ends u (marks_of_all untagged rest) p in
        let in_a = allows_left May s (of untagged a) (of_all untagged rest) may in
        let part = reading a s i.0 before in_a (λ f k. faults a s n i.0 before l t.0 in_a f k) in
        value_part untagged May s a (find a s) part _ f (Broken May s (Stop (Trees.and_argument comma a rest) to (and_type c more) f)) h
        (λ e. whole May s (λ s. IsBroken a s f) (Stop (Trees.and_argument comma a rest) to (and_type c more) f) e (λ g p h. inl (inl h)))
        (λ e. whole May s (λ s. HasNoValue a s f) (Stop (Trees.and_argument comma a rest) to (and_type c more) f) e (λ g p h. inl (inr (inl h))))
        (λ x v e h. beside_err x.1 (argument_in (first a) c x.0) _ f (Broken May s (Stop (Trees.and_argument comma a rest) to (and_type c more) f)) h
        (λ k. let m = argument_fault (first a) c x.0 f k in
        there May s (Stop (Trees.and_argument comma a rest) to (and_type c more) f) x.1 v.reaches
        (inr (inl (m.0, (x.0, value_stands untagged May v x.1 (itself x.1), m.1)))))
        (λ y k h.
        let after = right untagged ends u (marks_of_all untagged rest) p v.found.grew in
        let in_rest = allows_right May s (of_all untagged rest) (grow_value_of untagged a s p.untagged_are (first a) x e) may in
        bound_err (arguments to more rest (moved s x.1)) _ f (Broken May s (Stop (Trees.and_argument comma a rest) to (and_type c more) f)) h
        (λ k. later May s x.1 v.reaches (Stop rest to more f) (Stop (Trees.and_argument comma a rest) to (and_type c more) f)
        (faults_all rest to more (moved s x.1) (n + added s.is_inside u) i.1 after (known_after n l v.found.grew) t.1 in_rest f k)
        (λ g p h. argument_behind (moved s g) comma a rest to c more f (v.stands g p) h))
        (λ ys k h. cc)))

    pub faults_type : (m : Trees.TypeName) (s : Scope) (n : ℕ) → IsTypeInRange m → Prepared untagged ends s (marks_of_type untagged m)
        → n ≤ length s.file.records
        → IsTypeTimely untagged ends s.is_inside n m → Allows May s (of_type untagged m) → (f : Fault) → type_name m s ≡ Err f → Broken May s (λ s. IsBrokenTypeName m s f)
    faults_type (Trees.type_name specs d) s n i p l t may f h =
        let at = first_specifiers specs in
        let u = marks_of_specifiers untagged specs in
        let before = left untagged ends u (marks_of_declarator untagged d) p in
        let in_specs = allows_left May s (of_specifiers untagged specs) (behind_name untagged (first_declarator d at) d) may in
        bound_err (without_storage at (storage_of specs) (base_type (base_kind specs) at s.file (one_of specs s))) _ f
        (Broken May s (λ s. IsBrokenTypeName (Trees.type_name specs d) s f)) h
        (λ e. storage_fault at (storage_of specs) (base_type (base_kind specs) at s.file (one_of specs s)) f
        (Broken May s (λ s. IsBrokenTypeName (Trees.type_name specs d) s f)) e
        (λ m. here May s (λ s. IsBrokenTypeName (Trees.type_name specs d) s f) (inl m))
        (λ e. base_stops May s specs at (one_of specs s) f (λ x q j. faults_one specs s n i.0 before l t.0 in_specs x q f j) e
        (Broken May s (λ s. IsBrokenTypeName (Trees.type_name specs d) s f))
        (λ m. here May s (λ s. IsBrokenTypeName (Trees.type_name specs d) s f) (inr (inl m)))
        (λ b. whole May s (λ s. AreBroken specs s f) (λ s. IsBrokenTypeName (Trees.type_name specs d) s f) b (λ g p h. inr (inr (inl h))))))
        (λ b e h.
        let k = no_storage_is at (storage_of specs) (base_type (base_kind specs) at s.file (one_of specs s)) b e in
        let v = base_found untagged s specs at (one_of specs s) (λ x e y j. sound_one untagged specs s i.0 before.ready x e y j) b k.1 in
        let own = grow_base untagged specs s p.untagged_are at b k.1 in
        let r = reached May s v.grew own in_specs in
        let after = right untagged ends u (marks_of_declarator untagged d) p v.grew in
        let in_d = allows_said May (moved s b.1) (first_declarator d at) (of_declarator untagged d)
        (allows_right May s (behind_name untagged (first_declarator d at) d) own may) in
        let known = known_after n l v.grew in
        bound_err (derivations d (moved s b.1)) _ f (Broken May s (λ s. IsBrokenTypeName (Trees.type_name specs d) s f)) h
        (λ e. later May s b.1 r (λ s. IsBrokenWithin d s f) (λ s. IsBrokenTypeName (Trees.type_name specs d) s f)
        (faults_steps d (moved s b.1) (n + added s.is_inside u) i.1 after known t.1 in_d f e)
        (λ g p h. inr (inr (inr (inl (b.0, v.holds g p, within_broken d (moved s g) b.0 f h))))))
        (λ steps e h.
        let w = sound_steps untagged d (moved s b.1) i.1 after.ready steps e in
        let o = reached May (moved s b.1) w.grew (grow_steps untagged d (moved s b.1) after.untagged_are steps e) in_d in
        let y = read_steps untagged ends d (moved s b.1) (n + added s.is_inside u) i.1 after.ready after.ends_are known t.1 steps e in
        beside_err steps.1 (type_of_derived (first_declarator d at) steps.1 steps.0 b.0) _ f (Broken May s (λ s. IsBrokenTypeName (Trees.type_name specs d) s f)) h
        (λ k. there May s (λ s. IsBrokenTypeName (Trees.type_name specs d) s f) steps.1 (reaches_then r o)
        (shape_broken (moved s steps.1) specs d b.0 f (v.holds steps.1 w.grew.extends)
        (shape_stops untagged ends May (moved s b.1) d steps w y (first_declarator d at) b.0 f k)))
        (λ c k h. cc)))

    pub faults_one : (specs : Trees.Specifiers) (s : Scope) (n : ℕ) → AreSpecifiersInRange specs → Prepared untagged ends s (marks_of_specifiers untagged specs)
        → n ≤ length s.file.records → AreSpecifiersTimely untagged ends s.is_inside n specs
        → Allows May s (of_specifiers untagged specs) → (x : Trees.Specifier) → types_among specs ≡ x ∷ []
        → (f : Fault) → one_of specs s ≡ Err f → Broken May s (λ s. AreBroken specs s f)
    faults_one Trees.no_specifiers s n i p l t may x e f h = cc
    faults_one (Trees.and_specifier (Trees.plain word at) more) s n i p l t may x e f h =
        whole May s (λ s. AreBroken more s f) (λ s. AreBroken (Trees.and_specifier (Trees.plain word at) more) s f)
        (faults_one more s n i.1 p l t may x e f h) (λ g p h. inr h)
    faults_one (Trees.and_specifier (Trees.typename y) more) s n i p l t may x e f h =
        whole May s (λ s. IsBrokenSpecifier (Trees.typename y) s f) (λ s. AreBroken (Trees.and_specifier (Trees.typename y) more) s f)
        (faults_specifier (Trees.typename y) s n i.0 (left untagged ends _ _ p) l t
        (allows_left May s (of_specifier untagged (Trees.typename y)) (of_specifiers untagged more) may) refl f h) (λ g p h. inl h)
    faults_one (Trees.and_specifier (Trees.struct_named at y) more) s n i p l t may x e f h =
        whole May s (λ s. IsBrokenSpecifier (Trees.struct_named at y) s f) (λ s. AreBroken (Trees.and_specifier (Trees.struct_named at y) more) s f)
        (faults_specifier (Trees.struct_named at y) s n i.0 (left untagged ends _ _ p) l t
        (allows_left May s (of_specifier untagged (Trees.struct_named at y)) (of_specifiers untagged more) may) refl f h) (λ g p h. inl h)
    faults_one (Trees.and_specifier (Trees.struct_body at y from all to) more) s n i p l t may x e f h =
        whole May s (λ s. IsBrokenSpecifier (Trees.struct_body at y from all to) s f)
        (λ s. AreBroken (Trees.and_specifier (Trees.struct_body at y from all to) more) s f)
        (faults_specifier (Trees.struct_body at y from all to) s n i.0 (left untagged ends _ _ p) l t
        (allows_left May s (of_specifier untagged (Trees.struct_body at y from all to)) (of_specifiers untagged more) may) refl f h) (λ g p h. inl h)
    faults_one (Trees.and_specifier (Trees.enum_named at y) more) s n i p l t may x e f h =
        whole May s (λ s. IsBrokenSpecifier (Trees.enum_named at y) s f) (λ s. AreBroken (Trees.and_specifier (Trees.enum_named at y) more) s f)
        (faults_specifier (Trees.enum_named at y) s n i.0 (left untagged ends _ _ p) l t
        (allows_left May s (of_specifier untagged (Trees.enum_named at y)) (of_specifiers untagged more) may) refl f h) (λ g p h. inl h)
    faults_one (Trees.and_specifier (Trees.enum_body at y from all comma to) more) s n i p l t may x e f h =
        whole May s (λ s. IsBrokenSpecifier (Trees.enum_body at y from all comma to) s f)
        (λ s. AreBroken (Trees.and_specifier (Trees.enum_body at y from all comma to) more) s f)
        (faults_specifier (Trees.enum_body at y from all comma to) s n i.0 (left untagged ends _ _ p) l t
        (allows_left May s (of_specifier untagged (Trees.enum_body at y from all comma to)) (of_specifiers untagged more) may) refl f h) (λ g p h. inl h)

    pub faults_specifier : (x : Trees.Specifier) (s : Scope) (n : ℕ) → IsSpecifierInRange x → Prepared untagged ends s (marks_of_specifier untagged x)
        → n ≤ length s.file.records → IsSpecifierTimely untagged ends s.is_inside n x → Allows May s (of_specifier untagged x) → is_word x ≡ false → (f : Fault) → specified x s ≡ Err f
        → Broken May s (λ s. IsBrokenSpecifier x s f)
    faults_specifier (Trees.plain word at) s n i p l t may w f h = cc
    faults_specifier (Trees.typename x) s n i p l t may w f h =
        here May s (λ s. IsBrokenSpecifier (Trees.typename x) s f)
        (type_named_fault x (named s x.text x.from) f (with_file_err s.file (type_named x (named s x.text x.from)) f h))
    faults_specifier (Trees.struct_named at x) s n i p l t may w f h = struct_named_stops untagged ends May s at x p f h
    faults_specifier (Trees.struct_body at x from all to) s n i p l t may w f h =
        chosen_err s.is_inside _ _ f (Broken May s (λ s. IsBrokenSpecifier (Trees.struct_body at x from all to) s f)) h
        (λ j h. here May s (λ s. IsBrokenSpecifier (Trees.struct_body at x from all to) s f) (inl (same_fault (CType × FileScope) (ill_typed R.Scope at) f h, j)))
        (λ j h. unless_fault (definable s at x (known_tag s x)) _ f (Broken May s (λ s. IsBrokenSpecifier (Trees.struct_body at x from all to) s f)) h
        (λ e. here May s (λ s. IsBrokenSpecifier (Trees.struct_body at x from all to) s f) (inr (inr (inr (inr (inl (definable_fault s at x p.orderly f e)))))))
        (λ e h.
        let u = marks_of_members untagged all in
        let own : List Mark = an_end (Marks.tag_name untagged at x) to ∷ [] in
        let tag = Marks.a_structure untagged at x in
        let after = right untagged ends (tag ∷ []) (u ++ own) p
        (none_grown s.file s.is_inside (tag ∷ []) (tag_ends_nothing s.is_inside _)) in
        let before = left untagged ends u own after in
        let in_members = allows_marks May s u own (spoken_of_members all)
        (allows_tag May s _ (record { marks = u ++ own; said = spoken_of_members all; made = [] }) may) in
        bound_err (members all s) _ f (Broken May s (λ s. IsBrokenSpecifier (Trees.struct_body at x from all to) s f)) h
        (λ e. whole May s (λ s. AreBrokenMembers all s f) (λ s. IsBrokenSpecifier (Trees.struct_body at x from all to) s f)
        (faults_members all s n i.1 before l t in_members f e) (λ g p h. inr (inl h)))
        (λ m e h.
        let v = sound_members untagged all s i.1 before.ready m e in
        struct_body_stops untagged ends May s at x from all to p.untagged_are j m v
        (reached May s v.grew (grow_members untagged all s p.untagged_are m e) in_members) (right untagged ends u own after v.grew) f h)))
    faults_specifier (Trees.enum_named at x) s n i p l t may w f h = enum_named_stops untagged ends May s at x p f h
    faults_specifier (Trees.enum_body at x from all comma to) s n i p l t may w f h =
        let u = marks_of_enumerators untagged all (after_all comma to) in
        let before = left untagged ends u (an_enumeration untagged x to) p in
        let in_all = allows_marks May s u (an_enumeration untagged x to) (spoken_of_enumerators all) may in
        chosen_err s.is_inside _ _ f (Broken May s (λ s. IsBrokenSpecifier (Trees.enum_body at x from all comma to) s f)) h
        (λ j h. here May s (λ s. IsBrokenSpecifier (Trees.enum_body at x from all comma to) s f)
        (inl (same_fault (CType × FileScope) (ill_typed R.Scope at) f h, j)))
        (λ j h. bound_err (enumerators all s 0 (after_all comma to)) _ f (Broken May s (λ s. IsBrokenSpecifier (Trees.enum_body at x from all comma to) s f)) h
        (λ e. whole May s (λ s. AreBrokenEnumerators all s 0 (after_all comma to) f) (λ s. IsBrokenSpecifier (Trees.enum_body at x from all comma to) s f)
        (faults_enumerators all s 0 (after_all comma to) n j (omega arith) i before l t in_all f e) (λ g p h. inr (inl h)))
        (λ g e h.
        let v = sound_enumerators untagged all s 0 (after_all comma to) j (omega arith) i before.ready g e in
        there May s (λ s. IsBrokenSpecifier (Trees.enum_body at x from all comma to) s f) g.1
        (reached May s v.grew (grow_enumerators untagged all s 0 (after_all comma to) j p.untagged_are g e) in_all)
        (inr (inr (enumeration_fault (moved s g.1) x f (with_file_err g.1 (enumeration_of g.1 x) f h))))))

    pub faults_members : (all : Trees.MemberDeclarations) (s : Scope) (n : ℕ) → AreMembersInRange all → Prepared untagged ends s (marks_of_members untagged all)
        → n ≤ length s.file.records → AreMembersTimely untagged ends s.is_inside n all
        → Allows May s (of_members untagged all) → (f : Fault) → members all s ≡ Err f
        → Broken May s (λ s. AreBrokenMembers all s f)
    faults_members Trees.no_member_declarations s n i p l t may f h = cc
    faults_members (Trees.and_member_declaration specs ds semicolon more) s n i p l t may f h =
        let at = first_specifiers specs in
        let u = marks_of_specifiers untagged specs in
        let k = marks_of_member_declarators untagged ds in
        let own = left untagged ends (u ++ k) (marks_of_members untagged more) p in
        let before = left untagged ends u k own in
        let first_two = allows_left May s (both (of_specifiers untagged specs) (of_fields untagged ds semicolon)) (of_members untagged more) may in
        let in_specs = allows_left May s (of_specifiers untagged specs) (of_fields untagged ds semicolon) first_two in
        bound_err (without_storage at (storage_of specs) (base_type (base_kind specs) at s.file (one_of specs s))) _ f
        (Broken May s (λ s. AreBrokenMembers (Trees.and_member_declaration specs ds semicolon more) s f)) h
        (λ e. storage_fault at (storage_of specs) (base_type (base_kind specs) at s.file (one_of specs s)) f
        (Broken May s (λ s. AreBrokenMembers (Trees.and_member_declaration specs ds semicolon more) s f)) e
        (λ m. here May s (λ s. AreBrokenMembers (Trees.and_member_declaration specs ds semicolon more) s f) (inl m))
        (λ e. base_stops May s specs at (one_of specs s) f (λ x q j. faults_one specs s n i.0 before l t.0 in_specs x q f j) e
        (Broken May s (λ s. AreBrokenMembers (Trees.and_member_declaration specs ds semicolon more) s f))
        (λ m. here May s (λ s. AreBrokenMembers (Trees.and_member_declaration specs ds semicolon more) s f) (inr (inl m)))
        (λ b. whole May s (λ s. AreBroken specs s f) (λ s. AreBrokenMembers (Trees.and_member_declaration specs ds semicolon more) s f) b
        (λ g p h. inr (inr (inl h))))))
        (λ b e h.
        let q = no_storage_is at (storage_of specs) (base_type (base_kind specs) at s.file (one_of specs s)) b e in
        let v = base_found untagged s specs at (one_of specs s) (λ x e y j. sound_one untagged specs s i.0 before.ready x e y j) b q.1 in
        let words = grow_base untagged specs s p.untagged_are at b q.1 in
        let r = reached May s v.grew words in_specs in
        let in_ds = allows_right May s (of_fields untagged ds semicolon) words first_two in
        let after = right untagged ends u k own v.grew in
        let known = known_after n l v.grew in
        bound_err (member_declarators ds b.0 semicolon (moved s b.1)) _ f
        (Broken May s (λ s. AreBrokenMembers (Trees.and_member_declaration specs ds semicolon more) s f)) h
        (λ e. later May s b.1 r (λ s. AreBrokenFields ds s b.0 semicolon f)
        (λ s. AreBrokenMembers (Trees.and_member_declaration specs ds semicolon more) s f)
        (faults_declarators ds b.0 semicolon (moved s b.1) (n + added s.is_inside u) i.1 after known t.1 in_ds f e)
        (λ g p h. inr (inr (inr (b.0, v.holds g p, inl h)))))
        (λ c e h.
        let w = sound_declarators untagged ds b.0 semicolon (moved s b.1) i.1 after.ready c e in
        let fields = grow_declarators untagged ds b.0 semicolon (moved s b.1) after.untagged_are c e in
        let o = reached May (moved s b.1) w.grew fields in_ds in
        let in_more = allows_right May s (of_members untagged more) (adds_then words fields) may in
        let last = right untagged ends (u ++ k) (marks_of_members untagged more) p (then v.grew w.grew) in
        bound_err (members more (moved s c.1)) _ f (Broken May s (λ s. AreBrokenMembers (Trees.and_member_declaration specs ds semicolon more) s f)) h
        (λ e. later May s c.1 (reaches_then r o) (λ s. AreBrokenMembers more s f)
        (λ s. AreBrokenMembers (Trees.and_member_declaration specs ds semicolon more) s f)
        (faults_members more (moved s c.1) (n + added s.is_inside u + added s.is_inside k) i.2 last
        (known_after (n + added s.is_inside u) known w.grew) t.2 in_more f e)
        (λ g p h. inr (inr (inr (b.0, v.holds g (further w.grew.extends p), inr (c.0, w.holds g p, h))))))
        (λ rest e h. cc)))

    pub faults_declarators : (all : Trees.MemberDeclarators) (base : CType) (semicolon : ℕ) (s : Scope) (n : ℕ) → AreDeclaratorsInRange all
        → Prepared untagged ends s (marks_of_member_declarators untagged all) → n ≤ length s.file.records
        → AreDeclaratorsTimely untagged ends s.is_inside n all semicolon → Allows May s (of_fields untagged all semicolon) → (f : Fault) → member_declarators all base semicolon s ≡ Err f
        → Broken May s (λ s. AreBrokenFields all s base semicolon f)
    faults_declarators Trees.no_member_declarators base semicolon s n i p l t may f h = cc
    faults_declarators (Trees.and_member_declarator comma d more) base semicolon s n i p l t may f h =
        let at = first_declarator d semicolon in
        let u = marks_of_declarator untagged d in
        let before = left untagged ends u (marks_of_member_declarators untagged more) p in
        let in_own = allows_left May s (behind_name untagged at d) (of_fields untagged more semicolon) may in
        let in_d = allows_said May s at (of_declarator untagged d) in_own in
        bound_err (derivations d s) _ f (Broken May s (λ s. AreBrokenFields (Trees.and_member_declarator comma d more) s base semicolon f)) h
        (λ e. whole May s (λ s. IsBrokenWithin d s f) (λ s. AreBrokenFields (Trees.and_member_declarator comma d more) s base semicolon f)
        (faults_steps d s n i.0 before l t.0 in_d f e) (λ g p h. inl (within_broken d (moved s g) base f h)))
        (λ steps e h.
        let v = sound_steps untagged d s i.0 before.ready steps e in
        let k = grow_steps untagged d s p.untagged_are steps e in
        let r = reached May s v.grew k in_d in
        let w = read_steps untagged ends d s n i.0 before.ready before.ends_are l t.0 steps e in
        let known = known_after n l v.grew in
        beside_err steps.1 (type_of_derived at steps.1 steps.0 base) _ f
        (Broken May s (λ s. AreBrokenFields (Trees.and_member_declarator comma d more) s base semicolon f)) h
        (λ k. there May s (λ s. AreBrokenFields (Trees.and_member_declarator comma d more) s base semicolon f) steps.1 r
        (field_broken (moved s steps.1) comma d more base semicolon f (shape_stops untagged ends May s d steps v w at base f k)))
        (λ c k h.
        let ask = asked untagged ends s (n + added s.is_inside u) at steps.1 p.ends_are t.1 known in
        let declares = λ (g : FileScope) (q : Extends steps.1 g).
        v.holds g q steps.1.records q.records.0 q.records.1 base (closed c) (type_derived at steps.1 steps.0 base c k) in
        beside_err steps.1 (object_at steps.1.records (complete s at) at c) _ f
        (Broken May s (λ s. AreBrokenFields (Trees.and_member_declarator comma d more) s base semicolon f)) h
        (λ k.
        let m = object_fault steps.1.records (complete s at) at c ask f k in
        there May s (λ s. AreBrokenFields (Trees.and_member_declarator comma d more) s base semicolon f) steps.1 r
        (inr (inr (inl (c, declares steps.1 (itself steps.1), constants_stay v.grew.extends (λ ends file. is_object (ended ends at) c ≡ false) m.1, m.0)))))
        (λ o j h.
        let is = object_is steps.1.records (complete s at) at c o j in
        let m = mentions_in s.file in
        let file = with_mention s m Named o at steps.1 in
        let grown = mentioned s m Named o at v.grew in
        let after = right untagged ends u (marks_of_member_declarators untagged more) p grown in
        let h : with_member (place_in s at) o (Some t.2.0) (member_declarators more base semicolon (moved s file)) ≡ Err f =
        subst (λ x. with_member (place_in s at) o x (member_declarators more base semicolon (moved s file)) ≡ Err f) t.2.1 h in
        bound_err (member_declarators more base semicolon (moved s file)) _ f
        (Broken May s (λ s. AreBrokenFields (Trees.and_member_declarator comma d more) s base semicolon f)) h
        (λ k.
        let own = mention_before s Named o at (grow_steps untagged d s p.untagged_are steps e) in
        later May s file (reached May s grown own in_own)
        (λ s. AreBrokenFields more s base semicolon f)
        (λ s. AreBrokenFields (Trees.and_member_declarator comma d more) s base semicolon f)
        (faults_declarators more base semicolon (moved s file) (n + added s.is_inside u) i.1 after (known_after n l grown) t.3
        (allows_right May s (of_fields untagged more semicolon) own may) f k)
        (λ g q h. inr (inr (inr (
          c,
          declares g (before_mention s steps.1 g m Named o at q),
          constants_stay (further grown.extends q) (λ ends file. is_object (ended ends at) c ≡ true) is.0,
          h,
        )))))
        (λ rest k h. cc))))

    pub faults_enumerators : (all : Trees.Enumerators) (s : Scope) (next after n : ℕ) → s.is_inside ≡ false → next < 2 ^ 32 → AreEnumeratorsInRange all
        → Prepared untagged ends s (marks_of_enumerators untagged all after) → n ≤ length s.file.records
        → AreEnumeratorsTimely untagged ends s.is_inside n all → Allows May s (of_enumerators untagged all after) → (f : Fault) → enumerators all s next after ≡ Err f
        → Broken May s (λ s. AreBrokenEnumerators all s next after f)
    faults_enumerators Trees.no_enumerators s next after n j b i p l t may f h = cc
    faults_enumerators (Trees.and_enumerator comma x value more) s next after n j b i p l t may f h =
        let u = marks_of_value untagged value in
        let own : List Mark = a_name (comma_or more after) ∷ [] in
        let rest = marks_of_enumerators untagged more after in
        let before = left untagged ends u (own ++ rest) p in
        let named : Additions = record { marks = own; said = []; made = [] } in
        let in_value = allows_left May s (of_value untagged value) (both named (of_enumerators untagged more after)) may in
        bound_err (enumerator_value value s x.from next) _ f (Broken May s (λ s. AreBrokenEnumerators (Trees.and_enumerator comma x value more) s next after f)) h
        (λ e. whole May s (StopsAtValue value x.from next f) (λ s. AreBrokenEnumerators (Trees.and_enumerator comma x value more) s next after f)
        (faults_value value s x.from next n i.0 before l t.0 in_value f e) (λ g p h. enumerator_broken (moved s g) comma x value more next after f h))
        (λ v e h.
        let w = sound_value untagged value s x.from next b i.0 before.ready v e in
        let valued = grow_value untagged value s x.from next p.untagged_are v e in
        let r = reached May s w.grew valued in_value in
        let behind = allows_right May s (both named (of_enumerators untagged more after)) valued may in
        let later_on = right untagged ends u (own ++ rest) p w.grew in
        let c = bound_of untagged x more after v.0 in
        bound_err (enumerator_in v.1 c) _ f (Broken May s (λ s. AreBrokenEnumerators (Trees.and_enumerator comma x value more) s next after f)) h
        (λ k. there May s (λ s. AreBrokenEnumerators (Trees.and_enumerator comma x value more) s next after f) v.1 r
        (inr (inr (inl (enumerator_stops untagged ends May s v.1 x (comma_or more after) rest c refl refl j later_on f k)))))
        (λ g k h.
        let grown = enumerator_grown untagged s j next x value more after v w g k in
        let bound = subst (Grows (moved s v.1) own [] []) (enumerator_is v.1 c g k)
        (bound_adds v.1 c s.is_inside (is_measured s.purpose) (makes_none s.purpose) j (v.0, refl) (enumerator_consistent v.1 c g k)) in
        let last = reached May (moved s v.1) grown bound (allows_left May (moved s v.1) named (of_enumerators untagged more after) behind) in
        let known = known_after n l w.grew in
        let grew = records_grow grown.extends in
        let there_is : slice_get g.names (length v.1.names) ≡ Some c =
        subst (λ (g : FileScope). slice_get g.names (length v.1.names) ≡ Some c) (enumerator_is v.1 c g k) (at_end v.1.names c) in
        later May s g (reaches_then r last) (λ s. AreBrokenEnumerators more s ((v.0 + 1) % 2 ^ 32) after f)
        (λ s. AreBrokenEnumerators (Trees.and_enumerator comma x value more) s next after f)
        (faults_enumerators more (moved s g) ((v.0 + 1) % 2 ^ 32) after (n + added s.is_inside u) j (omega arith) i.1
        (right untagged ends own rest later_on grown) (omega (arith, known, grew)) t.1
        (allows_right May (moved s v.1) (of_enumerators untagged more after) bound behind) f h)
        (λ d q h. inr (inr (inr (v.0, w.holds d (further grown.extends q), (length v.1.names, bound_stays q (length v.1.names) c there_is), h))))))

    pub faults_value : (value : Trees.EnumeratorValue) (s : Scope) (at next n : ℕ) → IsValueInRange value
        → Prepared untagged ends s (marks_of_value untagged value)
        → n ≤ length s.file.records → IsValueTimely untagged ends s.is_inside n value → Allows May s (of_value untagged value) → (f : Fault) → enumerator_value value s at next ≡ Err f
        → Broken May s (StopsAtValue value at next f)
    faults_value Trees.no_value s at next n i p l t may f h =
        let m = next_fault at next f (with_file_err s.file (next_value at next) f h) in
        here May s (StopsAtValue Trees.no_value at next f) (inr (m.0, refl, m.1))
    faults_value (Trees.valued equal a) s at next n i p l t may f h =
        let in_a = allows_value May s (marks untagged a) (spoken a) (literals a) [] may in
        bound_err (constant_at (first a) (value_at (first a) (find a (for_value s)))) _ f (Broken May s (StopsAtValue (Trees.valued equal a) at next f)) h
        (λ e. whole May s (StopsAtConstant untagged May a f) (StopsAtValue (Trees.valued equal a) at next f)
        (constant_stops untagged May s a (find a (for_value s)) (reading a (for_value s) i p in_a
        (λ f k. faults a (for_value s) n i p l t in_a f k)) f e)
        (λ g p h. inl (value_broken (moved s g) equal a f h)))
        (λ c e h.
        let v = constant_part untagged a s (λ y j. sound untagged a (for_value s) i p.ready y j) c e in
        let m = int_fault (first a) c.0 f (with_file_err c.1 (int_value (first a) c.0) f h) in
        there May s (StopsAtValue (Trees.valued equal a) at next f) c.1 (reached May s v.grew (grow_constant untagged a s p.untagged_are c e) may)
        (inl (inr (inr (inr (m.0, (c.0.0, c.0.1, v.holds c.1 (itself c.1), m.1)))))))

    pub faults_steps : (d : Trees.Declarator) (s : Scope) (n : ℕ) → IsDeclaratorInRange d → Prepared untagged ends s (marks_of_declarator untagged d)
        → n ≤ length s.file.records → IsDeclaratorTimely untagged ends s.is_inside n d → Allows May s (of_declarator untagged d) → (f : Fault) → derivations d s ≡ Err f
        → Broken May s (λ s. IsBrokenWithin d s f)
    faults_steps Trees.nothing s n i p l t may f h = cc
    faults_steps (Trees.named x) s n i p l t may f h = cc
    faults_steps (Trees.pointer at consts d) s n i p l t may f h =
        bound_err (derivations d s) _ f (Broken May s (λ s. IsBrokenWithin (Trees.pointer at consts d) s f)) h
        (λ e. whole May s (λ s. IsBrokenWithin d s f) (λ s. IsBrokenWithin (Trees.pointer at consts d) s f) (faults_steps d s n i p l t may f e) (λ g p h. h))
        (λ steps e h. cc)
    faults_steps (Trees.enclosed from d to) s n i p l t may f h =
        whole May s (λ s. IsBrokenWithin d s f) (λ s. IsBrokenWithin (Trees.enclosed from d to) s f) (faults_steps d s n i p l t may f h) (λ g p h. h)
    faults_steps (Trees.array d from Trees.no_expression to) s n i p l t may f h =
        bound_err (derivations d s) _ f (Broken May s (λ s. IsBrokenWithin (Trees.array d from Trees.no_expression to) s f)) h
        (λ e. whole May s (λ s. IsBrokenWithin d s f) (λ s. IsBrokenWithin (Trees.array d from Trees.no_expression to) s f)
        (faults_steps d s n i.0 (left untagged ends (marks_of_declarator untagged d) [] p) l t.0
        (allows_left May s (of_declarator untagged d) nothing_added may) f e) (λ g p h. inl h))
        (λ steps e h. cc)
    faults_steps (Trees.array d from (Trees.some_expression a) to) s n i p l t may f h =
        let u = marks_of_declarator untagged d in
        let before = left untagged ends u (marks untagged a) p in
        let in_d = allows_left May s (of_declarator untagged d) (of_constant untagged a) may in
        bound_err (derivations d s) _ f (Broken May s (λ s. IsBrokenWithin (Trees.array d from (Trees.some_expression a) to) s f)) h
        (λ e. whole May s (λ s. IsBrokenWithin d s f) (λ s. IsBrokenWithin (Trees.array d from (Trees.some_expression a) to) s f)
        (faults_steps d s n i.0 before l t.0 in_d f e) (λ g p h. inl h))
        (λ steps e h.
        let v = sound_steps untagged d s i.0 before.ready steps e in
        let r = reached May s v.grew (grow_steps untagged d s p.untagged_are steps e) in_d in
        let behind = allows_right May s (of_constant untagged a) (grow_steps untagged d s p.untagged_are steps e) may in
        let in_a = allows_value May (moved s steps.1) (marks untagged a) (spoken a) (literals a) [] behind in
        let y = read_steps untagged ends d s n i.0 before.ready before.ends_are l t.0 steps e in
        let after = right untagged ends u (marks untagged a) p v.grew in
        let own = moved s steps.1 in
        bound_err (constant_at (first a) (value_at (first a) (find a (for_value own)))) _ f
        (Broken May s (λ s. IsBrokenWithin (Trees.array d from (Trees.some_expression a) to) s f)) h
        (λ k. later May s steps.1 r (StopsAtConstant untagged May a f) (λ s. IsBrokenWithin (Trees.array d from (Trees.some_expression a) to) s f)
        (constant_stops untagged May own a (find a (for_value own)) (reading a (for_value own) i.1 after in_a
        (λ f k. faults a (for_value own) (n + added s.is_inside u) i.1 after (known_after n l v.grew) t.2 in_a f k)) f k)
        (λ g p h. inr (y.lengths g p, length_broken (moved s g) a f h)))
        (λ c k h.
        let w = constant_part untagged a own (λ y j. sound untagged a (for_value own) i.1 after.ready y j) c k in
        let last = reached May own w.grew (grow_constant untagged a own after.untagged_are c k) behind in
        beside_err c.1 (length_value (first a) c.0) _ f (Broken May s (λ s. IsBrokenWithin (Trees.array d from (Trees.some_expression a) to) s f)) h
        (λ k.
        let m = length_fault (first a) c.0 f k in
        there May s (λ s. IsBrokenWithin (Trees.array d from (Trees.some_expression a) to) s f) c.1 (reaches_then r last)
        (inr (y.lengths c.1 w.grew.extends, inr (inr (inr (m.0, (c.0.0, c.0.1, w.holds c.1 (itself c.1), m.1)))))))
        (λ m k h. cc)))
    faults_steps (Trees.function d from all to) s n i p l t may f h =
        let u = marks_of_declarator untagged d in
        let list = allows_list untagged May s d all may in
        let in_d = allows_left May s (of_declarator untagged d) (of_list all) list in
        bound_err (derivations d s) _ f (Broken May s (λ s. IsBrokenWithin (Trees.function d from all to) s f)) h
        (λ e. whole May s (λ s. IsBrokenWithin d s f) (λ s. IsBrokenWithin (Trees.function d from all to) s f) (faults_steps d s n i.0 p l t.0 in_d f e)
        (λ g p h. inl h))
        (λ steps e h.
        let v = sound_steps untagged d s i.0 p.ready steps e in
        let r = reached May s v.grew (grow_steps untagged d s p.untagged_are steps e) in_d in
        let in_list = allows_inside May (moved s steps.1) [] [] (spoken_of_list all) []
        (allows_right May s (of_list all) (grow_steps untagged d s p.untagged_are steps e) list) in
        let y = read_steps untagged ends d s n i.0 p.ready p.ends_are l t.0 steps e in
        let own = inside (moved s steps.1) in
        let q = inside_prepared untagged ends {i = true} refl [] (ready_in s u steps.1 p.ready v.grew) (v.grew.extends.ends ∙ p.ends_are)
        (v.grew.extends.untagged ∙ p.untagged_are) (v.grew.steady p.steady) (orderly_stays v.grew.extends p.orderly) p.locals_are in
        bound_err (parameter_list all own) _ f (Broken May s (λ s. IsBrokenWithin (Trees.function d from all to) s f)) h
        (λ k.
        let b = faults_list all own (n + added s.is_inside u) refl i.1 q (known_after n l v.grew) t.1 in_list f k in
        record { file = b.file; reaches = reaches_then r (reaches_outside s.is_inside b.reaches); is = inr (y.lengths b.file b.reaches.extends, b.is) })
        (λ types k h. cc))

    pub faults_list : (all : Trees.ParameterList) (s : Scope) (n : ℕ) → s.is_inside ≡ true → IsListInRange all → Prepared untagged ends s []
        → n ≤ length s.file.records → IsListTimely untagged ends n all → Allows May s (of_list all) → (f : Fault) → parameter_list all s ≡ Err f
        → Broken May s (λ s. AreBrokenParameters all s f)
    faults_list (Trees.void_alone at) s n i r p l t may f h = cc
    faults_list (Trees.listed all) s n i r p l t may f h =
        whole May s (λ s. IsBrokenAmong all s f) (λ s. AreBrokenParameters (Trees.listed all) s f) (faults_parameters all s n i r p l t may f h) (λ g p h. h)

    pub faults_parameters : (all : Trees.Parameters) (s : Scope) (n : ℕ) → s.is_inside ≡ true → AreParametersInRange all → Prepared untagged ends s []
        → n ≤ length s.file.records → AreParametersTimely untagged ends n all → Allows May s (of_parameters all) → (f : Fault) → parameters all s ≡ Err f → Broken May s (λ s. IsBrokenAmong all s f)
    faults_parameters Trees.no_parameters s n i r p l t may f h = cc
    faults_parameters (Trees.and_parameter comma specs d more) s n i r p l t may f h =
        let at = first_specifiers specs in
        let place = first_declarator d at in
        let name = declared_name d in
        let u = marks_of_specifiers untagged specs in
        let k = marks_of_declarator untagged d in
        let all = prepared_inside untagged ends May s i [] (u ++ k) p in
        let before = left untagged ends u k all in
        let own = subst (λ b. AreSpecifiersTimely untagged ends b n specs) (sym i) t.0 in
        let told = spoken_of_specifiers specs ++ place ∷ spoken_of_declarator d in
        let in_both = allows_there May s i (u ++ k) [] told []
        (allows_left May s (record { marks = []; said = told; made = [] }) (of_parameters more) may) in
        let in_specs = allows_left May s (of_specifiers untagged specs) (behind_name untagged place d) in_both in
        bound_err (parameter_storage at (storage_of specs) (base_type (base_kind specs) at s.file (one_of specs s))) _ f
        (Broken May s (λ s. IsBrokenAmong (Trees.and_parameter comma specs d more) s f)) h
        (λ e. parameter_storage_fault at (storage_of specs) (base_type (base_kind specs) at s.file (one_of specs s)) f
        (Broken May s (λ s. IsBrokenAmong (Trees.and_parameter comma specs d more) s f)) e
        (λ m. here May s (λ s. IsBrokenAmong (Trees.and_parameter comma specs d more) s f) (inl m))
        (λ e. base_stops May s specs at (one_of specs s) f (λ x q j. faults_one specs s n r.0 before l own in_specs x q f j) e
        (Broken May s (λ s. IsBrokenAmong (Trees.and_parameter comma specs d more) s f))
        (λ m. here May s (λ s. IsBrokenAmong (Trees.and_parameter comma specs d more) s f) (inr (inl m)))
        (λ b. whole May s (λ s. AreBroken specs s f) (λ s. IsBrokenAmong (Trees.and_parameter comma specs d more) s f) b (λ g p h. inr (inr (inl h))))))
        (λ b e h.
        let q = parameter_storage_is at (storage_of specs) (base_type (base_kind specs) at s.file (one_of specs s)) b e in
        let v = base_found untagged s specs at (one_of specs s) (λ x e y j. sound_one untagged specs s r.0 before.ready x e y j) b q.1 in
        let words = grow_base untagged specs s p.untagged_are at b q.1 in
        let reach_base = reached May s v.grew words in_specs in
        let in_d = allows_said May (moved s b.1) place (of_declarator untagged d) (allows_right May s (behind_name untagged place d) words in_both) in
        let after = right untagged ends u k all v.grew in
        let grew = records_grow v.grew.extends in
        let known : n ≤ length b.1.records = omega (arith, l, grew) in
        let steps_own = subst (λ b. IsDeclaratorTimely untagged ends b n d) (sym i) t.1 in
        bound_err (derivations d (moved s b.1)) _ f (Broken May s (λ s. IsBrokenAmong (Trees.and_parameter comma specs d more) s f)) h
        (λ e. later May s b.1 reach_base (λ s. IsBrokenWithin d s f) (λ s. IsBrokenAmong (Trees.and_parameter comma specs d more) s f)
        (faults_steps d (moved s b.1) n r.1 after known steps_own in_d f e)
        (λ g p h. inr (inr (inr (inr (inl (b.0, v.holds g p, within_broken d (moved s g) b.0 f h)))))))
        (λ steps e h.
        let w = sound_steps untagged d (moved s b.1) r.1 after.ready steps e in
        let y = read_steps untagged ends d (moved s b.1) n r.1 after.ready after.ends_are known steps_own steps e in
        let ext = reaches_then reach_base (reached May (moved s b.1) w.grew (grow_steps untagged d (moved s b.1) after.untagged_are steps e) in_d) in
        let j = itself steps.1 in
        beside_err steps.1 (derived steps.1.records steps.0 b.0) _ f (Broken May s (λ s. IsBrokenAmong (Trees.and_parameter comma specs d more) s f)) h
        (λ o. there May s (λ s. IsBrokenAmong (Trees.and_parameter comma specs d more) s f) steps.1 ext
        (inr (inr (inr (inr (inl (b.0, v.holds steps.1 w.grew.extends, y.broken steps.1 j b.0 f o)))))))
        (λ shape o h.
        new_stops s name steps.1 (scalar_parameter place (parameter_type shape)) _ f
        (Broken May s (λ s. IsBrokenAmong (Trees.and_parameter comma specs d more) s f)) h
        (λ old. here May s (λ s. IsBrokenAmong (Trees.and_parameter comma specs d more) s f) (inr (inr (inr (inl old)))))
        (λ c.
        let m = scalar_fault place (parameter_type shape) f c in
        there May s (λ s. IsBrokenAmong (Trees.and_parameter comma specs d more) s f) steps.1 ext
        (inr (inr (inr (inr (inr (
          b.0,
          shape,
          v.holds steps.1 w.grew.extends,
          w.holds steps.1 j steps.1.records j.records.0 j.records.1 b.0 shape o,
          inl (m.0, m.1, m.2),
        )))))))
        (λ new c is h.
        let m = mentions_in b.1 in
        let made = parameter_made untagged s i specs d q.0 b v steps w shape o new c is in
        let grown = mentioned s m Named c place made.grown in
        let file = with_mention s m Named c place steps.1 in
        let told_so = mention_between s Named c place words (grow_steps untagged d (moved s b.1) after.untagged_are steps e) in
        let reach = reached May s grown told_so in_both in
        let in_more = allows_parameter May (moved s file) name c (spoken_of_parameters more)
        (allows_right May s (of_parameters more) (as_inside {u = u ++ k} i told_so) may) in
        let scope = behind_parameter untagged s m name c place steps.1 in
        let wide = records_grow grown.extends in
        let many : n ≤ length file.records = omega (arith, l, wide) in
        bound_err (parameters more scope) _ f (Broken May s (λ s. IsBrokenAmong (Trees.and_parameter comma specs d more) s f)) h
        (λ e. later May s file reach (λ s. IsBrokenAmong more (with_parameter_if_named s name c) f)
        (λ s. IsBrokenAmong (Trees.and_parameter comma specs d more) s f)
        (behind_broken untagged ends May (moved s file) name c more f
        (faults_parameters more scope n (parameter_inside (moved s file) name c i) r.2
        (parameter_prepared untagged ends May (moved s file) name c made.is_scalar i (right untagged ends [] [] p grown))
        (subst (λ (g : FileScope). n ≤ length g.records) (sym (parameter_file untagged ends May (moved s file) name c)) many) t.2 in_more f e))
        (λ g a h.
        let z = made.holds g (before_mention s steps.1 g m Named c place a) in
        inr (inr (inr (inr (inr (
          made.base,
          made.shape,
          z.0,
          z.1,
          inr (subst (λ t. IsBrokenAmong more (with_parameter_if_named (moved s g) name t) f) made.ty_is h),
        )))))))
        (λ rest e h. cc)))))

  -- where a value is asked for
  pub value_faults : (a : Trees.Expression) (s : Scope) (n : ℕ) → IsInRange a → Prepared untagged ends s (marks untagged a) → n ≤ length s.file.records
      → IsTimely untagged ends s.is_inside n a → Allows May s (of untagged a) → (f : Fault) → value_at (first a) (find a s) ≡ Err f
      → Broken May s (λ s. IsBroken a s f) ⊎ Broken May s (λ s. HasNoValue a s f)
  value_faults a s n i p l t may f h =
      let part = reading a s i p may (λ f k. faults a s n i p l t may f k) in
      bound_err (find a s) _ f (Broken May s (λ s. IsBroken a s f) ⊎ Broken May s (λ s. HasNoValue a s f)) h (λ e. inl (part.names f e))
      (λ y e h. inr (worthless untagged May s a (find a s) part y e f (with_file_err y.1 (worth (first a) y.0) f h)))

  -- and where a constant is
  pub constant_faults : (a : Trees.Expression) (s : Scope) (n : ℕ) → IsInRange a → Prepared untagged ends s (marks untagged a) → n ≤ length s.file.records
      → IsTimely untagged ends s.is_inside n a → Allows May s (of_constant untagged a) → (f : Fault)
      → constant_at (first a) (value_at (first a) (find a (for_value s))) ≡ Err f
      → Broken May s (StopsAtConstant untagged May a f)
  constant_faults a s n i p l t may f h =
      let in_a = allows_value May s (marks untagged a) (spoken a) (literals a) [] may in
      constant_stops untagged May s a (find a (for_value s)) (reading a (for_value s) i p in_a (λ f k. faults a (for_value s) n i p l t in_a f k)) f h
