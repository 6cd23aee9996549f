-- What finding adds to a file is what the text declares, says and makes there, in the order of the text.
use Rattle.std.proofs.Common.{◌≡◌, ℕ, ◌+◌, true, false, refl, sym, ap, ◌∙◌, subst, List, [], ◌∷◌, ◌++◌, append-nil, inl, inr}
use Rattle.std.specs.Prelude.{◌^◌, ◌%◌, Option, Some, None, Ok}
use Rattle.lay_base.specs.declared.place.Place.{Place}
use Rattle.c_types.specs.declared.ty.IntKind.{IntKind}
use Rattle.c_types.specs.Types.{CType, CTypes, no_types, and_type, Field, Record}
use Rattle.c_ast.specs.declared.words.Spelling.{Spelling}
use Rattle.c_ast.specs.declared.operators.UnaryOp.TheVariants as U
use Rattle.c_ast.specs.Trees
use Rattle.c_ast.specs.Places.{first, first_specifiers, first_declarator}
use Rattle.c_typed.specs.declared.program.MentionKind.TheVariants.{Named, Sizeof}
use Rattle.c_typed.specs.Trees as Typed
use Rattle.c_erasure.specs.Broken.{member_names, tag_place}
use Rattle.c_erasure.specs.Declarators.{declared_name, parameter_type}
use Rattle.c_erasure.specs.Erasure.{place_in, tag_text, comma_or, after_all, literal_of, literal_object, with_parameter_if_named}
use Rattle.c_erasure.specs.Literals.{literals, literals_of_all}
use Rattle.c_erasure.specs.Marks as Marks
use Rattle.c_erasure.specs.Marks.{Mark, an_end, a_name, marks, marks_of_all, marks_of_type, marks_of_specifiers}
use Rattle.c_erasure.specs.Marks.{marks_of_specifier, marks_of_members}
use Rattle.c_erasure.specs.Marks.{marks_of_member_declarators, marks_of_enumerators, marks_of_value, marks_of_declarator, an_enumeration}
use Rattle.c_erasure.specs.MentionPlaces.{spoken, spoken_of_all, spoken_of_type, spoken_of_specifiers, spoken_of_specifier, spoken_of_members, spoken_of_fields}
use Rattle.c_erasure.specs.MentionPlaces.{spoken_of_enumerators, spoken_of_value, spoken_of_declarator, spoken_of_list, spoken_of_parameters}
use Rattle.c_erasure.specs.Noted.{Noted, Expression, Path, Thing}
use Rattle.c_erasure.specs.Operators.{update_of}
use Rattle.c_erasure.specs.Scopes.{FileScope, Scope, Purpose, in_full, value_alone, type_alone, inside, measured, for_value, is_measured}
use Rattle.c_erasure.specs.Specifiers.{types_among, storage_of}
use Rattle.c_erasure.specs.Checking.Answers.{Checked, moved}
use Rattle.c_erasure.specs.Checking.Nodes.{worth, array_of, signature_in, argument_in}
use Rattle.c_erasure.specs.Checking.Nodes.{measured_in, sized_type, target_in}
use Rattle.c_erasure.specs.Checking.Declaring.{with_record, with_mention, mentions_in, literal_for, literal_in, completed_in, enumerator_in}
use Rattle.c_erasure.specs.Checking.Declaring.{Derivation, derived, length_value, object_at, base_kind, without_storage, parameter_storage, scalar_parameter}
use Rattle.c_erasure.specs.Checking.Finding.{complete, value_at, tested_at, constant_at, subscripted, base_type}
use Rattle.c_erasure.specs.Checking.Finding.{type_of_derived, with_member}
use Rattle.c_erasure.specs.Checking.Finding.{find, arguments, type_name, one_of, specified, members, member_declarators, enumerators, enumerator_value}
use Rattle.c_erasure.specs.Checking.Finding.{derivations, array_step}
use Rattle.c_erasure.specs.Checking.Finding.{parameter_list, parameters}
use Rattle.c_checking_laws.proofs.Results.{bound_ok, bound_with, chosen}
use Rattle.c_checking_laws.proofs.Consistent.{enumerator_consistent}
use Rattle.c_checking_laws.proofs.Declared.{no_storage_is, parameter_storage_is, unless_ok, completed_is, enumerator_is}
use Rattle.c_checking_laws.proofs.Derived.{IsBaseOf, base_is, words_mark_nothing}
use Rattle.c_checking_laws.proofs.FoundTypes.{bound_of}
use Rattle.c_checking_laws.proofs.FilesOfNodes.{file_of_unary, file_of_assigned}
use Rattle.c_checking_laws.proofs.FoundDeclarators.{new_bound, parameter_inside, parameter_untagged}
use Rattle.c_checking_laws.proofs.Adding.{Adds, Grows, makes_none, adds_nothing, adds_then, as_measured, as_value, as_inside, value_measures, value_makes_none}
use Rattle.c_checking_laws.proofs.Adding.{mention_between, mention_before, mention_behind, object_adds, record_adds, bound_adds, tag_adds, file_beside, file_of}
use Rattle.c_checking_laws.proofs.Adding.{file_of_value, file_of_tested, file_of_constant}

nothing : (s : Scope) → Grows s [] [] [] s.file
nothing s = adds_nothing s.file s.is_inside (is_measured s.purpose) (makes_none s.purpose)

-- ---- literals

literal_by : (p : Purpose) (s : Scope) → s.purpose ≡ p → (from : ℕ) (bytes : List ℕ) (z : Thing × FileScope) → literal_for p s (place_in s from) bytes ≡ Ok z
    → Adds s.file s.is_inside (is_measured p) (makes_none p) [] [] (from ∷ []) z.1
literal_by in_full s e from bytes z h =
    file_of (λ f. Adds s.file s.is_inside false false [] [] (from ∷ []) f) _ z h (object_adds s.file (literal_object (place_in s from) bytes) s.is_inside false)
literal_by value_alone s e from bytes z h =
    let n = adds_nothing s.file s.is_inside false true in
    file_of (λ f. Adds s.file s.is_inside false true [] [] (from ∷ []) f) _ z h (as_kept n)
  where
    as_kept : Adds s.file s.is_inside false true [] [] [] s.file → Adds s.file s.is_inside false true [] [] (from ∷ []) s.file
    as_kept n = record {
      untagged = n.untagged;
      functions = n.functions;
      names = n.names;
      records = n.records;
      mentions = n.mentions;
      objects = n.objects;
      declared = n.declared;
      consistent = n.consistent;
    }
literal_by type_alone s e from bytes z h =
    let n = adds_nothing s.file s.is_inside true true in
    file_of (λ f. Adds s.file s.is_inside true true [] [] (from ∷ []) f) _ z h
    (record {
      untagged = n.untagged;
      functions = n.functions;
      names = n.names;
      records = n.records;
      mentions = n.mentions;
      objects = n.objects;
      declared = n.declared;
      consistent = n.consistent;
    })

literal_grows : (s : Scope) (from : ℕ) (bytes : List ℕ) (z : Thing × FileScope) → literal_in s (place_in s from) bytes ≡ Ok z
    → Grows s [] [] (from ∷ []) z.1
unfolding literal_in
literal_grows s from bytes z h = literal_by s.purpose s refl from bytes z h

-- ---- parts for their values or types alone

value_grows : (s : Scope) (u : List Mark) (x k : List ℕ) (f : FileScope) → Grows (for_value s) u x k f → Grows s u x [] f
value_grows s u x k f p =
    as_value (value_measures s.purpose)
    (subst (λ c. Adds s.file s.is_inside (is_measured (for_value s).purpose) c u x k f) (value_makes_none s.purpose) p)

measured_grows : (s : Scope) (u : List Mark) (x k : List ℕ) (f : FileScope) → Grows (measured s) u x k f → Grows s u [] [] f
measured_grows s u x k f p = as_measured p

constant_grows : (s : Scope) (at : ℕ) (u : List Mark) (x k : List ℕ) (r : Checked Thing)
    → ((y : Thing × FileScope) → r ≡ Ok y → Grows (for_value s) u x k y.1)
    → (z : (IntKind × ℕ) × FileScope) → constant_at at (value_at at r) ≡ Ok z → Grows s u x [] z.1
constant_grows s at u x k r sound z h =
    file_of_constant (Grows s u x []) at (value_at at r) z h
    (λ y j. file_of_value (Grows s u x []) at r y j (λ w i. value_grows s u x k w.1 (sound w i)))

-- ---- nodes by what their operands are

index_grows : (s : Scope) (v : List Mark) (y l : List ℕ) (count from left at : ℕ) (x : Thing × FileScope) (number : FileScope → Checked Expression)
    → (u : List Mark) (j k : List ℕ) → Grows s u j k x.1
    → ((i : Expression × FileScope) → number x.1 ≡ Ok i → Grows (moved s x.1) v y l i.1)
    → (o : Option (Path × CType)) (z : Thing × FileScope) → subscripted count from left (place_in s at) x.0 x.1 number o ≡ Ok z
    → Grows s (u ++ v) (j ++ y) (k ++ l) z.1
index_grows s v y l count from left at x number u j k p later (Some a) z h =
    let i = bound_ok (number x.1) _ z h in
    file_beside (Grows s (u ++ v) (j ++ y) (k ++ l)) i.0.1 _ z i.2 (adds_then p (later i.0 i.1))
index_grows s v y l count from left at x number u j k p later None z h =
    let w = bound_with x.1 (worth from x.0) _ z h in
    let i = bound_ok (number x.1) _ z w.2 in
    file_beside (Grows s (u ++ v) (j ++ y) (k ++ l)) i.0.1 _ z i.2 (adds_then p (later i.0 i.1))

-- ---- specifiers

words_say_nothing : (specs : Trees.Specifiers) → types_among specs ≡ [] → spoken_of_specifiers specs ≡ []
words_say_nothing Trees.no_specifiers h = refl
words_say_nothing (Trees.and_specifier (Trees.plain word at) more) h = words_say_nothing more h
words_say_nothing (Trees.and_specifier s more) h = cc

-- ---- members and parameters

member_grows : (P : FileScope → Type 0) (at : Place) (t : CType) (x : Option Spelling) (r : Checked (List Field))
    → ((y : List Field × FileScope) → r ≡ Ok y → P y.1) → (z : List Field × FileScope) → with_member at t x r ≡ Ok z → P z.1
member_grows P at t None r p z h = cc
member_grows P at t (Some x) r p z h = let y = bound_ok r _ z h in file_of P _ z y.2 (p y.0 y.1)

parameter_grows : (s : Scope) (x : Option Spelling) (t : CType) (y : List ℕ) (f : FileScope) → Grows (with_parameter_if_named s x t) [] y [] f
    → Grows s [] y [] f
parameter_grows s None t y f p = p
parameter_grows s (Some x) t y f p = as_inside {u = []} refl p

module _ (untagged : ℕ → List ℕ) where
  abbrev GrowsBySpecifiers : Scope → Trees.Specifiers → FileScope → Type 0
  GrowsBySpecifiers s specs f = Grows s (marks_of_specifiers untagged specs) (spoken_of_specifiers specs) [] f

  words_grow : (s : Scope) (specs : Trees.Specifiers) → types_among specs ≡ [] → GrowsBySpecifiers s specs s.file
  words_grow s specs e = rw (words_mark_nothing untagged specs e, words_say_nothing specs e) (nothing s)

  base_grows : (s : Scope) (specs : Trees.Specifiers) (at : ℕ) (one : Checked CType)
      → ((x : Trees.Specifier) → types_among specs ≡ x ∷ [] → (y : CType × FileScope) → one ≡ Ok y → GrowsBySpecifiers s specs y.1)
      → (z : CType × FileScope) → base_type (base_kind specs) at s.file one ≡ Ok z → GrowsBySpecifiers s specs z.1
  base_grows s specs at one sound z h = by_way (base_is specs at s.file one z h)
    where
      by_way : IsBaseOf specs s.file one z → GrowsBySpecifiers s specs z.1
      by_way (inl w) = subst (GrowsBySpecifiers s specs) w.2 (words_grow s specs w.0)
      by_way (inr w) = sound w.0 w.1 z w.3

  one_grows : (s : Scope) (x : Trees.Specifier) (more : Trees.Specifiers) (y : Trees.Specifier) → x ∷ types_among more ≡ y ∷ [] → (f : FileScope)
      → Grows s (marks_of_specifier untagged x) (spoken_of_specifier x) [] f
      → Grows s (marks_of_specifier untagged x ++ marks_of_specifiers untagged more) (spoken_of_specifier x ++ spoken_of_specifiers more) [] f
  one_grows s x more y e f p =
      let n : types_among more ≡ [] = cc in
      adds_then p (words_grow (moved s f) more n)

  -- a definition of a structure adds it when it ends
  struct_grows : (s : Scope) (at : ℕ) (x : Option Spelling) (from : ℕ) (all : Trees.MemberDeclarations) (to : ℕ) → s.file.untagged ≡ untagged
      → s.is_inside ≡ false → (m : List Field × FileScope) → Grows s (marks_of_members untagged all) (spoken_of_members all) [] m.1 → (z : CType × FileScope)
      → completed_in m.1 (tag_place at x) (member_names all) (record { tag = tag_text s at x; place = place_in s at; fields = m.0 }) ≡ Ok z
      → Grows s (marks_of_specifier untagged (Trees.struct_body at x from all to)) (spoken_of_members all) [] z.1
  struct_grows s at x from all to e i m p z h =
      let rec : Record = record { tag = tag_text s at x; place = place_in s at; fields = m.0 } in
      let c = completed_is m.1 (tag_place at x) (member_names all) rec z h in
      let r = adds_then p (record_adds m.1 rec (Marks.tag_name untagged at x) to s.is_inside (is_measured s.purpose) (makes_none s.purpose) i (tag_is x)) in
      subst (Grows s (marks_of_specifier untagged (Trees.struct_body at x from all to)) (spoken_of_members all) []) (sym c.file_is)
      (tag_adds (subst (λ y. Grows s (marks_of_members untagged all ++ an_end (Marks.tag_name untagged at x) to ∷ []) y [] (with_record m.1 rec))
      (append-nil (spoken_of_members all)) r))
    where
      tag_is : (x : Option Spelling) → tag_text s at x ≡ Marks.tag_name untagged at x
      tag_is None = ap (λ (names : ℕ → List ℕ). names at) e
      tag_is (Some x) = refl

  enumeration_grows : (s : Scope) (x : Option Spelling) (to : ℕ) (f : FileScope) (u : List Mark) (y : List ℕ) → Grows s u y [] f
      → Grows s (u ++ an_enumeration untagged x to) y [] f
  enumeration_grows s None to f u y p = subst (λ u. Grows s u y [] f) (sym (append-nil u)) p
  enumeration_grows s (Some x) to f u y p =
      subst (λ y. Grows s (u ++ an_enumeration untagged (Some x) to) y [] f) (append-nil y) (adds_then p (tag_adds (nothing (moved s f))))

  mutual
    unfolding find arguments type_name one_of specified members member_declarators enumerators enumerator_value derivations array_step parameter_list parameters

    pub grow : (a : Trees.Expression) (s : Scope) → s.file.untagged ≡ untagged → (z : Thing × FileScope) → find a s ≡ Ok z
        → Grows s (marks untagged a) (spoken a) (literals a) z.1
    grow (Trees.name x) s e z h = file_beside (Grows s [] [] []) s.file _ z h (nothing s)
    grow (Trees.number x v kind) s e z h = file_of (Grows s [] [] []) _ z h (nothing s)
    grow (Trees.character x v) s e z h = file_of (Grows s [] [] []) _ z h (nothing s)
    grow (Trees.texts all) s e z h = literal_grows s (first (Trees.texts all)) (literal_of all) z h
    grow (Trees.paren from a to) s e z h = grow a s e z h
    grow (Trees.index a from b to) s e z h =
        let x = bound_ok (find a s) _ z h in
        let v = grow a s e x.0 x.1 in
        index_grows s (marks untagged b) (spoken b) (literals b) (complete s (first a)) (first a) from (first a) x.0
        (λ f. value_at (first b) (find b (moved s f)))
        (marks untagged a) (spoken a) (literals a) v
        (λ i j. file_of_value (Grows (moved s x.0.1) (marks untagged b) (spoken b) (literals b)) (first b) (find b (moved s x.0.1)) i j
        (λ y k. grow b (moved s x.0.1) (v.untagged ∙ e) y k))
        (array_of x.0.0) z x.2
    grow (Trees.call f from all to) s e z h =
        let x = bound_ok (find f s) _ z h in
        let v = grow f s e x.0 x.1 in
        let t = bound_with x.0.1 (signature_in (first f) x.0.0) _ z x.2 in
        let xs = bound_ok (arguments to t.0.0 all (moved s x.0.1)) _ z t.2 in
        file_beside (Grows s (marks untagged f ++ marks_of_all untagged all) (spoken f ++ spoken_of_all all) (literals f ++ literals_of_all all))
        xs.0.1 _ z xs.2
        (adds_then v (grow_all all to t.0.0 (moved s x.0.1) (v.untagged ∙ e) xs.0 xs.1))
    grow (Trees.dot a at x) s e z h =
        let p = bound_ok (find a s) _ z h in
        file_beside (Grows s (marks untagged a) (spoken a) (literals a)) p.0.1 _ z p.2 (grow a s e p.0 p.1)
    grow (Trees.arrow a at x) s e z h =
        let p = bound_ok (value_at (first a) (find a s)) _ z h in
        file_beside (Grows s (marks untagged a) (spoken a) (literals a)) p.0.1 _ z p.2
        (file_of_value (Grows s (marks untagged a) (spoken a) (literals a)) (first a) (find a s) p.0 p.1 (λ y k. grow a s e y k))
    grow (Trees.post a op at) s e z h =
        let p = bound_ok (find a s) _ z h in
        file_beside (Grows s (marks untagged a) (spoken a) (literals a)) p.0.1 _ z p.2 (grow a s e p.0 p.1)
    grow (Trees.pre op at a) s e z h =
        let p = bound_ok (find a s) _ z h in
        file_beside (Grows s (marks untagged a) (spoken a) (literals a)) p.0.1 _ z p.2 (grow a s e p.0 p.1)
    grow (Trees.unary op at a) s e z h =
        file_of_unary (Grows s (marks untagged a) (spoken a) (literals a)) s op (complete s at) (first a) at (find a s) (λ x k. grow a s e x k) z h
    grow (Trees.sizeof_expression at a) s e z h =
        let x = bound_ok (find a (measured s)) _ z h in
        let v = measured_grows s (marks untagged a) (spoken a) (literals a) x.0.1 (grow a (measured s) e x.0 x.1) in
        let t = bound_with x.0.1 (measured_in x.0.1.records (complete s at) at (first a) x.0.0) _ z x.2 in
        file_of (Grows s (marks untagged a) (at ∷ []) []) _ z t.2 (mention_behind s Sizeof t.0 at v)
    grow (Trees.sizeof_type at from m to) s e z h =
        let x = bound_ok (type_name m s) _ z h in
        let t = bound_with x.0.1 (sized_type x.0.1.records (complete s to) at x.0.0) _ z x.2 in
        file_of (Grows s (marks_of_type untagged m) (at ∷ spoken_of_type m) []) _ z t.2 (mention_before s Sizeof t.0 at (grow_type m s e x.0 x.1))
    grow (Trees.cast from m to a) s e z h =
        let t = bound_ok (type_name m s) _ z h in
        let v = grow_type m s e t.0 t.1 in
        let x = bound_ok (value_at (first a) (find a (moved s t.0.1))) _ z t.2 in
        let w = file_of_value (Grows (moved s t.0.1) (marks untagged a) (spoken a) (literals a)) (first a) (find a (moved s t.0.1)) x.0 x.1
        (λ y k. grow a (moved s t.0.1) (v.untagged ∙ e) y k) in
        file_beside (Grows s (marks_of_type untagged m ++ marks untagged a) (spoken_of_type m ++ spoken a) (literals a)) x.0.1 _ z x.2 (adds_then v w)
    grow (Trees.binary a op at b) s e z h =
        let x = bound_ok (value_at (first a) (find a s)) _ z h in
        let v = file_of_value (Grows s (marks untagged a) (spoken a) (literals a)) (first a) (find a s) x.0 x.1 (λ y k. grow a s e y k) in
        let y = bound_ok (value_at (first b) (find b (moved s x.0.1))) _ z x.2 in
        let w = file_of_value (Grows (moved s x.0.1) (marks untagged b) (spoken b) (literals b)) (first b) (find b (moved s x.0.1)) y.0 y.1
        (λ y k. grow b (moved s x.0.1) (v.untagged ∙ e) y k) in
        file_beside (Grows s (marks untagged a ++ marks untagged b) (spoken a ++ spoken b) (literals a ++ literals b)) y.0.1 _ z y.2 (adds_then v w)
    grow (Trees.cond a question b colon c) s e z h =
        let x = bound_ok (tested_at question (value_at (first a) (find a s))) _ z h in
        let v = file_of_tested (Grows s (marks untagged a) (spoken a) (literals a)) question (value_at (first a) (find a s)) x.0 x.1
        (λ y k. file_of_value (Grows s (marks untagged a) (spoken a) (literals a)) (first a) (find a s) y k (λ y k. grow a s e y k)) in
        let y = bound_ok (value_at (first b) (find b (moved s x.0.1))) _ z x.2 in
        let w = file_of_value (Grows (moved s x.0.1) (marks untagged b) (spoken b) (literals b)) (first b) (find b (moved s x.0.1)) y.0 y.1
        (λ y k. grow b (moved s x.0.1) (v.untagged ∙ e) y k) in
        let u = bound_ok (value_at (first c) (find c (moved s y.0.1))) _ z y.2 in
        let t = file_of_value (Grows (moved s y.0.1) (marks untagged c) (spoken c) (literals c)) (first c) (find c (moved s y.0.1)) u.0 u.1
        (λ y' k. grow c (moved s y.0.1) (w.untagged ∙ v.untagged ∙ e) y' k) in
        file_beside (Grows s (marks untagged a ++ marks untagged b ++ marks untagged c) (spoken a ++ spoken b ++ spoken c)
        (literals a ++ literals b ++ literals c))
        u.0.1 _ z u.2 (adds_then (adds_then v w) t)
    grow (Trees.assign a op at b) s e z h =
        let p = bound_ok (find a s) _ z h in
        let v = grow a s e p.0 p.1 in
        let t = bound_with p.0.1 (target_in (first a) p.0.0) _ z p.2 in
        file_of_assigned (Grows s (marks untagged a ++ marks untagged b) (spoken a ++ spoken b) (literals a ++ literals b))
        (complete s (first a)) at (first b) (place_in s (first a)) t.0 p.0.1 (λ f. find b (moved s f))
        (λ y k. adds_then v (grow b (moved s p.0.1) (v.untagged ∙ e) y k)) (update_of op) z t.2
    grow (Trees.comma a at b) s e z h =
        let x = bound_ok (value_at (first a) (find a s)) _ z h in
        let v = file_of_value (Grows s (marks untagged a) (spoken a) (literals a)) (first a) (find a s) x.0 x.1 (λ y k. grow a s e y k) in
        let y = bound_ok (value_at (first b) (find b (moved s x.0.1))) _ z x.2 in
        let w = file_of_value (Grows (moved s x.0.1) (marks untagged b) (spoken b) (literals b)) (first b) (find b (moved s x.0.1)) y.0 y.1
        (λ y k. grow b (moved s x.0.1) (v.untagged ∙ e) y k) in
        file_beside (Grows s (marks untagged a ++ marks untagged b) (spoken a ++ spoken b) (literals a ++ literals b)) y.0.1 _ z y.2 (adds_then v w)
    grow (Trees.braces from all comma to) s e z h = cc

    pub grow_all : (all : Trees.Arguments) (to : ℕ) (types : CTypes) (s : Scope) → s.file.untagged ≡ untagged → (z : Typed.Expressions Noted × FileScope)
        → arguments to types all s ≡ Ok z → Grows s (marks_of_all untagged all) (spoken_of_all all) (literals_of_all all) z.1
    grow_all Trees.no_arguments to no_types s e z h = file_of (Grows s [] [] []) _ z h (nothing s)
    grow_all Trees.no_arguments to (and_type t more) s e z h = cc
    grow_all (Trees.and_argument comma a rest) to no_types s e z h = cc
    grow_all (Trees.and_argument comma a rest) to (and_type t more) s e z h =
        let x = bound_ok (value_at (first a) (find a s)) _ z h in
        let v = file_of_value (Grows s (marks untagged a) (spoken a) (literals a)) (first a) (find a s) x.0 x.1 (λ y k. grow a s e y k) in
        let y = bound_with x.0.1 (argument_in (first a) t x.0.0) _ z x.2 in
        let ys = bound_ok (arguments to more rest (moved s x.0.1)) _ z y.2 in
        file_of (Grows s (marks untagged a ++ marks_of_all untagged rest) (spoken a ++ spoken_of_all rest) (literals a ++ literals_of_all rest)) _ z ys.2
        (adds_then v (grow_all rest to more (moved s x.0.1) (v.untagged ∙ e) ys.0 ys.1))

    pub grow_type : (m : Trees.TypeName) (s : Scope) → s.file.untagged ≡ untagged → (z : CType × FileScope) → type_name m s ≡ Ok z
        → Grows s (marks_of_type untagged m) (spoken_of_type m) [] z.1
    grow_type (Trees.type_name specs d) s e z h =
        let at = first_specifiers specs in
        let b = bound_ok (without_storage at (storage_of specs) (base_type (base_kind specs) at s.file (one_of specs s))) _ z h in
        let k = no_storage_is at (storage_of specs) (base_type (base_kind specs) at s.file (one_of specs s)) b.0 b.1 in
        let v = base_grows s specs at (one_of specs s) (λ x i y j. grow_one specs s e x i y j) b.0 k.1 in
        let steps = bound_ok (derivations d (moved s b.0.1)) _ z b.2 in
        let w = grow_steps d (moved s b.0.1) (v.untagged ∙ e) steps.0 steps.1 in
        let t = bound_with steps.0.1 (type_of_derived (first_declarator d at) steps.0.1 steps.0.0 b.0.0) _ z steps.2 in
        file_of (Grows s (marks_of_type untagged (Trees.type_name specs d)) (spoken_of_type (Trees.type_name specs d)) []) _ z t.2
        (mention_between s Named t.0 (first_declarator d at) v w)

    grow_one : (specs : Trees.Specifiers) (s : Scope) → s.file.untagged ≡ untagged → (x : Trees.Specifier) → types_among specs ≡ x ∷ []
        → (z : CType × FileScope)
        → one_of specs s ≡ Ok z → GrowsBySpecifiers s specs z.1
    grow_one Trees.no_specifiers s e x i z h = cc
    grow_one (Trees.and_specifier (Trees.plain word at) more) s e x i z h = grow_one more s e x i z h
    grow_one (Trees.and_specifier (Trees.typename y) more) s e x i z h =
        one_grows s (Trees.typename y) more x i z.1 (grow_specifier (Trees.typename y) s e z h)
    grow_one (Trees.and_specifier (Trees.struct_named at y) more) s e x i z h =
        one_grows s (Trees.struct_named at y) more x i z.1 (grow_specifier (Trees.struct_named at y) s e z h)
    grow_one (Trees.and_specifier (Trees.struct_body at y from all to) more) s e x i z h =
        one_grows s (Trees.struct_body at y from all to) more x i z.1 (grow_specifier (Trees.struct_body at y from all to) s e z h)
    grow_one (Trees.and_specifier (Trees.enum_named at y) more) s e x i z h =
        one_grows s (Trees.enum_named at y) more x i z.1 (grow_specifier (Trees.enum_named at y) s e z h)
    grow_one (Trees.and_specifier (Trees.enum_body at y from all comma to) more) s e x i z h =
        one_grows s (Trees.enum_body at y from all comma to) more x i z.1 (grow_specifier (Trees.enum_body at y from all comma to) s e z h)

    pub grow_specifier : (x : Trees.Specifier) (s : Scope) → s.file.untagged ≡ untagged → (z : CType × FileScope) → specified x s ≡ Ok z
        → Grows s (marks_of_specifier untagged x) (spoken_of_specifier x) [] z.1
    grow_specifier (Trees.plain word at) s e z h = cc
    grow_specifier (Trees.typename x) s e z h = file_beside (Grows s [] [] []) s.file _ z h (nothing s)
    grow_specifier (Trees.struct_named at x) s e z h =
        file_beside (Grows s (marks_of_specifier untagged (Trees.struct_named at x)) [] []) s.file _ z h (tag_adds (nothing s))
    grow_specifier (Trees.struct_body at x from all to) s e z h =
        chosen s.is_inside _ _ z (Grows s (marks_of_specifier untagged (Trees.struct_body at x from all to)) (spoken_of_members all) [] z.1) h (λ i h. cc)
        (λ i h.
        let u = unless_ok _ _ z h in
        let m = bound_ok (members all s) _ z u.1 in
        struct_grows s at x from all to e i m.0 (grow_members all s e m.0 m.1) z m.2)
    grow_specifier (Trees.enum_named at x) s e z h = file_beside (Grows s [] [] []) s.file _ z h (nothing s)
    grow_specifier (Trees.enum_body at x from all comma to) s e z h =
        chosen s.is_inside _ _ z (Grows s (marks_of_specifier untagged (Trees.enum_body at x from all comma to)) (spoken_of_enumerators all) [] z.1) h
        (λ i h. cc)
        (λ i h.
        let f = bound_ok (enumerators all s 0 (after_all comma to)) _ z h in
        file_beside (Grows s (marks_of_specifier untagged (Trees.enum_body at x from all comma to)) (spoken_of_enumerators all) []) f.0.1 _ z f.2
        (enumeration_grows s x to f.0.1 (marks_of_enumerators untagged all (after_all comma to)) (spoken_of_enumerators all)
        (grow_enumerators all s 0 (after_all comma to) i e f.0 f.1)))

    pub grow_members : (all : Trees.MemberDeclarations) (s : Scope) → s.file.untagged ≡ untagged → (z : List Field × FileScope) → members all s ≡ Ok z
        → Grows s (marks_of_members untagged all) (spoken_of_members all) [] z.1
    grow_members Trees.no_member_declarations s e z h = file_of (Grows s [] [] []) _ z h (nothing s)
    grow_members (Trees.and_member_declaration specs ds semicolon more) s e z h =
        let at = first_specifiers specs in
        let b = bound_ok (without_storage at (storage_of specs) (base_type (base_kind specs) at s.file (one_of specs s))) _ z h in
        let k = no_storage_is at (storage_of specs) (base_type (base_kind specs) at s.file (one_of specs s)) b.0 b.1 in
        let v = base_grows s specs at (one_of specs s) (λ x i y j. grow_one specs s e x i y j) b.0 k.1 in
        let own = bound_ok (member_declarators ds b.0.0 semicolon (moved s b.0.1)) _ z b.2 in
        let w = grow_declarators ds b.0.0 semicolon (moved s b.0.1) (v.untagged ∙ e) own.0 own.1 in
        let rest = bound_ok (members more (moved s own.0.1)) _ z own.2 in
        let t = grow_members more (moved s own.0.1) (w.untagged ∙ v.untagged ∙ e) rest.0 rest.1 in
        file_of (Grows s (marks_of_members untagged (Trees.and_member_declaration specs ds semicolon more))
        (spoken_of_members (Trees.and_member_declaration specs ds semicolon more)) []) _ z rest.2 (adds_then (adds_then v w) t)

    pub grow_declarators : (all : Trees.MemberDeclarators) (base : CType) (semicolon : ℕ) (s : Scope) → s.file.untagged ≡ untagged → (z : List Field × FileScope)
        → member_declarators all base semicolon s ≡ Ok z → Grows s (marks_of_member_declarators untagged all) (spoken_of_fields all semicolon) [] z.1
    grow_declarators Trees.no_member_declarators base semicolon s e z h = file_of (Grows s [] [] []) _ z h (nothing s)
    grow_declarators (Trees.and_member_declarator comma d more) base semicolon s e z h =
        let at = first_declarator d semicolon in
        let steps = bound_ok (derivations d s) _ z h in
        let v = grow_steps d s e steps.0 steps.1 in
        let t = bound_with steps.0.1 (type_of_derived at steps.0.1 steps.0.0 base) _ z steps.2 in
        let o = bound_with steps.0.1 (object_at steps.0.1.records (complete s at) at t.0) _ z t.2 in
        let f = with_mention s (mentions_in s.file) Named o.0 at steps.0.1 in
        let p = mention_before s Named o.0 at v in
        member_grows (Grows s (marks_of_member_declarators untagged (Trees.and_member_declarator comma d more))
        (spoken_of_fields (Trees.and_member_declarator comma d more) semicolon) []) (place_in s at) o.0 (declared_name d)
        (member_declarators more base semicolon (moved s f))
        (λ rest k. adds_then p (grow_declarators more base semicolon (moved s f) (p.untagged ∙ e) rest k)) z o.2

    pub grow_enumerators : (all : Trees.Enumerators) (s : Scope) (next after : ℕ) → s.is_inside ≡ false → s.file.untagged ≡ untagged
        → (z : Unit {0} × FileScope)
        → enumerators all s next after ≡ Ok z → Grows s (marks_of_enumerators untagged all after) (spoken_of_enumerators all) [] z.1
    grow_enumerators Trees.no_enumerators s next after i e z h = file_of (Grows s [] [] []) _ z h (nothing s)
    grow_enumerators (Trees.and_enumerator comma x value more) s next after i e z h =
        let v = bound_ok (enumerator_value value s x.from next) _ z h in
        let w = grow_value value s x.from next e v.0 v.1 in
        let b = bound_of untagged x more after v.0.0 in
        let f = bound_ok (enumerator_in v.0.1 b) _ z v.2 in
        let n = subst (Grows (moved s v.0.1) (a_name (comma_or more after) ∷ []) [] []) (enumerator_is v.0.1 b f.0 f.1)
        (bound_adds v.0.1 b s.is_inside (is_measured s.purpose) (makes_none s.purpose) i (v.0.0, refl) (enumerator_consistent v.0.1 b f.0 f.1)) in
        adds_then w (adds_then n (grow_enumerators more (moved s f.0) ((v.0.0 + 1) % 2 ^ 32) after i (n.untagged ∙ w.untagged ∙ e) z f.2))

    pub grow_value : (value : Trees.EnumeratorValue) (s : Scope) (at next : ℕ) → s.file.untagged ≡ untagged → (z : ℕ × FileScope)
        → enumerator_value value s at next ≡ Ok z → Grows s (marks_of_value untagged value) (spoken_of_value value) [] z.1
    grow_value Trees.no_value s at next e z h = file_beside (Grows s [] [] []) s.file _ z h (nothing s)
    grow_value (Trees.valued equal a) s at next e z h =
        let c = bound_ok (constant_at (first a) (value_at (first a) (find a (for_value s)))) _ z h in
        file_beside (Grows s (marks untagged a) (spoken a) []) c.0.1 _ z c.2
        (constant_grows s (first a) (marks untagged a) (spoken a) (literals a) (find a (for_value s)) (λ y k. grow a (for_value s) e y k) c.0 c.1)

    pub grow_steps : (d : Trees.Declarator) (s : Scope) → s.file.untagged ≡ untagged → (z : List Derivation × FileScope) → derivations d s ≡ Ok z
        → Grows s (marks_of_declarator untagged d) (spoken_of_declarator d) [] z.1
    grow_steps Trees.nothing s e z h = file_of (Grows s [] [] []) _ z h (nothing s)
    grow_steps (Trees.named x) s e z h = file_of (Grows s [] [] []) _ z h (nothing s)
    grow_steps (Trees.pointer at consts d) s e z h =
        let steps = bound_ok (derivations d s) _ z h in
        file_of (Grows s (marks_of_declarator untagged d) (spoken_of_declarator d) []) _ z steps.2 (grow_steps d s e steps.0 steps.1)
    grow_steps (Trees.enclosed from d to) s e z h = grow_steps d s e z h
    grow_steps (Trees.array d from Trees.no_expression to) s e z h =
        let steps = bound_ok (derivations d s) _ z h in
        file_of (Grows s (marks_of_declarator untagged d ++ []) (spoken_of_declarator d ++ []) []) _ z steps.2
        (adds_then (grow_steps d s e steps.0 steps.1) (nothing (moved s steps.0.1)))
    grow_steps (Trees.array d from (Trees.some_expression a) to) s e z h =
        let steps = bound_ok (derivations d s) _ z h in
        let v = grow_steps d s e steps.0 steps.1 in
        let c = bound_ok (constant_at (first a) (value_at (first a) (find a (for_value (moved s steps.0.1))))) _ z steps.2 in
        let w = constant_grows (moved s steps.0.1) (first a) (marks untagged a) (spoken a) (literals a) (find a (for_value (moved s steps.0.1)))
        (λ y k. grow a (for_value (moved s steps.0.1)) (v.untagged ∙ e) y k) c.0 c.1 in
        let l = bound_with c.0.1 (length_value (first a) c.0.0) _ z c.2 in
        file_of (Grows s (marks_of_declarator untagged d ++ marks untagged a) (spoken_of_declarator d ++ spoken a) []) _ z l.2 (adds_then v w)
    grow_steps (Trees.function d from all to) s e z h =
        let steps = bound_ok (derivations d s) _ z h in
        let v = grow_steps d s e steps.0 steps.1 in
        let types = bound_ok (parameter_list all (inside (moved s steps.0.1))) _ z steps.2 in
        let w : Grows (moved s steps.0.1) [] (spoken_of_list all) [] types.0.1 =
        as_inside {u = []} refl (grow_list all (inside (moved s steps.0.1)) refl (v.untagged ∙ e) types.0 types.1) in
        file_of (Grows s (marks_of_declarator untagged d) (spoken_of_declarator d ++ spoken_of_list all) []) _ z types.2
        (subst (λ u. Grows s u (spoken_of_declarator d ++ spoken_of_list all) [] types.0.1) (append-nil (marks_of_declarator untagged d)) (adds_then v w))

    pub grow_list : (all : Trees.ParameterList) (s : Scope) → s.is_inside ≡ true → s.file.untagged ≡ untagged → (z : CTypes × FileScope)
        → parameter_list all s ≡ Ok z → Grows s [] (spoken_of_list all) [] z.1
    grow_list (Trees.void_alone at) s i e z h = file_of (Grows s [] [] []) _ z h (nothing s)
    grow_list (Trees.listed all) s i e z h = grow_parameters all s i e z h

    pub grow_parameters : (all : Trees.Parameters) (s : Scope) → s.is_inside ≡ true → s.file.untagged ≡ untagged → (z : CTypes × FileScope)
        → parameters all s ≡ Ok z → Grows s [] (spoken_of_parameters all) [] z.1
    grow_parameters Trees.no_parameters s i e z h = file_of (Grows s [] [] []) _ z h (nothing s)
    grow_parameters (Trees.and_parameter comma specs d more) s i e z h =
        let at = first_specifiers specs in
        let place = first_declarator d at in
        let b = bound_ok (parameter_storage at (storage_of specs) (base_type (base_kind specs) at s.file (one_of specs s))) _ z h in
        let q = parameter_storage_is at (storage_of specs) (base_type (base_kind specs) at s.file (one_of specs s)) b.0 b.1 in
        let v = base_grows s specs at (one_of specs s) (λ x i y j. grow_one specs s e x i y j) b.0 q.1 in
        let steps = bound_ok (derivations d (moved s b.0.1)) _ z b.2 in
        let w = grow_steps d (moved s b.0.1) (v.untagged ∙ e) steps.0 steps.1 in
        let shape = bound_with steps.0.1 (derived steps.0.1.records steps.0.0 b.0.0) _ z steps.2 in
        let t = new_bound s (declared_name d) steps.0.1 (scalar_parameter place (parameter_type shape.0)) _ z shape.2 in
        let f = with_mention s (mentions_in b.0.1) Named t.1.0 place steps.0.1 in
        let p : Grows s [] (spoken_of_specifiers specs ++ place ∷ spoken_of_declarator d) [] f = as_inside i (mention_between s Named t.1.0 place v w) in
        let scope = with_parameter_if_named (moved s f) (declared_name d) t.1.0 in
        let rest = bound_ok (parameters more scope) _ z t.1.2 in
        let o = grow_parameters more scope (parameter_inside (moved s f) (declared_name d) t.1.0 i)
        (parameter_untagged (moved s f) (declared_name d) t.1.0 ∙ p.untagged ∙ e) rest.0 rest.1 in
        file_of (Grows s [] (spoken_of_parameters (Trees.and_parameter comma specs d more)) []) _ z rest.2
        (adds_then p (parameter_grows (moved s f) (declared_name d) t.1.0 (spoken_of_parameters more) rest.0.1 o))

  -- ---- what stands outside of expressions asks for

  pub grow_value_of : (a : Trees.Expression) (s : Scope) → s.file.untagged ≡ untagged → (at : ℕ) (z : Expression × FileScope) → value_at at (find a s) ≡ Ok z
      → Grows s (marks untagged a) (spoken a) (literals a) z.1
  grow_value_of a s e at z h = file_of_value (Grows s (marks untagged a) (spoken a) (literals a)) at (find a s) z h (λ y k. grow a s e y k)

  pub grow_constant : (a : Trees.Expression) (s : Scope) → s.file.untagged ≡ untagged → (z : (IntKind × ℕ) × FileScope)
      → constant_at (first a) (value_at (first a) (find a (for_value s))) ≡ Ok z → Grows s (marks untagged a) (spoken a) [] z.1
  grow_constant a s e z h =
      constant_grows s (first a) (marks untagged a) (spoken a) (literals a) (find a (for_value s)) (λ y k. grow a (for_value s) e y k) z h

  pub grow_base : (specs : Trees.Specifiers) (s : Scope) → s.file.untagged ≡ untagged → (at : ℕ) (z : CType × FileScope)
      → base_type (base_kind specs) at s.file (one_of specs s) ≡ Ok z → Grows s (marks_of_specifiers untagged specs) (spoken_of_specifiers specs) [] z.1
  grow_base specs s e at z h = base_grows s specs at (one_of specs s) (λ x i y k. grow_one specs s e x i y k) z h
