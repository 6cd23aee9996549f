-- The program of covered units is covered: what a unit says of a record refuses it under its number in the program (C99 6.2.2).
use Rattle.std.proofs.Common.{◌≡◌, ◌∙◌, ℕ, zero, suc, ◌+◌, ◌<◌, Bool, true, false, refl, sym, ap, subst, List, [], ◌∷◌, ◌++◌, length, map, flat_map, inl, inr}
use Rattle.std.proofs.Common.{add-one, arith, cond}
use Rattle.std.proofs.lemmas.Bool.{ltb-true}
use Rattle.std.proofs.lemmas.List.{map-append}
use Rattle.std.proofs.lemmas.List.Elements.{recursion_from_All, All-from_recursion}
use Rattle.std.proofs.lemmas.Option.{unwrap_or-slice_get, slice_get-get_or, slice_get_within}
use Rattle.std.specs.Prelude.{◌⊎◌, All, Option, IfSome, Some, None, IsTrue, get_or, slice_get}
use Rattle.std.specs.List.{AllByRecursion}
use Rattle.std.specs.Option.{option_map}
use Rattle.lay_base.specs.declared.place.File.{File}
use Rattle.c_types.specs.Limits.{AreComplete}
use Rattle.c_types.specs.Objects.{is_object}
use Rattle.c_types.specs.Sameness.{same_type}
use Rattle.c_types.specs.Types.{CType, CTypes, void, integer, pointer, array, function, structure, no_types, and_type, Field, Record, field_types}
use Rattle.c_types.proofs.SameTypes.{same_is}
use Rattle.c_typed.specs.declared.program.Initial.{Initial}
use Rattle.c_typed.specs.declared.program.InitialValue.{InitialValue}
use Rattle.c_typed.specs.declared.program.InitialValue.TheVariants as V
use Rattle.c_typed.specs.declared.program.Local.{Local}
use Rattle.c_typed.specs.declared.program.Mention.{Mention}
use Rattle.c_typed.specs.declared.program.MentionKind.{MentionKind}
use Rattle.c_typed.specs.declared.program.MentionKind.TheVariants as M
use Rattle.c_typed.specs.declared.program.Object.{Object}
use Rattle.c_typed.specs.Mapped.{Renaming, mapped_statement}
use Rattle.c_typed.specs.Programs.{FunctionData, UnitData, ProgramData}
use Rattle.c_typed.specs.Trees as Typed
use Rattle.c_typed.specs.TypeNumbers.{type_at}
use Rattle.c_typed.specs.Walk.{types_in_statement}
use Rattle.c_erasure.specs.Units.{number_in}
use Rattle.c_numbers.specs.NewNumbers.Parts.{function_in, initial_in, local_in, mention_in, object_in, value_in}
use Rattle.c_numbers.specs.TypeNumbers.Renumbered.{renumbered, all_renumbered}
use Rattle.c_link.specs.Joining.{joined, all_tags, structure_in, type_in, types_in, types, tables, renaming, mentions_of, numbered_from, records}
use Rattle.c_link.specs.Joining.{objects, functions, object_identities, function_identities, is_object_defined, is_function_defined}
use Rattle.c_link.specs.Gaps.{HasNone, IsTagClash}
use Rattle.c_link.specs.Programs.{IsProgramOf}
use Rattle.c_link.proofs.JoinedRecords.{IsAmong, among_at, among_flat, among_map, stand_among}
use Rattle.legality.specs.Covered.{IsRefused, AreRefused, AreArraysRefused, AreValuesRefused, IsCoveredInitial, IsCoveredObject, IsCoveredFunction}
use Rattle.legality.specs.Covered.{IsCoveredRecord, IsCovered}
use Rattle.legality.specs.InTypes.{arrays_in, arrays_in_all, itself, pointed}
use Rattle.c_well_typed.specs.Laws.{UnitsHaveTypedFunctions}
use Rattle.c_well_typed.proofs.GapPlaces.Everywhere.{each_of}
use Rattle.c_well_typed.proofs.JoinedFunctions.{each_is, is_each}
use Rattle.c_well_typed.proofs.LookedUp.{of_unit as found_unit, unit_among}
use Rattle.c_well_typed.proofs.Numbers as Numbers
use Rattle.c_well_typed.proofs.Programs.{each_unit}
use Rattle.c_well_typed.proofs.TypesMapped.{types_of_statement}
use Rattle.c_undefined_places.proofs.CoveredBreaches.{mention_refuses, arrays_refused, itself_refused}
use Rattle.c_undefined_places.proofs.CoveredUnits.{values_in, accused_by, IsAccused, said_by, AccusedIn, ArraysAccusedIn, ValuesAccusedIn, InitialAccusedIn}
use Rattle.c_undefined_places.proofs.CoveredUnits.{ObjectAccusedIn, FunctionAccusedIn, IsCoveredUnit}
use Rattle.c_undefined_places.proofs.PlacesOfUnits.{each_place}

-- ---- lists

-- the number under which something stands
number_of : {A : Type 0} (all : List A) (x : A) → IsAmong x all → (n : ℕ) × (slice_get all n ≡ Some x)
number_of {A} all x i =
    is_each (λ (x : A). (n : ℕ) × (slice_get all n ≡ Some x)) all (each_place (λ (x : A). (n : ℕ) × (slice_get all n ≡ Some x)) all (λ n x e. (n, e))) x i

-- what something among others was made of
made_of : {A B : Type 0} (f : A → B) (all : List A) (y : B) → IsAmong y (map f all) → (x : A) × IsAmong x all × (y ≡ f x)
made_of {A} {B} f all y i =
    let R : B → Type 0 = λ y. (x : A) × IsAmong x all × (y ≡ f x) in
    is_each R (map f all) (each_of R (λ (x : A). IsAmong x all) f all (λ x j. (x, j, refl)) (each_is (λ (x : A). IsAmong x all) all (λ x j. j))) y i

among_numbers : (all : List CType) (t : CType) → IsAmong t all → Numbers.IsAmong t all
among_numbers all t i = is_each (λ (t : CType). Numbers.IsAmong t all) all (Numbers.all_among (λ (t : CType). Numbers.IsAmong t all) all (λ t j. j)) t i

-- ---- types by their numbers

at_or_void : (all : List CType) (i : ℕ) → IsAmong (type_at all i) all ⊎ (type_at all i ≡ void)
at_or_void [] i = inr refl
at_or_void (t ∷ all) zero = inl (inl refl)
at_or_void (t ∷ all) (suc i) = elim (at_or_void all i) [ inl k ↦ inl (inr k) | inr e ↦ inr e ]

-- where `void` is not among them, its number is past their end
void_numbered : (all : List CType) → type_at all (number_in all void) ≡ void
void_numbered [] = refl
void_numbered (s ∷ all) = by_test (same_type s void) refl (void_numbered all)
  where
    by_test : (b : Bool) → same_type s void ≡ b → type_at all (number_in all void) ≡ void → type_at (s ∷ all) (cond b 0 (number_in all void + 1)) ≡ void
    by_test true e later = same_is s void e
    by_test false e later = ap (λ n. type_at (s ∷ all) n) (add-one (number_in all void)) ∙ later

-- ---- the records in a type, with other numbers

module _ (number : ℕ → ℕ) where
  itself_again : (t : CType) → itself (renumbered number t) ≡ map number (itself t)
  itself_again void = refl
  itself_again (integer kind) = refl
  itself_again (pointer t) = refl
  itself_again (array t n) = refl
  itself_again (function t all) = refl
  itself_again (structure r) = refl

  pointed_again : (t : CType) → pointed (renumbered number t) ≡ map number (pointed t)
  pointed_again void = refl
  pointed_again (integer kind) = refl
  pointed_again (pointer t) = itself_again t
  pointed_again (array t n) = refl
  pointed_again (function t all) = refl
  pointed_again (structure r) = refl

  both_again : (a b c d : List ℕ) → c ≡ map number a → d ≡ map number b → c ++ d ≡ map number (a ++ b)
  both_again a b c d e h = rw (e, h) (sym (map-append number a b))

  mutual
    arrays_again : (t : CType) → arrays_in (renumbered number t) ≡ map number (arrays_in t)
    arrays_again void = refl
    arrays_again (integer kind) = refl
    arrays_again (pointer t) = arrays_again t
    arrays_again (array t n) = both_again (itself t) (arrays_in t) _ _ (itself_again t) (arrays_again t)
    arrays_again (function t all) = both_again (arrays_in t) (arrays_in_all all) _ _ (arrays_again t) (all_arrays_again all)
    arrays_again (structure r) = refl

    all_arrays_again : (all : CTypes) → arrays_in_all (all_renumbered number all) ≡ map number (arrays_in_all all)
    all_arrays_again no_types = refl
    all_arrays_again (and_type t more) = both_again (arrays_in t) (arrays_in_all more) _ _ (arrays_again t) (all_arrays_again more)

  values_again : (t : CType) → values_in (renumbered number t) ≡ map number (values_in t)
  values_again t = both_again (itself t) (arrays_in t) _ _ (itself_again t) (arrays_again t)

  accused_again : (kind : MentionKind) (t : CType) → accused_by kind (renumbered number t) ≡ map number (accused_by kind t)
  accused_again M.Object t = values_again t
  accused_again M.Named t = arrays_again t
  accused_again M.Sizeof t = refl
  accused_again M.Used t = refl
  accused_again M.From t = refl
  accused_again M.To t = pointed_again t
  accused_again M.Field t = refl

-- a record in a type is the type, or arrays of it stand there
parted : (t : CType) (r : ℕ) → IsAmong r (values_in t) → (t ≡ structure r) ⊎ IsAmong r (arrays_in t)
parted void r i = absurd i
parted (integer kind) r i = absurd i
parted (pointer t) r i = inr i
parted (array t n) r i = inr i
parted (function t all) r i = inr i
parted (structure s) r (inl e) = inl (ap structure (sym e))
parted (structure s) r (inr i) = absurd i

module _ (units : List UnitData) (tags : HasNone (IsTagClash units)) (complete : (u : UnitData) → IsAmong u units → AreComplete u.records) where
  abbrev P : ProgramData
  P = joined units

  -- ---- what a unit says is said in the program

  module _ (k : ℕ) (u : UnitData) (h : IsAmong (k, u) (numbered_from 0 units)) where
    abbrev N : Renaming ℕ ℕ
    N = renaming (tables units) k u

    abbrev S : ℕ → ℕ
    S = structure_in (all_tags units) u

    there : IsAmong u units
    there = unit_among 0 units (k, u) h

    type_again : (i : ℕ) → type_at P.types (N.ty i) ≡ renumbered S (type_at u.types i)
    type_again i =
        subst (λ t. type_at (types units) (number_in (types units) (type_in (all_tags units) u t)) ≡ renumbered S (type_at u.types i))
        (unwrap_or-slice_get u.types i void) (by_place (type_at u.types i) (at_or_void u.types i))
      where
        by_place : (t : CType) → IsAmong t u.types ⊎ (t ≡ void) → type_at (types units) (number_in (types units) (renumbered S t)) ≡ renumbered S t
        by_place t (inl i) =
            let all = flat_map (types_in (all_tags units)) units in
            let one = among_flat (types_in (all_tags units)) u units (renumbered S t) there (among_map (type_in (all_tags units) u) t u.types i) in
            (Numbers.numbered (types units) (renumbered S t) (Numbers.taken_up all (renumbered S t) (among_numbers all (renumbered S t) one))).1
        by_place t (inr e) =
            subst (λ t. type_at (types units) (number_in (types units) (renumbered S t)) ≡ renumbered S t) (sym e) (void_numbered (types units))

    by_mention : (m : Mention) → IsAmong m u.mentions → (r : ℕ) → IsAmong r (accused_by m.kind (type_at u.types m.ty)) → IsRefused P (S r)
    by_mention m i r j =
        let own = among_flat (λ (u : ℕ × UnitData). mentions_of (tables units) u.0 u.1) (k, u) (numbered_from 0 units) (mention_in N m) h
        (among_map (mention_in N) m u.mentions i) in
        mention_refuses P (mention_in N m) own (S r)
        (subst (λ t. IsAmong (S r) (accused_by m.kind t)) (sym (type_again m.ty))
        (subst (IsAmong (S r)) (sym (accused_again S m.kind (type_at u.types m.ty))) (among_map S r (accused_by m.kind (type_at u.types m.ty)) j)))

    by_field : (owner : Record) (f : Field) → IsAmong owner u.records → IsAmong f owner.fields → (r : ℕ) → IsAmong r (values_in f.ty) → IsRefused P (S r)
    by_field owner f i j r v = by_part (parted f.ty r v)
      where
        n : (n : ℕ) × (slice_get u.records n ≡ Some owner)
        n = number_of u.records owner i

        -- the record of the program under its new number, and its field
        other : (q : Record) × (slice_get (records units) (S n.0) ≡ Some q) × (field_types q ≡ map (renumbered S) (field_types owner))
        other = stand_among units tags u there n.0 owner n.1

        field : (g : Field) × IsAmong g other.0.fields × (renumbered S f.ty ≡ g.ty)
        field =
            made_of (λ (g : Field). g.ty) other.0.fields (renumbered S f.ty)
            (subst (IsAmong (renumbered S f.ty)) (sym other.2)
            (among_map (renumbered S) f.ty (field_types owner) (among_map (λ (f : Field). f.ty) f owner.fields j)))

        -- the record that a field is stands before the one that has the field (6.7.2.1)
        is_known : f.ty ≡ structure r → S r < length (records units)
        is_known e =
            let objects = recursion_from_All (λ t. IsTrue (is_object n.0 t)) (field_types owner) (complete u there n.0 owner n.1) in
            let object = is_each (λ t. IsTrue (is_object n.0 t)) (field_types owner) objects f.ty (among_map (λ (f : Field). f.ty) f owner.fields j) in
            let before : r < n.0 = ltb-true r n.0 (subst (λ t. IsTrue (is_object n.0 t)) e object) in
            let within : n.0 < length u.records = slice_get_within u.records n.0 owner n.1 in
            let low : r < length u.records = omega (arith, before, within) in
            let one = stand_among units tags u there r (get_or u.records r owner) (slice_get-get_or u.records r owner low) in
            slice_get_within (records units) (S r) one.0 one.1

        by_part : (f.ty ≡ structure r) ⊎ IsAmong r (arrays_in f.ty) → IsRefused P (S r)
        by_part (inl e) = itself_refused P (S n.0) other.0 other.1 field.0 field.1 (S r) (sym field.2 ∙ ap (renumbered S) e) (is_known e)
        by_part (inr v) =
            arrays_refused P (S n.0) other.0 other.1 field.0 field.1 (S r)
            (subst (λ t. IsAmong (S r) (arrays_in t)) field.2
            (subst (IsAmong (S r)) (sym (arrays_again S f.ty)) (among_map S r (arrays_in f.ty) v)))

    refused_again : (r : ℕ) → IsAccused u.records (said_by u) r → IsRefused P (S r)
    refused_again r (inl (s, i, j)) =
        let z = made_of (λ (m : Mention). (m.kind, type_at u.types m.ty)) u.mentions s i in
        by_mention z.0 z.1 r (subst (λ (s : MentionKind × CType). IsAmong r (accused_by s.0 s.1)) z.2 j)
    refused_again r (inr (owner, f, i, j, v)) = by_field owner f i j r v

    all_again : (numbers others : List ℕ) → others ≡ map S numbers → AccusedIn u numbers → AreRefused P others
    all_again numbers others e w =
        subst (AreRefused P) (sym e)
        (All-from_recursion (IsRefused P) (map S numbers) (each_of (IsRefused P) (IsAccused u.records (said_by u)) S numbers refused_again w))

    arrays_of : (i : ℕ) → ArraysAccusedIn u i → AreArraysRefused P (N.ty i)
    arrays_of i w =
        all_again (arrays_in (type_at u.types i)) (arrays_in (type_at P.types (N.ty i)))
        (ap arrays_in (type_again i) ∙ arrays_again S (type_at u.types i)) w

    values_of : (i : ℕ) → ValuesAccusedIn u i → AreValuesRefused P (N.ty i)
    values_of i w =
        all_again (values_in (type_at u.types i)) (values_in (type_at P.types (N.ty i)))
        (ap values_in (type_again i) ∙ values_again S (type_at u.types i)) w

    -- ---- objects and functions

    initial_again : (v : InitialValue) → InitialAccusedIn u v → IsCoveredInitial P (value_in N v)
    initial_again (V.Number kind v) w = tt
    initial_again (V.Address i n offset) w =
        all_again (pointed (type_at u.types i)) (pointed (type_at P.types (N.ty i)))
        (ap pointed (type_again i) ∙ pointed_again S (type_at u.types i)) w
    initial_again (V.Function i n) w = tt

    abbrev AreCoveredInitials : List Initial → Type 0
    AreCoveredInitials all = All (λ i. IsCoveredInitial P i.value) all

    initials_again : (all : Option (List Initial)) → IfSome all (AllByRecursion (λ i. InitialAccusedIn u i.value))
        → IfSome (option_map (map (initial_in N)) all) AreCoveredInitials
    initials_again None w = tt
    initials_again (Some all) w =
        All-from_recursion (λ (i : Initial). IsCoveredInitial P i.value) (map (initial_in N) all)
        (each_of (λ (i : Initial). IsCoveredInitial P i.value) (λ (i : Initial). InitialAccusedIn u i.value) (initial_in N) all (λ i. initial_again i.value) w)

    object_again : (o : Object) → ObjectAccusedIn u o → IsCoveredObject P (object_in N o)
    object_again o w = (values_of o.ty w.0, initials_again o.initial w.1)

    body_again : (body : Option (Typed.Statement ℕ)) → IfSome body (λ body. AllByRecursion (ArraysAccusedIn u) (types_in_statement body))
        → IfSome (option_map (mapped_statement N) body) (λ body. All (AreArraysRefused P) (types_in_statement body))
    body_again None w = tt
    body_again (Some body) w =
        subst (All (AreArraysRefused P)) (sym (types_of_statement N body))
        (All-from_recursion (AreArraysRefused P) (map N.ty (types_in_statement body))
        (each_of (AreArraysRefused P) (ArraysAccusedIn u) N.ty (types_in_statement body) arrays_of w))

    function_again : (g : FunctionData) → FunctionAccusedIn u g → IsCoveredFunction P (function_in N g)
    function_again g w = (
      arrays_of g.ty w.0,
      subst (All (λ (l : Local). AreValuesRefused P l.ty)) (map-append (local_in N) g.parameters g.locals)
          (All-from_recursion (λ (l : Local). AreValuesRefused P l.ty) (map (local_in N) (g.parameters ++ g.locals))
          (each_of (λ (l : Local). AreValuesRefused P l.ty) (λ (l : Local). ValuesAccusedIn u l.ty) (local_in N) (g.parameters ++ g.locals)
          (λ l. values_of l.ty) w.1)),
      body_again g.body w.2,
    )

  -- ---- all of a program

  module _ (covered : AllByRecursion IsCoveredUnit units) where
    object_covered : (o : Object) → IsAmong o (objects units) → IsCoveredObject P o
    object_covered o i =
        let z = found_unit (λ (o : Object). o.linked) (λ (o : Object). o.name) (λ (u : UnitData). u.objects) is_object_defined
        (λ k u o. object_in (renaming (tables units) k u) o) object_identities (λ k n. refl) (λ k n x more. refl) units o i in
        let u = z.1 in
        let own = is_each IsCoveredUnit units covered u (unit_among 0 units (z.0, u) z.2) in
        subst (IsCoveredObject P) (sym z.6)
        (object_again z.0 u z.2 z.4 (is_each (ObjectAccusedIn u) u.objects own.objects z.4 (among_at u.objects z.3 z.4 z.5)))

    function_covered : (g : FunctionData) → IsAmong g (functions units) → IsCoveredFunction P g
    function_covered g i =
        let z = found_unit (λ (g : FunctionData). g.is_linked) (λ (g : FunctionData). g.name) (λ (u : UnitData). u.functions) is_function_defined
        (λ k u g. function_in (renaming (tables units) k u) g) function_identities (λ k n. refl) (λ k n x more. refl) units g i in
        let u = z.1 in
        let own = is_each IsCoveredUnit units covered u (unit_among 0 units (z.0, u) z.2) in
        subst (IsCoveredFunction P) (sym z.6)
        (function_again z.0 u z.2 z.4 (is_each (FunctionAccusedIn u) u.functions own.functions z.4 (among_at u.functions z.3 z.4 z.5)))

    field_covered : (r : Record) → IsAmong r (records units) → (f : Field) → IsAmong f r.fields → AreRefused P (arrays_in f.ty)
    field_covered r i f j =
        let n = number_of (records units) r i in
        All-from_recursion (IsRefused P) (arrays_in f.ty) (each_is (IsRefused P) (arrays_in f.ty) (arrays_refused P n.0 r n.1 f j))

    record_covered : (r : Record) → IsAmong r (records units) → IsCoveredRecord P r
    record_covered r i =
        All-from_recursion (λ (f : Field). AreRefused P (arrays_in f.ty)) r.fields
        (each_is (λ (f : Field). AreRefused P (arrays_in f.ty)) r.fields (field_covered r i))

    joined_covered : IsCovered P
    joined_covered = record {
      objects = All-from_recursion (IsCoveredObject P) (objects units) (each_is (IsCoveredObject P) (objects units) object_covered);
      functions = All-from_recursion (IsCoveredFunction P) (functions units) (each_is (IsCoveredFunction P) (functions units) function_covered);
      records = All-from_recursion (IsCoveredRecord P) (records units) (each_is (IsCoveredRecord P) (records units) record_covered);
    }

pub programs_covered : UnitsHaveTypedFunctions → (files : List File) (p : ProgramData) → (h : IsProgramOf files p)
    → AllByRecursion IsCoveredUnit h.units → IsCovered p
programs_covered law files p h covered =
    let complete = each_unit (λ (u : UnitData). AreComplete u.records)
    (λ number file u own. (law number file.name file.bytes own.items u own.tree own.erases).0.records) 0 files h.units h.of_files in
    subst IsCovered (sym h.program.joined_units) (joined_covered h.units h.program.agree.tags complete covered)
