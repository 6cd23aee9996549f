-- The types of a program are such that declarators make them, and its records have members, where it is so in its units (C99 6.7.2.1, 6.7.5).
use Rattle.std.proofs.Common.{◌≡◌, ◌≢◌, ◌∙◌, ℕ, Bool, true, false, refl, sym, ap, subst, cond, List, [], ◌∷◌, length, map, flat_map, inl, inr}
use Rattle.std.proofs.lemmas.List.Elements.{recursion_from_All, All-from_recursion}
use Rattle.std.specs.Prelude.{◌⊎◌, All}
use Rattle.std.specs.List.{AllByRecursion}
use Rattle.std.specs.Str.{bytes_eq}
use Rattle.c_types.specs.Limits.{AreComplete}
use Rattle.c_types.specs.Types.{CType, CTypes, void, integer, pointer, array, function, structure, no_types, and_type, Field, Record}
use Rattle.c_numbers.specs.TypeNumbers.Renumbered.{renumbered, all_renumbered, field_in, record_in}
use Rattle.c_typed.specs.Conversions.{is_scalar}
use Rattle.c_typed.specs.Programs.{UnitData, ProgramData}
use Rattle.c_link.specs.Joining.{joined, all_tags, complete_tags, structure_in, type_in, types_in, records, records_in, all_records_in, with_tag}
use Rattle.c_link.specs.Gaps.{Agree}
use Rattle.c_link.proofs.JoinedRecords as Joined
use Rattle.c_link.proofs.JoinedRecords.{stand_among}
use Rattle.c_link.proofs.Layouts.{lies_alike}
use Rattle.c_well_typed.specs.WellTyped.{of_unit, IsResult, HaveTypedFunctions}
use Rattle.c_well_typed.proofs.JoinedFunctions.{each_is, is_each, T}
use Rattle.c_well_typed.proofs.LookedUp.{flat_among}
use Rattle.c_well_typed.proofs.Numbers.{IsAmong, all_among, of_all}
use Rattle.c_well_typed.proofs.RenumberedTypes.{scalar_same}
use Rattle.c_well_typed.proofs.WellMade.{IsWellMade, AreWellMade}
use Rattle.c_well_typed.specs.Printable.Declarable.{IsDeclarable, AreParameters}
use Rattle.c_well_typed.specs.Printable.Programs.{IsPrintableRecord}

-- a structure with a member, whose members have such types
abbrev pub IsMadeRecord : ℕ → Record → Type 0
IsMadeRecord count r = (r.fields ≢ []) × AllByRecursion (λ (x : Field). IsWellMade count x.ty) r.fields

pub record HasMadeTypes (u : UnitData) : Type 0 where
  pub types : All (IsWellMade (length u.records)) u.types
  pub records : AllByRecursion (IsMadeRecord (length u.records)) u.records

turned_back : {A : Type 0} (x : A) (xs : List A) → IsAmong x xs → Joined.IsAmong x xs
turned_back x [] i = i
turned_back x (y ∷ xs) (inl e) = inl e
turned_back x (y ∷ xs) (inr i) = inr (turned_back x xs i)

among_mapped : {A B : Type 0} (v : A → B) (all : List A) (y : B) → Joined.IsAmong y (map v all) → (x : A) × Joined.IsAmong x all × (y ≡ v x)
among_mapped v [] y i = absurd i
among_mapped v (x ∷ all) y (inl e) = (x, inl refl, e)
among_mapped v (x ∷ all) y (inr i) = let r = among_mapped v all y i in (r.0, inr r.1, r.2)

among_tagged : (tag : List ℕ) (all : List Record) (r : Record) → Joined.IsAmong r (with_tag tag all) → Joined.IsAmong r all
among_tagged tag [] r i = i
among_tagged tag (x ∷ all) r i = by_test (bytes_eq tag x.tag) i (among_tagged tag all r)
  where
    by_test : (b : Bool) → Joined.IsAmong r (cond b (x ∷ []) (with_tag tag all)) → (Joined.IsAmong r (with_tag tag all) → Joined.IsAmong r all)
        → Joined.IsAmong r (x ∷ all)
    by_test true (inl e) again = inl e
    by_test true (inr i) again = absurd i
    by_test false i again = inr (again i)

module _ (units : List UnitData) (agree : Agree units) (complete : AreComplete (records units))
    (each : (u : UnitData) → Joined.IsAmong u units → HaveTypedFunctions (of_unit u)) (made : (u : UnitData) → Joined.IsAmong u units → HasMadeTypes u) where
  abbrev P : ProgramData
  P = joined units

  module _ (u : UnitData) (h : Joined.IsAmong u units) where
    abbrev S : ℕ → ℕ
    S = structure_in (all_tags units) u

    result_again : (t : CType) → IsResult t → (is_scalar (renumbered S t) ≡ true) ⊎ (renumbered S t ≡ void)
    result_again t (inl e) = inl (scalar_same S t ∙ e)
    result_again t (inr e) = inr (ap (renumbered S) e)

    mutual
      type_again : (t : CType) → IsWellMade (length u.records) t → IsDeclarable (length (records units)) (renumbered S t)
      type_again void w = tt
      type_again (integer kind) w = tt
      type_again (pointer t) w = type_again t w
      type_again (array t n) w =
          (w.0, (lies_alike S u.records (records units) (each u h).records complete (stand_among units agree.tags u h) t w.1).object, type_again t w.2)
      type_again (function t all) w = (result_again t w.0, type_again t w.1, types_again all w.2)
      type_again (structure r) w = tt

      types_again : (all : CTypes) → AreWellMade (length u.records) all → AreParameters (length (records units)) (all_renumbered S all)
      types_again no_types w = tt
      types_again (and_type t more) w = (scalar_same S t ∙ w.0, type_again t w.1, types_again more w.2)

    fields_again : (all : List Field) → AllByRecursion (λ (x : Field). IsWellMade (length u.records) x.ty) all
        → AllByRecursion (λ (x : Field). IsDeclarable (length (records units)) x.ty) (map (field_in S) all)
    fields_again [] w = tt
    fields_again (x ∷ all) w = (type_again x.ty w.0, fields_again all w.1)

    still_some : (all : List Field) → all ≢ [] → map (field_in S) all ≢ []
    still_some [] d e = d refl
    still_some (x ∷ all) d e = cc

    record_again : (r : Record) → IsMadeRecord (length u.records) r → IsPrintableRecord P (record_in S r)
    record_again r w =
        (still_some r.fields w.0, All-from_recursion (λ (x : Field). IsDeclarable (length (records units)) x.ty) (map (field_in S) r.fields) (fields_again r.fields w.1))

  pub types_said_again : All (IsDeclarable (length (records units))) (T units agree complete each)
  types_said_again =
      All-from_recursion (IsDeclarable (length (records units))) (T units agree complete each)
      (all_among (IsDeclarable (length (records units))) (T units agree complete each) one)
    where
      one : (t : CType) → IsAmong t (T units agree complete each) → IsDeclarable (length (records units)) t
      one t i =
          let all = flat_map (types_in (all_tags units)) units in
          let z = flat_among (types_in (all_tags units)) units t (turned_back t all (of_all [] all t i)) in
          let x = among_mapped (type_in (all_tags units) z.0) z.0.types t z.2 in
          let own = (made z.0 z.1).types in
          let w = is_each (IsWellMade (length z.0.records)) z.0.types (recursion_from_All (IsWellMade (length z.0.records)) z.0.types own) x.0 x.1 in
          subst (IsDeclarable (length (records units))) (sym x.2) (type_again z.0 z.1 x.0 w)

  pub records_said_again : All (IsPrintableRecord P) (records units)
  records_said_again = All-from_recursion (IsPrintableRecord P) (records units) (each_is (IsPrintableRecord P) (records units) one)
    where
      one : (r : Record) → Joined.IsAmong r (records units) → IsPrintableRecord P r
      one r i =
          let tag = flat_among (λ tag. with_tag tag (all_records_in units)) (complete_tags units) r i in
          let z = flat_among (records_in (all_tags units)) units r (among_tagged tag.0 (all_records_in units) r tag.2) in
          let x = among_mapped (record_in (structure_in (all_tags units) z.0)) z.0.records r z.2 in
          let w = is_each (IsMadeRecord (length z.0.records)) z.0.records (made z.0 z.1).records x.0 x.1 in
          subst (IsPrintableRecord P) (sym x.2) (record_again z.0 z.1 x.0 w)
