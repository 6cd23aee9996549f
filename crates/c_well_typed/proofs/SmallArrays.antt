-- The arrays inside of the types of a program are within the limit where those of the types of its units are (C99 6.7.5.2).
use Rattle.std.proofs.Common.{ℕ, ◌*◌, ◌≤◌, sym, subst, List, [], ◌∷◌}
use Rattle.std.proofs.lemmas.List.Elements.{recursion_from_All}
use Rattle.std.specs.Prelude.{All}
use Rattle.std.specs.List.{AllByRecursion}
use Rattle.c_types.specs.Limits.{AreComplete, greatest_size}
use Rattle.c_types.specs.Types.{CType, CTypes, void, integer, pointer, array, function, structure, no_types, and_type}
use Rattle.c_typed.specs.Programs.{UnitData}
use Rattle.c_numbers.specs.TypeNumbers.Renumbered.{all_renumbered}
use Rattle.c_checking_units.specs.TypeLimits.Limits.{HasSmallArrays, HaveSmallArrays}
use Rattle.c_link.specs.Joining.{all_tags, structure_in, type_in, types, records}
use Rattle.c_link.specs.Gaps.{Agree}
use Rattle.c_link.proofs.JoinedRecords.{IsAmong, stand_among}
use Rattle.c_link.proofs.Layouts.{lies_alike}
use Rattle.c_well_typed.proofs.SmallTypes.{types_again}

module _ (units : List UnitData) (agree : Agree units) (complete : AreComplete (records units)) where
  -- of one unit
  module _ (u : UnitData) (among : IsAmong u units) (whole : AreComplete u.records) where
    abbrev number : ℕ → ℕ
    number = structure_in (all_tags units) u

    mutual
      again : (t : CType) → HasSmallArrays u.records t → HasSmallArrays (records units) (type_in (all_tags units) u t)
      again void s = tt
      again (integer kind) s = tt
      again (pointer t) s = again t s
      again (array t n) s =
          let same = lies_alike number u.records (records units) whole complete (stand_among units agree.tags u among) t s.0 in
          (same.object, subst (λ m. m * n ≤ greatest_size) (sym same.alike.sizes) s.1, again t s.2)
      again (function t all) s = (again t s.0, all_again all s.1)
      again (structure r) s = tt

      all_again : (all : CTypes) → HaveSmallArrays u.records all → HaveSmallArrays (records units) (all_renumbered number all)
      all_again no_types s = tt
      all_again (and_type t more) s = (again t s.0, all_again more s.1)

    each_again : (all : List CType) → AllByRecursion (HasSmallArrays u.records) all
        → AllByRecursion (λ t. HasSmallArrays (records units) (type_in (all_tags units) u t)) all
    each_again [] s = tt
    each_again (t ∷ all) s = (again t s.0, each_again all s.1)

  pub arrays_again : ((u : UnitData) → IsAmong u units → AreComplete u.records) → ((u : UnitData) → IsAmong u units → All (HasSmallArrays u.records) u.types)
      → All (HasSmallArrays (records units)) (types units)
  arrays_again wholes smalls =
      types_again units (HasSmallArrays (records units))
      (λ u h. each_again u h (wholes u h) u.types (recursion_from_All (HasSmallArrays u.records) u.types (smalls u h)))
