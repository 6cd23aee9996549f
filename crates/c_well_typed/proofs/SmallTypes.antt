-- The types of a program are small where those of its units are, and the elements of their array types are complete (C99 6.7.5.2).
use Rattle.std.proofs.Common.{◌≡◌, ℕ, ◌*◌, ◌≤◌, Bool, true, false, refl, sym, ap, subst, List, [], ◌∷◌, length, map, flat_map, arith, inl, inr}
use Rattle.std.proofs.lemmas.Bool.Decides.{nat_tests}
use Rattle.std.proofs.lemmas.List.Elements.{recursion_from_All, All-from_recursion}
use Rattle.std.proofs.lemmas.Option.{slice_get_past}
use Rattle.std.specs.Prelude.{All, Option, unwrap_or, nat_lt}
use Rattle.std.specs.List.{AllByRecursion}
use Rattle.c_types.proofs.Before.{length-layouts}
use Rattle.c_types.specs.declared.layout.Layout.{Layout}
use Rattle.c_types.specs.declared.ty.IntKind.{IntKind}
use Rattle.c_types.specs.declared.ty.IntKind.TheVariants.{Char, SChar, UChar, Short, UShort, Int, UInt, Long, ULong}
use Rattle.c_types.specs.IntKinds.{width}
use Rattle.c_types.specs.Layouts.{size_of, layouts}
use Rattle.c_types.specs.Limits.{AreComplete, AreSmall, greatest_size}
use Rattle.c_types.specs.Types.{CType, void, integer, pointer, array, function, structure, Record}
use Rattle.c_typed.specs.Programs.{UnitData}
use Rattle.c_link.specs.Joining.{all_tags, structure_in, type_in, types_in, types, records}
use Rattle.c_link.specs.Gaps.{Agree}
use Rattle.c_link.proofs.JoinedRecords as Joined
use Rattle.c_link.proofs.JoinedRecords.{stand_among}
use Rattle.c_link.proofs.Layouts.{lies_alike}
use Rattle.c_well_typed.specs.WellTyped.{of_unit, HasWholeElements, HaveWholeElements, IsSmallType, HaveTypedFunctions}
use Rattle.c_well_typed.proofs.JoinedFunctions.{T, P, R}
use Rattle.c_well_typed.proofs.LookedUp.{flat_among}
use Rattle.c_well_typed.proofs.Numbers.{IsAmong, all_among, of_all}

pub width_small : (kind : IntKind) → width kind ≤ greatest_size
width_small Char = omega arith
width_small SChar = omega arith
width_small UChar = omega arith
width_small Short = omega arith
width_small UShort = omega arith
width_small Int = omega arith
width_small UInt = omega arith
width_small Long = omega arith
width_small ULong = omega arith

-- a structure within the limit, and one that no file completes, which has no size
pub structure_small : (all : List Record) → AreSmall all → (r : ℕ) → size_of all (structure r) ≤ greatest_size
structure_small all small r = by_test (nat_lt r (length all)) refl
  where
    past : length all ≤ r → size_of all (structure r) ≡ 0
    past l =
        let m = length-layouts all in
        ap (λ (o : Option Layout). (unwrap_or o (record { offsets = []; size = 0; alignment = 1 })).size) (slice_get_past (layouts all) r (omega (arith, l, m)))

    by_test : (b : Bool) → nat_lt r (length all) ≡ b → size_of all (structure r) ≤ greatest_size
    by_test true e = small r (grind (arith, nat_tests))
    by_test false e = let z = past (grind (arith, nat_tests)) in omega (arith, z)

turned_back : {A : Type 0} (x : A) (xs : List A) → IsAmong x xs → Joined.IsAmong x xs
turned_back x [] i = i
turned_back x (y ∷ xs) (inl e) = inl e
turned_back x (y ∷ xs) (inr i) = inr (turned_back x xs i)

among_mapped : {A B : Type 0} (P : B → Type 0) (v : A → B) (xs : List A) → AllByRecursion (λ x. P (v x)) xs → (y : B) → Joined.IsAmong y (map v xs) → P y
among_mapped P v [] h y i = absurd i
among_mapped P v (x ∷ xs) h y (inl e) = subst P (sym e) h.0
among_mapped P v (x ∷ xs) h y (inr i) = among_mapped P v xs h.1 y i

-- what holds of the types of each unit, over the records of the program, holds of those of the program
pub types_again : (units : List UnitData) (P : CType → Type 0)
    → ((u : UnitData) → Joined.IsAmong u units → AllByRecursion (λ t. P (type_in (all_tags units) u t)) u.types) → All P (types units)
types_again units P each =
    All-from_recursion P (types units)
    (all_among P (types units) (λ t i.
    let all = flat_map (types_in (all_tags units)) units in
    let z = flat_among (types_in (all_tags units)) units t (turned_back t all (of_all [] all t i)) in
    among_mapped P (type_in (all_tags units) z.0) z.0.types (each z.0 z.1) t z.2))

module _ (units : List UnitData) (agree : Agree units) (complete : AreComplete (records units))
    (each : (u : UnitData) → Joined.IsAmong u units → HaveTypedFunctions (of_unit u)) (small : AreSmall (records units))
    (smalls : (u : UnitData) → Joined.IsAmong u units → All (IsSmallType (of_unit u)) u.types)
    (wholes : (u : UnitData) → Joined.IsAmong u units → HaveWholeElements u) where
  again : (u : UnitData) → Joined.IsAmong u units → (t : CType) → IsSmallType (of_unit u) t → HasWholeElements u t
      → IsSmallType (P units agree complete each) (R units agree complete each u t)
  again u h void s w = omega arith
  again u h (integer kind) s w = width_small kind
  again u h (pointer t) s w = omega arith
  again u h (function t all) s w = omega arith
  again u h (structure r) s w = structure_small (records units) small (structure_in (all_tags units) u r)
  again u h (array t n) s w =
      let same = (lies_alike (structure_in (all_tags units) u) u.records (records units) (each u h).records complete (stand_among units agree.tags u h) t w).alike.sizes in
      subst (λ m. m * n ≤ greatest_size) (sym same) s

  each_again : (u : UnitData) → Joined.IsAmong u units → (all : List CType) → AllByRecursion (IsSmallType (of_unit u)) all
      → AllByRecursion (HasWholeElements u) all → AllByRecursion (λ t. IsSmallType (P units agree complete each) (type_in (all_tags units) u t)) all
  each_again u h [] s w = tt
  each_again u h (t ∷ all) s w = (again u h t s.0 w.0, each_again u h all s.1 w.1)

  pub small_again : All (IsSmallType (P units agree complete each)) (T units agree complete each)
  small_again =
      types_again units (IsSmallType (P units agree complete each))
      (λ u h. each_again u h u.types (recursion_from_All (IsSmallType (of_unit u)) u.types (smalls u h)) (recursion_from_All (HasWholeElements u) u.types (wholes u h)))
