-- The types that declarators make are within the limits (C99 6.7.5).
use Rattle.std.proofs.Common.{◌≡◌, ℕ, ◌≤◌, true, refl, subst, List, [], ◌∷◌, length, arith}
use Rattle.std.proofs.lemmas.Bool.{and_parts}
use Rattle.std.specs.Prelude.{Ok}
use Rattle.std.specs.List.{AllByRecursion}
use Rattle.lay_base.specs.declared.faults.Rule.TheVariants as R
use Rattle.c_types.specs.Objects.{is_object, parts, parts_of_all}
use Rattle.c_types.specs.Types.{CType, CTypes, void, integer, pointer, array, function, structure, no_types, and_type, Record}
use Rattle.c_typed.specs.Conversions.{adjusted}
use Rattle.c_erasure.specs.Declarators.{Shape, closed, open_array, parameter_type}
use Rattle.c_erasure.specs.Checking.Nodes.{is_complete}
use Rattle.c_erasure.specs.Checking.Declaring.{Derivation, to_pointer, to_array, to_open_array, to_function, derived, element, small, is_result, result_type}
use Rattle.c_erasure.specs.Checking.Declaring.{closed_at}
use Rattle.c_erasure.specs.Checking.Declaring.{scalar_parameter, object_at}
use Rattle.c_checking_laws.proofs.Results.{bound_ok, given, only_if}
use Rattle.c_checking_laws.proofs.Derived.{small_is}
use Rattle.c_checking_units.specs.TypeLimits.Limits.{HaveSmallArrays}
use Rattle.c_checking_units.proofs.TypeLimits.Types.{IsWithin, AreWithin, IsLonger, all_stay_within, decayed_within, function_pointer_within}

-- the parameters of a step to a function
abbrev pub IsStep : List Record → Derivation → Type 0
IsStep records (to_function at parameters) = AreWithin records parameters
IsStep records (to_pointer at) = Unit {0}
IsStep records (to_array count at n) = Unit {0}
IsStep records (to_open_array count at) = Unit {0}

abbrev pub AreSteps : List Record → List Derivation → Type 0
AreSteps records steps = AllByRecursion (IsStep records) steps

-- each is so few that a function may have them
abbrev pub HasFewParameters : Derivation → Type 0
HasFewParameters (to_function at parameters) = parts_of_all parameters ≤ 1021
HasFewParameters (to_pointer at) = Unit {0}
HasFewParameters (to_array count at n) = Unit {0}
HasFewParameters (to_open_array count at) = Unit {0}

abbrev pub HaveFewParameters : List Derivation → Type 0
HaveFewParameters steps = AllByRecursion HasFewParameters steps

abbrev pub IsShape : List Record → Shape → Type 0
IsShape records (closed t) = IsWithin records t
IsShape records (open_array t) = IsWithin records t × (is_object (length records) t ≡ true)

pub steps_stay : {records all : List Record} → IsLonger records all → (steps : List Derivation) → AreSteps records steps → AreSteps all steps
steps_stay p [] h = tt
steps_stay p (to_function at parameters ∷ steps) h = (all_stay_within p parameters h.0, steps_stay p steps h.1)
steps_stay p (to_pointer at ∷ steps) h = (tt, steps_stay p steps h.1)
steps_stay p (to_array count at n ∷ steps) h = (tt, steps_stay p steps h.1)
steps_stay p (to_open_array count at ∷ steps) h = (tt, steps_stay p steps h.1)

some_parts : (t : CType) → 1 ≤ parts t
some_parts void = omega arith
some_parts (integer kind) = omega arith
some_parts (pointer t) = omega arith
some_parts (array t n) = omega arith
some_parts (function t all) = omega arith
some_parts (structure r) = omega arith

-- ---- what is derived has few parameters

pub few_parameters : (records : List Record) (steps : List Derivation) (t : CType) (shape : Shape) → derived records steps t ≡ Ok shape
    → HaveFewParameters steps
unfolding derived
few_parameters records [] t shape h = tt
few_parameters records (to_pointer at ∷ more) t shape h =
    let u = bound_ok (small records at (pointer t)) _ shape h in
    (tt, few_parameters records more u.0 shape u.2)
few_parameters records (to_array count at n ∷ more) t shape h =
    let e = bound_ok (element records count at t) _ shape h in
    let u = bound_ok (small records at (array e.0 n)) _ shape e.2 in
    (tt, few_parameters records more u.0 shape u.2)
few_parameters records (to_open_array count at ∷ []) t shape h = (tt, tt)
few_parameters records (to_open_array count at ∷ s ∷ more) t shape h = cc
few_parameters records (to_function at parameters ∷ more) t shape h =
    let r = bound_ok (result_type at t) _ shape h in
    let u = bound_ok (small records at (pointer (function r.0 parameters))) _ shape r.2 in
    let s = small_is records at (pointer (function r.0 parameters)) u.0 u.1 in
    let l = s.0.parts in
    let one = some_parts r.0 in
    (omega (arith, l, one), few_parameters records more (function r.0 parameters) shape u.2)

-- ---- types

module _ (records : List Record) where
  abbrev W : CType → Type 0
  W t = IsWithin records t

  arrays_of_all : (all : CTypes) → AreWithin records all → HaveSmallArrays records all
  arrays_of_all no_types h = tt
  arrays_of_all (and_type t more) h = (h.0.arrays, arrays_of_all more h.1)

  pub pointer_small : (at : ℕ) (t u : CType) → small records at (pointer t) ≡ Ok u → W t → W u
  pointer_small at t u h w =
      let s = small_is records at (pointer t) u h in
      subst W s.1 (record { arrays = w.arrays; parts = s.0.parts })

  pub array_small : (at : ℕ) (t : CType) (n : ℕ) (u : CType) → small records at (array t n) ≡ Ok u → is_object (length records) t ≡ true → W t → W u
  array_small at t n u h o w =
      let s = small_is records at (array t n) u h in
      subst W s.1 (record { arrays = (o, s.0.bytes, w.arrays); parts = s.0.parts })

  pub element_is : (count at : ℕ) (t e : CType) → element records count at t ≡ Ok e → (t ≡ e) × (is_object (length records) e ≡ true)
  element_is count at t e h =
      let c = only_if (is_complete records count t) (Ok t) R.Incomplete at e h in
      given (λ e. (t ≡ e) × (is_object (length records) e ≡ true)) t e c.1
      (refl, (and_parts (is_object count t) (is_object (length records) t) c.0).1)

  result_is : (at : ℕ) (t r : CType) → result_type at t ≡ Ok r → W t → W r
  result_is at t r h w = let c = only_if (is_result t) (Ok t) R.ByValue at r h in given W t r c.1 w

  pub derived_is : (steps : List Derivation) (t : CType) (shape : Shape) → derived records steps t ≡ Ok shape → W t → AreSteps records steps
      → IsShape records shape
  unfolding derived
  derived_is [] t shape h w k = given (IsShape records) (closed t) shape h w
  derived_is (to_pointer at ∷ more) t shape h w k =
      let u = bound_ok (small records at (pointer t)) _ shape h in
      derived_is more u.0 shape u.2 (pointer_small at t u.0 u.1 w) k.1
  derived_is (to_array count at n ∷ more) t shape h w k =
      let e = bound_ok (element records count at t) _ shape h in
      let is = element_is count at t e.0 e.1 in
      let u = bound_ok (small records at (array e.0 n)) _ shape e.2 in
      derived_is more u.0 shape u.2 (array_small at e.0 n u.0 u.1 is.1 (subst W is.0 w)) k.1
  derived_is (to_open_array count at ∷ []) t shape h w k =
      let e = bound_ok (element records count at t) _ shape h in
      let is = element_is count at t e.0 e.1 in
      given (IsShape records) (open_array e.0) shape e.2 (subst W is.0 w, is.1)
  derived_is (to_open_array count at ∷ s ∷ more) t shape h w k = cc
  derived_is (to_function at parameters ∷ more) t shape h w k =
      let r = bound_ok (result_type at t) _ shape h in
      let v = result_is at t r.0 r.1 w in
      let u = bound_ok (small records at (pointer (function r.0 parameters))) _ shape r.2 in
      let s = small_is records at (pointer (function r.0 parameters)) u.0 u.1 in
      let f : W (function r.0 parameters) = record { arrays = (v.arrays, arrays_of_all parameters k.0); parts = s.0.parts } in
      derived_is more (function r.0 parameters) shape u.2 f k.1

  pub closed_is : (at : ℕ) (shape : Shape) (t : CType) → closed_at at shape ≡ Ok t → IsShape records shape → W t
  closed_is at (closed u) t h w = given W u t h w
  closed_is at (open_array u) t h w = cc

  pub object_is : (count at : ℕ) (t u : CType) → object_at records count at t ≡ Ok u → W t → W u
  unfolding object_at
  object_is count at t u h w = let c = only_if (is_complete records count t) (Ok t) R.Incomplete at u h in given W t u c.1 w

  -- a parameter, where there are so few that its pointer is within the limits too
  adjusted_is : (t : CType) → W t → W (adjusted t)
  adjusted_is void w = w
  adjusted_is (integer kind) w = w
  adjusted_is (pointer t) w = w
  adjusted_is (array t n) w = decayed_within records t n w
  adjusted_is (function t all) w = function_pointer_within records t all w
  adjusted_is (structure r) w = w

  pub parameter_is : (shape : Shape) → IsShape records shape → parts (parameter_type shape) ≤ 1021 → W (parameter_type shape)
  parameter_is (closed t) w l = adjusted_is t w
  parameter_is (open_array t) w l = record { arrays = w.0.arrays; parts = omega (arith, l) }

  pub parameter_pointer : (shape : Shape) → IsShape records shape → parts (parameter_type shape) ≤ 1021 → W (pointer (parameter_type shape))
  parameter_pointer shape w l = record { arrays = (parameter_is shape w l).arrays; parts = omega (arith, l) }

  pub scalar_is : (at : ℕ) (t u : CType) → scalar_parameter at t ≡ Ok u → t ≡ u
  scalar_is at (integer kind) u h = given (λ u. integer kind ≡ u) (integer kind) u h refl
  scalar_is at (pointer t) u h = given (λ u. pointer t ≡ u) (pointer t) u h refl
  scalar_is at (structure r) u h = cc
  scalar_is at void u h = cc
  scalar_is at (array t n) u h = cc
  scalar_is at (function t all) u h = cc
