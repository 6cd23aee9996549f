-- Implicit conversions, and the values of what an expression designates: what they weigh.
use Rattle.std.proofs.Common.{◌≡◌, ℕ, ◌+◌, ◌≤◌, false, subst, arith}
use Rattle.std.specs.Prelude.{Some}
use Rattle.c_types.specs.Types.{CType, void, integer, pointer, array, function, structure}
use Rattle.c_typed.specs.Trees as Trees
use Rattle.c_erasure.specs.Noted.{Note, nothing, size_of, Expression, Path, Thing, an_object, a_value, a_function, a_function_at, a_library_function}
use Rattle.c_erasure.specs.Noted.{type_of_path, object_value, value_of, unless_noted, unconverted}
use Rattle.c_well_typed.specs.ProgramWeights.Counted.{Kind, constant, load, conversion, argument}
use Rattle.c_well_typed.specs.ProgramWeights.Weights.{weight, weight_of_path}

module _ (n : Kind → ℕ) where
  pub bare_less : (e : Expression) → weight n (unconverted e) ≤ weight n e
  bare_less (Trees.expression t at (Trees.convert e false)) =
      by_note t.note
    where
      by_note : (o : Note) → weight n (unless_noted o e (Trees.expression t at (Trees.convert e false))) ≤ n conversion + weight n e
      by_note nothing = omega arith
      by_note (size_of u from) = omega arith
  bare_less e = omega arith

  pub converted_less : (e : Expression) → weight n e ≤ weight n (unconverted e) + n conversion
  converted_less (Trees.expression t at (Trees.convert e false)) =
      by_note t.note
    where
      by_note : (o : Note) → n conversion + weight n e ≤ weight n (unless_noted o e (Trees.expression t at (Trees.convert e false))) + n conversion
      by_note nothing = omega arith
      by_note (size_of u from) = omega arith
  converted_less e = omega arith

  -- the weight of a thing's value without a conversion
  abbrev pub bare : Thing → ℕ
  bare (an_object p) = n load + weight_of_path n p
  bare (a_value e) = weight n e
  bare (a_function at f t) = n constant
  bare (a_function_at e) = weight n e
  bare (a_library_function at which) = 0

  -- at most what it adds where it stands as an argument of a call
  abbrev pub cost : Thing → ℕ
  cost th = n conversion + n argument + bare th

  is_value : {x y : Expression} (k : ℕ) → weight n x ≤ k → Some x ≡ Some y → weight n y ≤ k
  is_value {x} {y} k l h =
      let w : x ≡ y = cc in subst (λ y. weight n y ≤ k) w l

  by_type : (p : Path) (t : CType) (e : Expression) → object_value p t ≡ Some e → weight n e ≤ n load + weight_of_path n p
  by_type p (integer kind) e h = is_value _ (omega arith) h
  by_type p (pointer t) e h = is_value _ (omega arith) h
  by_type p (array t k) e h = is_value _ (omega arith) h
  by_type p void e h = cc
  by_type p (function t all) e h = cc
  by_type p (structure r) e h = cc

  pub value_less : (th : Thing) (e : Expression) → value_of th ≡ Some e → weight n e ≤ bare th
  value_less (an_object p) e h = by_type p (type_of_path p) e h
  value_less (a_value x) e h = is_value _ (omega arith) h
  value_less (a_function at f t) e h = is_value _ (omega arith) h
  value_less (a_function_at x) e h = is_value _ (omega arith) h
  value_less (a_library_function at which) e h = cc
