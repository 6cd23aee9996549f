-- What code costs, step by step, and what pays for it, by the kinds of things in a function.
use Rattle.std.specs.Prelude.{ℕ, ◌+◌, ◌*◌, ◌≤◌, List, [], ◌∷◌}
use Rattle.c_well_typed.specs.ProgramWeights.Counted.{Kind}
use Rattle.c_well_typed.specs.ProgramWeights.Counted as Kinds
use Rattle.tac_ir.specs.Code.{RoutineData}
use Rattle.tac_ir.specs.declared.step.Step.{Step}
use Rattle.tac_ir.specs.declared.step.Step.TheVariants as S

-- the prices of a step, of one that takes more, of an argument beside that of its call, and of a parameter where a function begins
pub record Prices : Type 0 where
  pub step : ℕ
  pub wide : ℕ
  pub argument : ℕ
  pub parameter : ℕ

-- in bytes of code, where a step takes at most 11 words, a wide one 16 and a parameter six, and in steps
abbrev pub in_bytes : Prices
in_bytes = record { step = 44; wide = 64; argument = 0; parameter = 24 }

abbrev pub in_steps : Prices
in_steps = record { step = 1; wide = 1; argument = 0; parameter = 0 }

-- prices in bytes that the weights of code pay for
pub record AreBytes (c : Prices) : Type 0 where
  pub step : c.step ≤ 48
  pub wide : c.wide ≤ 96
  pub argument : c.argument ≤ 128
  pub parameter : c.parameter ≤ 256

module _ (c : Prices) where
  abbrev pub price_of : Step → ℕ
  price_of (S.Compare t at op kind a b) = c.wide
  price_of (S.Test at op kind when a b to) = c.wide
  price_of (S.Move t at op size left kind a b) = c.wide
  price_of (S.Distance t at size a b) = c.wide
  price_of (S.Update t at op size sort right a b) = c.wide
  price_of (S.ElementField t at size kind by a b) = c.wide
  price_of (S.Element t at n size addressed kind a b) = c.wide
  price_of (S.Library t at which all) = c.wide + all.count * c.argument
  price_of (S.Call t at f all) = c.step + all.count * c.argument
  price_of (S.CallThrough t at ty a all) = c.step + all.count * c.argument
  price_of s = c.step

  abbrev pub price_of_all : List Step → ℕ
  price_of_all [] = 0
  price_of_all (s ∷ more) = price_of s + price_of_all more

  abbrev pub price_of_parameters : {A : Type 0} → List A → ℕ
  price_of_parameters [] = 0
  price_of_parameters (x ∷ more) = c.parameter + price_of_parameters more

  -- with one step for the function itself, and its parameters; what is only declared has no code
  abbrev pub price_of_code : {A : Type 0} → (parameters : List A) → List Step → ℕ
  price_of_code parameters [] = 0
  price_of_code parameters (s ∷ more) = c.step + price_of_parameters parameters + price_of_all (s ∷ more)

  abbrev pub price_of_routine : RoutineData → ℕ
  price_of_routine r = price_of_code r.parameters r.code

  abbrev pub price_of_routines : List RoutineData → ℕ
  price_of_routines [] = 0
  price_of_routines (r ∷ more) = price_of_routine r + price_of_routines more

  -- what each kind of thing pays for
  abbrev pub paid : Kind → ℕ
  paid Kinds.begins = 2 * c.step
  paid Kinds.through = 0
  paid Kinds.to_field = c.step
  paid Kinds.to_element = c.wide
  paid Kinds.constant = 2 * c.step
  paid Kinds.load = c.step
  paid Kinds.conversion = 2 * c.step
  paid Kinds.pointer_sum = c.wide
  paid Kinds.operator = 4 * c.step + c.wide
  paid Kinds.assignment = 4 * c.step + c.wide
  paid Kinds.call = 2 * c.step + c.wide
  paid Kinds.argument = c.argument
  paid Kinds.part = 2 * c.step
  paid Kinds.statement = 4 * c.step
  paid Kinds.arm = 0
  paid Kinds.label = c.step
  paid Kinds.definition = 6 * c.step
  paid Kinds.parameter = 4 * c.step + c.parameter
  paid Kinds.named_local = 5 * c.step
  paid Kinds.block_local = 5 * c.step
  paid Kinds.structure = 0
  paid Kinds.field = 0
