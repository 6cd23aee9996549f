-- That no function takes many steps without a turn: each jump leads on, or back to where the body of a loop begins.
use Rattle.std.specs.Prelude.{◌≡◌, ℕ, ◌≤◌, Bool, true, false, List, [], ◌∷◌, length, Option, Some, None}
use Rattle.tac_ir.specs.Code.{RoutineData, led}
use Rattle.tac_ir.specs.Jumps.{target_of}
use Rattle.tac_ir.specs.declared.step.Step.{Step}
use Rattle.tac_ir.specs.declared.step.Step.TheVariants as S
use Rattle.tac_ir.specs.declared.step.Target.{Target}
use Rattle.tac_ir.specs.declared.step.Target.TheVariants as To

abbrev pub takes_turn : Step → Bool
takes_turn (S.Began f l) = true
takes_turn s = false

-- ... by its first step
abbrev pub TakesTurn : List Step → Type 0
TakesTurn [] = ⊥
TakesTurn (s ∷ more) = takes_turn s ≡ true

-- from a step with so many behind it
abbrev pub LeadsOn : RoutineData → (behind : ℕ) → Target → Type 0
LeadsOn g n (To.Left k) = k ≤ n
LeadsOn g n (To.Label l) = TakesTurn (led g (To.Label l))

abbrev pub LeadsOnIfAny : RoutineData → (behind : ℕ) → Option Target → Type 0
LeadsOnIfAny g n None = Unit {0}
LeadsOnIfAny g n (Some to) = LeadsOn g n to

abbrev pub AllLeadOn : RoutineData → List Step → Type 0
AllLeadOn g [] = Unit {0}
AllLeadOn g (s ∷ more) = LeadsOnIfAny g (length more) (target_of s) × AllLeadOn g more

abbrev pub JumpsLeadOn : RoutineData → Type 0
JumpsLeadOn g = AllLeadOn g g.code
