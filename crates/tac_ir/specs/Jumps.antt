-- Where the jumps of a function's code lead.
use Rattle.std.specs.Prelude.{◌≡◌, ℕ, ◌<◌, ◌≤◌, length, All, Option, Some, None, slice_get}
use Rattle.tac_ir.specs.Code.{RoutineData}
use Rattle.tac_ir.specs.declared.step.Step.{Step}
use Rattle.tac_ir.specs.declared.step.Step.TheVariants as S
use Rattle.tac_ir.specs.declared.step.Target.{Target}
use Rattle.tac_ir.specs.declared.step.Target.TheVariants as To

abbrev pub target_of : Step → Option Target
target_of (S.Jump to) = Some to
target_of (S.Branch when a to) = Some to
target_of (S.Test at op kind when a b to) = Some to
target_of (S.Case n a to) = Some to
target_of s = None

-- so many steps are left there: one step at least, and no more than there are
abbrev pub IsInside : (length : ℕ) → (left : ℕ) → Type 0
IsInside n k = (0 < k) × (k ≤ n)

-- a label that is used is there, and is set
abbrev pub LeadsInside : RoutineData → Target → Type 0
LeadsInside g (To.Left k) = IsInside (length g.code) k
LeadsInside g (To.Label l) = (k : ℕ) × (slice_get g.labels l ≡ Some k) × IsInside (length g.code) k

abbrev pub LeadsInsideIfAny : RoutineData → Option Target → Type 0
LeadsInsideIfAny g None = Unit {0}
LeadsInsideIfAny g (Some to) = LeadsInside g to

-- each jump leads to a step of the function
abbrev pub JumpsWithin : RoutineData → Type 0
JumpsWithin g = All (λ s. LeadsInsideIfAny g (target_of s)) g.code
