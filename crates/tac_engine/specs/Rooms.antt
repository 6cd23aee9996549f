-- What a step puts into the block of a local has room there.
use Rattle.std.specs.Prelude.{◌+◌, List, [], ◌∷◌, length, get_or}
use Rattle.source_state.specs.Steps.Locals.{slot}
use Rattle.source_state.specs.Steps.Rooms.{HasRoom}
use Rattle.tac_ir.specs.declared.step.Step.{Step}
use Rattle.tac_ir.specs.declared.step.Step.TheVariants as S
use Rattle.tac_engine.specs.States.{State}

abbrev pub StepHasRoom : Step → State → Type 0
StepHasRoom (S.Forget x n) s = HasRoom n (slot s.core x) s.core.memory
StepHasRoom (S.Zeros x n) s = HasRoom n (slot s.core x) s.core.memory
StepHasRoom (S.Text x by n) s = HasRoom (by + length (get_or s.routine.texts n [])) (slot s.core x) s.core.memory
StepHasRoom i s = Unit {0}

-- the step that comes next
abbrev pub NextHasRoom : List Step → State → Type 0
NextHasRoom [] s = Unit {0}
NextHasRoom (i ∷ more) s = StepHasRoom i s
