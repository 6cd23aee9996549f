-- The engine's parts as its state.
use Rattle.std.specs.Prelude.{ℕ, List, [], map, reverse, take}
use Rattle.c_typed.specs.declared.program.Typed.{Typed}
use Rattle.source_state.specs.RoomView.{core_of}
use Rattle.source_state.specs.Steps.Cores.{Core}
use Rattle.tac_ir.specs.Code.{data_of}
use Rattle.tac_ir.specs.Running.{Caller as Waiting}
use Rattle.tac_ir.specs.declared.step.Routine.{Routine}
use Rattle.tac_ir.specs.declared.step.Step.{Step}
use Rattle.tac_ir.specs.declared.step.Tac.{Tac}
use Rattle.tac_engine.specs.declared.engine.Caller.{Caller}
use Rattle.tac_engine.specs.declared.engine.Engine.{Engine}
use Rattle.tac_engine.specs.States.{State}

-- the steps of a function where so many are left
abbrev pub rest_of : Routine → (left : ℕ) → List Step
rest_of g n = reverse (take n g.code)

abbrev pub caller_of : Caller → Waiting
caller_of c = record { to = c.to; routine = data_of c.routine.now; more = rest_of c.routine.now c.left; frame = c.frame.items }

abbrev pub state_of : Engine → State
state_of m = record {
  typed = m.types.now;
  code = m.code.now;
  callers = map caller_of m.callers;
  routine = data_of m.routine.now;
  more = rest_of m.routine.now m.left;
  to = m.to;
  core = core_of m.room;
}

-- before `main` is called. What the function that runs is plays no part then
abbrev pub ready : Typed → Tac → Core → Routine → State
ready typed code core g = record { typed = typed; code = code; callers = []; routine = data_of g; more = []; to = 0; core = core }
