use Rattle.std.proofs.Common.{◌≡◌, drop}
use Rattle.source_state.specs.RoomView.{core_of}
use Rattle.tac_engine.specs.Steps.{receive}
use Rattle.tac_engine.proofs.calls.receive.Given as goal

abbrev pub invariant-loop-number : goal.invariant-loop-number
invariant-loop-number l = receive l.place l.number (drop l.number l.parameters) (drop l.number l.values) (core_of l.room)
    ≡ receive l.place 0 l.parameters l.values (core_of l.fn.room)
