use Rattle.std.proofs.Common.{◌≡◌, ◌≤◌, ◌+◌, ◌-◌, length}
use Rattle.source_state.specs.RoomView.{core_of}
use Rattle.tac_engine.specs.Reading.{behind}
use Rattle.tac_engine.specs.States.{read_row}
use Rattle.tac_engine.proofs.temporaries.read_row.Given as goal

abbrev pub invariant-loop-i : goal.invariant-loop-i
invariant-loop-i l = (length l.values.items ≤ l.i) × (behind l.values.items (read_row l.place (l.row.first + l.i) (l.row.count - l.i) (core_of l.room))
    ≡ read_row l.place l.row.first l.row.count (core_of l.room))
