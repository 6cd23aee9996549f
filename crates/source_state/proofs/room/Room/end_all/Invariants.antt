use Rattle.std.proofs.Common.{◌≡◌, drop}
use Rattle.source_state.specs.RoomView.{core_of}
use Rattle.source_state.specs.Steps.Locals.{end_all}
use Rattle.source_state.proofs.room.Room.end_all.Given as goal

abbrev pub invariant-loop-local : goal.invariant-loop-local
invariant-loop-local l =
    ((core_of l.self).frame ≡ (core_of l.fn.self).frame)
    × (end_all (drop l.local (core_of l.fn.self).frame) (core_of l.self) ≡ end_all (core_of l.fn.self).frame (core_of l.fn.self))
