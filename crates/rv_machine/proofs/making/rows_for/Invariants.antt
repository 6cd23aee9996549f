use Rattle.std.proofs.Common.{◌≡◌, ◌++◌, take, drop}
use Rattle.rv_machine.specs.Making.{size_of, rows_from}
use Rattle.rv_machine.proofs.making.rows_for.Given as goal

abbrev pub invariant-loop-segment : goal.invariant-loop-segment
invariant-loop-segment l =
    (l.start ≡ size_of (take l.segment-index l.segments))
    × (l.rows.items ++ rows_from l.start (drop l.segment-index l.segments) ≡ rows_from 0 l.segments)
