use Rattle.std.proofs.Common.{◌≡◌, take}
use Rattle.rv_machine.specs.Making.{bytes_of}
use Rattle.rv_machine.proofs.making.bytes_for.Given as goal

abbrev pub invariant-loop-segment : goal.invariant-loop-segment
invariant-loop-segment l = l.bytes.items ≡ bytes_of (take l.segment-index l.segments)
