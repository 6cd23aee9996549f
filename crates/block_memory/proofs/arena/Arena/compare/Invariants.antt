use Rattle.std.proofs.Common.{◌≡◌, drop}
use Rattle.block_memory.specs.Cells.{range}
use Rattle.block_memory.specs.Ranges.{first_difference}
use Rattle.block_memory.proofs.arena.Arena.compare.Given as goal

abbrev pub invariant-loop-i : goal.invariant-loop-i
invariant-loop-i l =
    first_difference (drop l.i (range l.self l.at l.count)) (drop l.i (range l.self l.other l.count)) ≡ first_difference (range l.self l.at l.count) (range l.self l.other l.count)
