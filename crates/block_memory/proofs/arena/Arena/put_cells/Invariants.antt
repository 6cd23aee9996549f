use Rattle.std.proofs.Common.{take}
use Rattle.block_memory.proofs.Writing.{Writes}
use Rattle.block_memory.proofs.arena.Arena.put_cells.Given as goal

abbrev pub invariant-loop-i : goal.invariant-loop-i
invariant-loop-i l = Writes l.initial.self l.self l.at (take l.i l.cells)
