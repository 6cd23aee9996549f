use Rattle.std.proofs.Common.{◌*◌, replicate}
use Rattle.memory_words.specs.CellWords.Words.{cell_of}
use Rattle.block_memory.proofs.Writing.{Writes}
use Rattle.block_memory.proofs.arena.Arena.put_words.Given as goal

abbrev pub invariant-loop-i : goal.invariant-loop-i
invariant-loop-i l = Writes l.initial.self l.self l.at (replicate (4 * l.i) (cell_of l.fn.content))
