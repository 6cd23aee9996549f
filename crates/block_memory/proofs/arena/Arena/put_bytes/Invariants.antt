use Rattle.std.proofs.Common.{map, take}
use Rattle.memory_words.specs.declared.cell_words.cell.Cell.TheVariants.{Byte}
use Rattle.block_memory.proofs.Writing.{Writes}
use Rattle.block_memory.proofs.arena.Arena.put_bytes.Given as goal

abbrev pub invariant-loop-i : goal.invariant-loop-i
invariant-loop-i l = Writes l.initial.self l.self l.at (map Byte (take l.i l.bytes))
