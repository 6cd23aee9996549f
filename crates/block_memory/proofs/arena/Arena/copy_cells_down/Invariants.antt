use Rattle.std.proofs.Common.{◌≡◌, length, take}
use Rattle.block_memory.specs.Cells.{over, range}
use Rattle.block_memory.proofs.arena.Arena.copy_cells_down.Given as goal

abbrev pub invariant-loop-i : goal.invariant-loop-i
invariant-loop-i l = record {
  is : l.self ≡ over l.initial.self l.to (take l.i (range l.initial.self l.from l.count));
  long : length l.self ≡ length l.initial.self;
}
