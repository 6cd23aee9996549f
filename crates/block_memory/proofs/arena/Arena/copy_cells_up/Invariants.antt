use Rattle.std.proofs.Common.{◌≡◌, ◌+◌, ◌≤◌, drop, length}
use Rattle.block_memory.specs.Cells.{over, range}
use Rattle.block_memory.proofs.arena.Arena.copy_cells_up.Given as goal

abbrev pub invariant-loop-i : goal.invariant-loop-i
invariant-loop-i l = record {
  most : l.i ≤ l.count;
  is : l.self ≡ over l.initial.self (l.to + l.i) (drop l.i (range l.initial.self l.from l.count));
  long : length l.self ≡ length l.initial.self;
}

abbrev pub decreases-loop-i : goal.decreases-loop-i
decreases-loop-i l = l.i
