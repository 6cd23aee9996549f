use Rattle.std.proofs.Common.{◌≡◌, ℕ, ◌<◌, ◌≤◌, drop, get_or, length}
use Rattle.block_memory.specs.View.{memory_of}
use Rattle.c_typed.specs.declared.program.Initial.{Initial}
use Rattle.source_start.specs.Standing.{FitsIn}
use Rattle.source_start.specs.Writing.{with_all}
use Rattle.source_start.proofs.values.write_all.Given as goal

abbrev pub invariant-loop-i : goal.invariant-loop-i
invariant-loop-i l = record {
  memory : with_all l.block (memory_of l.store) (drop l.i-index l.all) ≡ with_all l.block (memory_of l.initial.store) l.all;
  fits : (k : ℕ) (d : Initial) → l.i-index ≤ k → k < length l.all → FitsIn (memory_of l.store) l.block (get_or l.all k d);
}
