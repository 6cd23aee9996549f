use Rattle.std.proofs.Common.{◌≡◌, ◌≤◌, drop, length}
use Rattle.rv_code.specs.Frames.{sizes_of_parameters}
use Rattle.rv_code.proofs.frames.parameters.Given as goal

abbrev pub invariant-loop-x : goal.invariant-loop-x
invariant-loop-x l = record {
  inside : l.x ≤ length l.all;
  sizes : l.sizes.items ≡ sizes_of_parameters l.x (drop l.x l.all) l.fn.sizes.items;
}

abbrev pub decreases-loop-x : goal.decreases-loop-x
decreases-loop-x l = l.x
