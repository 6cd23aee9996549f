use Rattle.std.proofs.Common.{◌≡◌, length, map}
use Rattle.c_annotated.specs.FileViews.{object_of}
use Rattle.c_externals.specs.Settling.{settled_each}
use Rattle.c_externals.proofs.settling.all_settled.Given as goal

abbrev pub invariant-loop-o : goal.invariant-loop-o
invariant-loop-o l = (length l.all ≡ length l.yielded) × (map object_of l.all ≡ settled_each l.marks (map object_of l.yielded))
