use Rattle.std.proofs.Common.{◌≡◌, map, take}
use Rattle.c_annotated.specs.FileViews.{bound_of}
use Rattle.c_externals.specs.Settling.{marks_from}
use Rattle.c_externals.proofs.settling.marks_of.Given as goal

abbrev pub invariant-loop-b : goal.invariant-loop-b
invariant-loop-b l = l.marks.items ≡ marks_from (map bound_of (take l.b-index l.names)) 0 l.count
