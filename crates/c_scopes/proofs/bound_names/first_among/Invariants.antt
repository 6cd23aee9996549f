use Rattle.std.proofs.Common.{◌≡◌, map, drop}
use Rattle.c_erasure.specs.Checking.Declaring.{declared_among}
use Rattle.c_annotated.specs.FileViews.{bound_of}
use Rattle.c_scopes.proofs.bound_names.first_among.Given as goal

abbrev pub invariant-loop-b : goal.invariant-loop-b
invariant-loop-b l = declared_among (map bound_of l.bounds) l.x ≡ declared_among (map bound_of (drop l.b-index l.bounds)) l.x
