use Rattle.std.proofs.Common.{◌≡◌, map, drop}
use Rattle.c_erasure.specs.Scopes.{visible}
use Rattle.c_annotated.specs.FileViews.{bound_of}
use Rattle.c_scopes.proofs.bound_names.visible_among.Given as goal

abbrev pub invariant-loop-number : goal.invariant-loop-number
invariant-loop-number l = visible (map bound_of l.bounds) l.x l.at ≡ visible (map bound_of (drop l.number l.bounds)) l.x l.at
