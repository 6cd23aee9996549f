use Rattle.std.proofs.Common.{◌≡◌, drop, map}
use Rattle.c_types.specs.Views.{field_of}
use Rattle.c_link.specs.Clashes.{same_fields}
use Rattle.c_link.proofs.clashes.same_fields.Given as goal

abbrev pub invariant-loop-index : goal.invariant-loop-index
invariant-loop-index l = same_fields (map field_of (drop l.index l.all)) (map field_of (drop l.index l.others)) ≡ same_fields (map field_of l.all) (map field_of l.others)
