use Rattle.std.proofs.Common.{◌≡◌, ◌++◌, drop, map}
use Rattle.std.specs.Prelude.{flat_map}
use Rattle.c_typed.specs.Programs.{unit_data}
use Rattle.c_link.specs.Gaps.{linked_by}
use Rattle.c_link.specs.Names.{linked_of}
use Rattle.c_link.proofs.linked.linked_in.Given as goal

abbrev pub invariant-loop-u : goal.invariant-loop-u
invariant-loop-u l = map linked_of l.all ++ flat_map (linked_by l.tags) (map unit_data (drop l.u-index l.units)) ≡ flat_map (linked_by l.tags) (map unit_data l.units)
