use Rattle.std.proofs.Common.{◌≡◌, ◌++◌, drop, map}
use Rattle.std.specs.Prelude.{flat_map}
use Rattle.c_typed.specs.Programs.{unit_data}
use Rattle.c_types.specs.Views.{records_of}
use Rattle.c_link.specs.Joining.{records_in}
use Rattle.c_link.proofs.records.all_records.Given as goal

abbrev pub invariant-loop-u : goal.invariant-loop-u
invariant-loop-u l = records_of l.all ++ flat_map (records_in l.tags) (map unit_data (drop l.u-index l.units)) ≡ flat_map (records_in l.tags) (map unit_data l.units)
