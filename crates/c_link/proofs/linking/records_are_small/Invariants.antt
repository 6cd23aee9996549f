use Rattle.std.proofs.Common.{map, take}
use Rattle.std.specs.Prelude.{All}
use Rattle.c_types.specs.Limits.{AreSmall}
use Rattle.c_typed.specs.Programs.{UnitData, unit_data}
use Rattle.c_link.proofs.linking.records_are_small.Given as goal

abbrev pub invariant-loop-u : goal.invariant-loop-u
invariant-loop-u l = All (λ (u : UnitData). AreSmall u.records) (map unit_data (take l.u-index l.units))
