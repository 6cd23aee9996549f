use Rattle.std.proofs.Common.{◌≡◌, drop}
use Rattle.std.specs.Prelude.{nat_lt}
use Rattle.std.specs.List.{list_any}
use Rattle.c_types.specs.Limits.{greatest_size}
use Rattle.c_types.specs.Views.{records_of, types_of_fields}
use Rattle.layout_plan.specs.Parts.{part_sizes}
use Rattle.layout_plan.proofs.parts.is_too_big.Given as goal

abbrev pub invariant-loop-part : goal.invariant-loop-part
invariant-loop-part l = list_any (nat_lt greatest_size) (part_sizes (records_of l.records) (types_of_fields l.own) l.decision l.part (drop l.part l.parts))
    ≡ list_any (nat_lt greatest_size) (part_sizes (records_of l.records) (types_of_fields l.own) l.decision 0 l.parts)
