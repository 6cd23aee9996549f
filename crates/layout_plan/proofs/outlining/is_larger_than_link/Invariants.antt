use Rattle.std.proofs.Common.{◌≡◌, ◌≤◌, drop}
use Rattle.c_types.specs.Views.{records_of, types_of_fields}
use Rattle.layout_plan.specs.Sides.{sizes}
use Rattle.layout_plan.proofs.outlining.is_larger_than_link.Given as goal

abbrev pub invariant-loop-f : goal.invariant-loop-f
invariant-loop-f l = (l.sum ≤ 4)
    × (sizes (records_of l.records) (types_of_fields l.own) l.sum (drop l.f-index l.fields)
    ≡ sizes (records_of l.records) (types_of_fields l.own) 0 l.fields)
