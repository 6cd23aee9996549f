use Rattle.std.proofs.Common.{◌≡◌, drop, fold}
use Rattle.std.specs.Prelude.{flat_map}
use Rattle.c_types.specs.Views.{records_of}
use Rattle.layout_plan.specs.Peeling.{by_record}
use Rattle.layout_plan.specs.Clearing.{cleared}
use Rattle.layout_plan.proofs.peeling.clear_records.Given as goal

abbrev pub invariant-loop-r : goal.invariant-loop-r
invariant-loop-r l = fold cleared l.marks (flat_map by_record (records_of (drop l.r-index l.records)))
    ≡ fold cleared l.fn.marks (flat_map by_record (records_of l.records))
