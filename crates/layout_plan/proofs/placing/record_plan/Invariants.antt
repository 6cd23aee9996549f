use Rattle.std.proofs.Common.{◌≡◌, ◌++◌, ◌≤◌, drop}
use Rattle.std.specs.Prelude.{All}
use Rattle.c_types.specs.Limits.{greatest_size}
use Rattle.c_types.specs.Views.{records_of, types_of_fields}
use Rattle.layout_plan.specs.Parts.{part_sizes, placed_in_parts}
use Rattle.layout_plan.proofs.placing.record_plan.Given as goal

abbrev pub invariant-loop-part : goal.invariant-loop-part
invariant-loop-part l = record {
  placed : l.placed ++ placed_in_parts (records_of l.records) (types_of_fields l.own) l.fn.o.decision l.part (drop l.part l.fn.o.parts)
      ≡ placed_in_parts (records_of l.records) (types_of_fields l.own) l.fn.o.decision 0 l.fn.o.parts;
  sizes : l.sizes ++ part_sizes (records_of l.records) (types_of_fields l.own) l.fn.o.decision l.part (drop l.part l.fn.o.parts)
      ≡ part_sizes (records_of l.records) (types_of_fields l.own) l.fn.o.decision 0 l.fn.o.parts;
  small : All (λ size. size ≤ greatest_size) (part_sizes (records_of l.records) (types_of_fields l.own) l.fn.o.decision l.part (drop l.part l.fn.o.parts));
}
