use Rattle.std.proofs.Common.{◌≡◌, ◌≤◌, ◌^◌, ◌++◌, drop}
use Rattle.std.specs.Prelude.{fold, map}
use Rattle.c_types.specs.Layouts.{end_after, layouts, offsets_after}
use Rattle.c_types.specs.Views.{records_of, types_of_fields}
use Rattle.c_typed.specs.TypeNumbers.{type_at}
use Rattle.layout_plan.specs.Parts.{with_offsets}
use Rattle.layout_plan.proofs.placing.place_part.Given as goal

abbrev pub invariant-loop-field : goal.invariant-loop-field
invariant-loop-field l = record {
  placed : l.placed ++ with_offsets (records_of l.records) (types_of_fields l.own) l.part (drop l.field-index l.fields)
      (offsets_after (layouts (records_of l.records)) l.end (map (type_at (types_of_fields l.own)) (drop l.field-index l.fields)))
      ≡ l.fn.placed ++ with_offsets (records_of l.records) (types_of_fields l.own) l.part l.fields
      (offsets_after (layouts (records_of l.records)) l.before (map (type_at (types_of_fields l.own)) l.fields));
  end : fold (end_after (layouts (records_of l.records))) l.end (map (type_at (types_of_fields l.own)) (drop l.field-index l.fields)) ≤ 2 ^ 24;
}
