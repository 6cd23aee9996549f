use Rattle.std.proofs.Common.{◌≡◌, ◌<◌, ◌≤◌, ◌-◌, ◌^◌, drop}
use Rattle.std.specs.Prelude.{fold, map, max, min}
use Rattle.c_types.specs.Layouts.{end_after, greatest_alignment, layouts}
use Rattle.c_types.specs.Views.{records_of, types_of_fields}
use Rattle.c_typed.specs.TypeNumbers.{type_at}
use Rattle.layout_plan.proofs.parts.extent_after.Given as goal

abbrev pub invariant-loop-field : goal.invariant-loop-field
invariant-loop-field l = record {
  end : min (fold (end_after (layouts (records_of l.records))) l.end (map (type_at (types_of_fields l.own)) (drop l.field-index l.fields))) (2 ^ 64 - 1)
      ≡ min (fold (end_after (layouts (records_of l.records))) l.fn.before.end (map (type_at (types_of_fields l.own)) l.fields)) (2 ^ 64 - 1);
  alignment : max l.alignment (greatest_alignment (layouts (records_of l.records)) (map (type_at (types_of_fields l.own)) (drop l.field-index l.fields)))
      ≡ max l.fn.before.alignment (greatest_alignment (layouts (records_of l.records)) (map (type_at (types_of_fields l.own)) l.fields));
  capped : l.end ≤ 2 ^ 64 - 1;
  positive : 0 < l.alignment;
}
