use Rattle.std.proofs.Common.{◌≡◌, ◌<◌, ◌≤◌, ◌-◌, ◌^◌, drop}
use Rattle.std.specs.Prelude.{flat_map, fold, map, max, min}
use Rattle.c_types.specs.Layouts.{end_after, greatest_alignment, layouts}
use Rattle.c_types.specs.Views.{records_of, types_of_fields}
use Rattle.c_typed.specs.TypeNumbers.{type_at}
use Rattle.layout_plan.proofs.parts.whole_size.Given as goal

abbrev pub invariant-loop-fields : goal.invariant-loop-fields
invariant-loop-fields l = record {
  end : min (fold (end_after (layouts (records_of l.records))) l.extent.end
      (map (type_at (types_of_fields l.own)) (flat_map (λ them. them) (drop l.fields-index l.parts)))) (2 ^ 64 - 1)
      ≡ min (fold (end_after (layouts (records_of l.records))) 0 (map (type_at (types_of_fields l.own)) (flat_map (λ them. them) l.parts))) (2 ^ 64 - 1);
  alignment : max l.extent.alignment
      (greatest_alignment (layouts (records_of l.records)) (map (type_at (types_of_fields l.own)) (flat_map (λ them. them) (drop l.fields-index l.parts))))
      ≡ max 1 (greatest_alignment (layouts (records_of l.records)) (map (type_at (types_of_fields l.own)) (flat_map (λ them. them) l.parts)));
  capped : l.extent.end ≤ 2 ^ 64 - 1;
  positive : 0 < l.extent.alignment;
}
