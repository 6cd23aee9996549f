use Rattle.std.proofs.Common.{◌≡◌, ◌-◌, ◌^◌, ◌≤◌, drop}
use Rattle.std.specs.Prelude.{min, fold}
use Rattle.c_types.specs.Layouts.{end_after}
use Rattle.c_types.specs.Views.{types_of_fields}
use Rattle.c_types.proofs.laying.end.Given as goal

abbrev pub invariant-loop-field : goal.invariant-loop-field
invariant-loop-field l = record {
  end : min (fold (end_after l.known) l.end (types_of_fields (drop l.field-index l.fields))) (2 ^ 64 - 1)
      ≡ min (fold (end_after l.known) 0 (types_of_fields l.fields)) (2 ^ 64 - 1);
  capped : l.end ≤ 2 ^ 64 - 1;
}
