use Rattle.std.proofs.Common.{◌≡◌, ◌≤◌, ◌^◌, ◌++◌, drop}
use Rattle.std.specs.Prelude.{fold}
use Rattle.c_types.specs.Layouts.{end_after, offsets_after}
use Rattle.c_types.specs.Views.{types_of_fields}
use Rattle.c_types.proofs.laying.offsets.Given as goal

abbrev pub invariant-loop-field : goal.invariant-loop-field
invariant-loop-field l = record {
  offsets : l.offsets ++ offsets_after l.known l.end (types_of_fields (drop l.field-index l.fields)) ≡ offsets_after l.known 0 (types_of_fields l.fields);
  end : fold (end_after l.known) l.end (types_of_fields (drop l.field-index l.fields)) ≤ 2 ^ 24;
}
