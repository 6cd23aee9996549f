use Rattle.std.proofs.Common.{◌≡◌, ◌<◌, drop}
use Rattle.std.specs.Prelude.{max}
use Rattle.c_types.specs.Layouts.{greatest_alignment}
use Rattle.c_types.specs.Views.{types_of_fields}
use Rattle.c_types.proofs.laying.greatest_alignment.Given as goal

abbrev pub invariant-loop-field : goal.invariant-loop-field
invariant-loop-field l = record {
  greatest : max l.greatest (greatest_alignment l.known (types_of_fields (drop l.field-index l.fields)))
      ≡ greatest_alignment l.known (types_of_fields l.fields);
  positive : 0 < l.greatest;
}
