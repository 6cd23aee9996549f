use Rattle.std.proofs.Common.{◌<◌, ◌≤◌, ℕ, get_or}
use Rattle.c_types.specs.declared.record.Field.{Field}
use Rattle.c_types.specs.Layouts.{size_of}
use Rattle.c_types.specs.Limits.{greatest_size}
use Rattle.c_types.specs.Views.{records_of, type_of}
use Rattle.c_declaring.proofs.structures.are_bounded.Given as goal

abbrev pub invariant-loop-field : goal.invariant-loop-field
invariant-loop-field l = (k : ℕ) (d : Field) → k < l.field-index → size_of (records_of l.records) (type_of (get_or l.it.fields k d).ty) ≤ greatest_size
