use Rattle.std.proofs.Common.{◌≡◌, map, take}
use Rattle.c_types.specs.Views.{field_of, type_of}
use Rattle.c_check_parts.proofs.initializer_parts.recursion.types_of_fields.Given as goal

abbrev pub invariant-loop-field : goal.invariant-loop-field
invariant-loop-field l = map type_of l.types ≡ map (λ f. f.ty) (map field_of (take l.field-index l.fields))
