-- How far the field of an element lies from where a pointer points.
use Rattle.std.specs.Prelude.{ℕ, ℤ, pos, ◌+ℤ◌, ◌*ℤ◌}
use Rattle.c_types.specs.declared.ty.IntKind.{IntKind}
use Rattle.c_typed.specs.Conversions.{number_of}

abbrev pub way_to : IntKind → (word size offset : ℕ) → ℤ
way_to kind word size offset = number_of kind word *ℤ pos size +ℤ pos offset
