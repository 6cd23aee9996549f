-- The types for which numbers stand.
use Rattle.std.specs.Prelude.{ℕ, Bool, true, false, List, slice_get, unwrap_or, Option, Some, None}
use Rattle.std.specs.Option.{option_map}
use Rattle.c_types.specs.declared.ty.Ty.{Ty}
use Rattle.c_types.specs.Types.{CType, void, pointer}
use Rattle.c_types.specs.Views.{type_of}
use Rattle.c_typed.specs.Trees

-- the type with a number in a list, and `void` past its end
abbrev pub type_at : List CType → ℕ → CType
type_at types number = unwrap_or (slice_get types number) void

-- ---- what private functions answer

abbrev pub or_void : Option Ty → CType
or_void found = unwrap_or (option_map type_of found) void

abbrev pub is_void_pointer : CType → Bool
is_void_pointer (pointer void) = true
is_void_pointer t = false

-- the operand of a cast that is written
abbrev pub written_cast : {T : Type 0} → Trees.Expression T → Option (Trees.Expression T)
written_cast (Trees.expression t at (Trees.convert e true)) = Some e
written_cast e = None
