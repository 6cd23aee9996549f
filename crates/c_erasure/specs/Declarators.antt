-- Parts of declarators and member declarations (C99 6.7.2.1, 6.7.5).
use Rattle.std.specs.Prelude.{◌≢◌, ℕ, ◌≤◌, Bool, true, false, List, [], ◌∷◌, All, Option, Some, None}
use Rattle.c_types.specs.Types.{CType, pointer}
use Rattle.c_types.specs.Layouts.{size_of}
use Rattle.c_types.specs.Objects.{parts}
use Rattle.c_types.specs.Types.{Record}
use Rattle.c_ast.specs.declared.words.Spelling.{Spelling}
use Rattle.c_ast.specs.Trees
use Rattle.c_typed.specs.Conversions.{adjusted}

-- the name that a declarator declares
abbrev pub declared_name : Trees.Declarator → Option Spelling
declared_name Trees.nothing = None
declared_name (Trees.named x) = Some x
declared_name (Trees.pointer at consts d) = declared_name d
declared_name (Trees.enclosed left d right) = declared_name d
declared_name (Trees.array d left length right) = declared_name d
declared_name (Trees.function d left all right) = declared_name d

-- a name or nothing, in parentheses or not
abbrev pub is_name : Trees.Declarator → Bool
is_name Trees.nothing = true
is_name (Trees.named x) = true
is_name (Trees.enclosed left d right) = is_name d
is_name d = false

-- what a declarator makes of a type: a type, or an array of elements of it whose number is left out
pub data Shape : Type 0 where
  closed : (t : CType) → Shape
  open_array : (t : CType) → Shape

-- a parameter that is an array or a function becomes a pointer (6.7.5.3)
abbrev pub parameter_type : Shape → CType
parameter_type (closed t) = adjusted t
parameter_type (open_array t) = pointer t

-- the limits of types (own)
pub record IsSmall (records : List Record) (t : CType) : Type 0 where
  pub bytes : size_of records t ≤ 16777216
  pub parts : parts t ≤ 1024

-- no two names are the same
abbrev pub AreDifferent : List (List ℕ) → Type 0
AreDifferent [] = Unit {0}
AreDifferent (x ∷ more) = All (λ y. x ≢ y) more × AreDifferent more
