-- Where the checker answers a file, the types of which the file speaks are within the limits of types.
use Rattle.std.specs.Prelude.{◌≡◌, ℕ, ◌≤◌, true, List, All, Ok, length}
use Rattle.c_types.specs.Layouts.{size_of}
use Rattle.c_types.specs.Limits.{greatest_size}
use Rattle.c_types.specs.Objects.{is_object}
use Rattle.c_types.specs.Types.{CType, CTypes, void, integer, pointer, array, function, structure, no_types, and_type, Record}
use Rattle.c_ast.specs.Trees
use Rattle.c_ast.specs.TreesOfFiles.{IsTreeOf}
use Rattle.c_erasure.specs.Checking.Files.{annotated}
use Rattle.c_typed.specs.Programs.{UnitData}
use Rattle.c_erasure.specs.Declarators.{IsSmall}
use Rattle.c_erasure.specs.Erasing.{ErasesTo}
use Rattle.c_erasure.specs.Scopes.{FileScope}
use Rattle.c_erasure.specs.Units.{types}

-- of the tree of a text of at most 4 MiB, so that no string literal is longer than an array may be
abbrev pub TypesAreSmall : Type 0
TypesAreSmall = (number : ℕ) (untagged : ℕ → List ℕ) (bytes : List ℕ) (items : List Trees.Item) (f : FileScope) → length bytes ≤ 4194304
    → IsTreeOf bytes items → annotated number untagged items ≡ Ok f → All (IsSmall f.records) (types f)

-- ---- arrays inside of types

-- of the arrays inside of a type, behind pointers too, each has complete elements and is within the limit of sizes (6.7.5.2)
abbrev mutual
  pub HasSmallArrays : List Record → CType → Type 0
  HasSmallArrays records void = Unit {0}
  HasSmallArrays records (integer kind) = Unit {0}
  HasSmallArrays records (pointer t) = HasSmallArrays records t
  HasSmallArrays records (array t n) = (is_object (length records) t ≡ true) × (size_of records (array t n) ≤ greatest_size) × HasSmallArrays records t
  HasSmallArrays records (function t all) = HasSmallArrays records t × HaveSmallArrays records all
  HasSmallArrays records (structure r) = Unit {0}

  pub HaveSmallArrays : List Record → CTypes → Type 0
  HaveSmallArrays records no_types = Unit {0}
  HaveSmallArrays records (and_type t more) = HasSmallArrays records t × HaveSmallArrays records more

-- so it is with each type of the unit of such a text
abbrev pub UnitsHaveSmallArrays : Type 0
UnitsHaveSmallArrays = (file : ℕ) (name bytes : List ℕ) (items : List Trees.Item) (u : UnitData) → length bytes ≤ 4194304 → IsTreeOf bytes items
    → ErasesTo file name bytes items u → All (HasSmallArrays u.records) u.types
