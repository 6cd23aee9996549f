-- The relation that the checker is about: a unit is well typed, and erases to the tree of a file.
use Rattle.std.specs.Prelude.{◌≡◌, ℕ, List, All}
use Rattle.c_ast.specs.Trees
use Rattle.c_ast.specs.Spelling.{spell}
use Rattle.c_ast.specs.TreesOfFiles.{IsTreeOf}
use Rattle.c_erasure.specs.Scopes.{FileScope}
use Rattle.c_erasure.specs.Declarators.{IsSmall}
use Rattle.c_erasure.specs.Files.{IsFileOf}
use Rattle.c_typed.specs.Programs.{UnitData}
use Rattle.c_erasure.specs.Units.{unit_of, types}
use Rattle.c_erasure.specs.Untagged.{AreTags, structs_in}

-- of the file with that number, name and bytes
pub record ErasesTo (file : ℕ) (name bytes : List ℕ) (items : List Trees.Item) (u : UnitData) : Type 0 where
  pub annotated : FileScope
  pub number : annotated.file ≡ file
  pub tags : AreTags name bytes (structs_in (spell items)) annotated.untagged
  pub of_tree : IsFileOf items annotated
  pub small : All (IsSmall annotated.records) (types annotated)
  pub unit : u ≡ unit_of items annotated

-- the tree of a text has, with its file, at most one unit
abbrev pub UnitsAreOne : Type 0
UnitsAreOne = (file : ℕ) (name bytes : List ℕ) (items : List Trees.Item) (u v : UnitData) → IsTreeOf bytes items
    → ErasesTo file name bytes items u → ErasesTo file name bytes items v → u ≡ v
