-- Where the checker stops with a fault, there is no unit.
use Rattle.std.specs.Prelude.{◌≡◌, ℕ, List, Err}
use Rattle.c_ast.specs.Spelling.{spell}
use Rattle.c_ast.specs.Trees
use Rattle.c_ast.specs.TreesOfFiles.{IsTreeOf}
use Rattle.c_typed.specs.Programs.{UnitData}
use Rattle.c_erasure.specs.Broken.{Fault}
use Rattle.c_erasure.specs.Erasing.{ErasesTo}
use Rattle.c_erasure.specs.Untagged.{AreTags, structs_in}
use Rattle.c_erasure.specs.Checking.Files.{annotated}
use Rattle.c_checking_laws.specs.TextOrder.TextOrder.{IsUnwritten}

-- `untagged` gives the names of the structures of the text that have no tag, and names that no tag of the text has
abbrev pub FaultsHaveNoUnit : Type 0
FaultsHaveNoUnit = (number : ℕ) (name bytes : List ℕ) (items : List Trees.Item) (untagged : ℕ → List ℕ) (fault : Fault) (u : UnitData)
    → ((at : ℕ) → IsUnwritten (untagged at)) → IsTreeOf bytes items → AreTags name bytes (structs_in (spell items)) untagged
    → annotated number untagged items ≡ Err fault → ErasesTo number name bytes items u → ⊥
