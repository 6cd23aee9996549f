-- The unit of a file can be counted: its records are complete, and its objects, parameters and locals have complete types within the limits.
use Rattle.std.specs.Prelude.{ℕ, List}
use Rattle.c_ast.specs.Trees
use Rattle.c_ast.specs.TreesOfFiles.{IsTreeOf}
use Rattle.c_erasure.specs.Erasing.{ErasesTo}
use Rattle.c_link.specs.Counting.{IsCountable}
use Rattle.c_typed.specs.Programs.{UnitData}

abbrev pub UnitsAreCountable : Type 0
UnitsAreCountable = (file : ℕ) (name bytes : List ℕ) (items : List Trees.Item) (u : UnitData) → IsTreeOf bytes items
    → ErasesTo file name bytes items u → IsCountable u
