-- Where the checker stops with a fault, the rule that the fault names is broken.
use Rattle.std.specs.Prelude.{◌≡◌, ℕ, List, Err}
use Rattle.c_ast.specs.Trees
use Rattle.c_ast.specs.TreesOfFiles.{IsTreeOf}
use Rattle.c_erasure.specs.Broken.{Fault}
use Rattle.c_erasure.specs.BrokenFiles.{IsFaultOf}
use Rattle.c_erasure.specs.Checking.Files.{annotated}
use Rattle.c_checking_laws.specs.TextOrder.TextOrder.{IsUnwritten}

-- `untagged` gives names that no tag of the text has
abbrev pub FaultsBreakRules : Type 0
FaultsBreakRules = (number : ℕ) (untagged : ℕ → List ℕ) (bytes : List ℕ) (items : List Trees.Item) (fault : Fault)
    → ((at : ℕ) → IsUnwritten (untagged at)) → IsTreeOf bytes items → annotated number untagged items ≡ Err fault → IsFaultOf items fault
