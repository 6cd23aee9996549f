-- Where the faults of files stand.
use Rattle.std.specs.Prelude.{◌≡◌, ℕ, List, Err}
use Rattle.c_tokens.specs.TokenPlaces.{IsPlaceIn}
use Rattle.c_ast.specs.Trees
use Rattle.c_ast.specs.TreesOfFiles.{IsTreeOf}
use Rattle.c_erasure.specs.Broken.{Fault, ill_typed, undeclared, redeclared, too_big}
use Rattle.c_erasure.specs.Checking.Files.{annotated}

-- each place that a fault of types names is so
abbrev pub Stands : (ℕ → Type 0) → Fault → Type 0
Stands Is (ill_typed rule at) = Is at
Stands Is (undeclared x at) = Is at
Stands Is (redeclared x at first) = Is at × Is first
Stands Is (too_big at) = Is at

-- where the checker stops in the tree of a text, there are tokens before each place that its fault names
abbrev pub FaultsHavePlaces : Type 0
FaultsHavePlaces = (number : ℕ) (untagged : ℕ → List ℕ) (bytes : List ℕ) (items : List Trees.Item) (fault : Fault)
    → IsTreeOf bytes items → annotated number untagged items ≡ Err fault → Stands (IsPlaceIn bytes) fault
