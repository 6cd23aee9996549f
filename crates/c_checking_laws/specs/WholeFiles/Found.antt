-- What the checker answers for the tree of a text is its annotated file.
use Rattle.std.specs.Prelude.{◌≡◌, ℕ, List, Ok}
use Rattle.c_ast.specs.Trees
use Rattle.c_ast.specs.TreesOfFiles.{IsTreeOf}
use Rattle.c_erasure.specs.Files.{IsFileOf}
use Rattle.c_erasure.specs.Scopes.{FileScope}
use Rattle.c_erasure.specs.Checking.Files.{annotated}
use Rattle.c_checking_laws.specs.TextOrder.TextOrder.{IsUnwritten}

-- the annotated file of the items, with that number and those names of structures without a tag
pub record IsFound (file : ℕ) (untagged : ℕ → List ℕ) (items : List Trees.Item) (f : FileScope) : Type 0 where
  pub is_file : IsFileOf items f
  pub number : f.file ≡ file
  pub untagged_are : f.untagged ≡ untagged

-- `untagged` gives names that no tag of the text has
abbrev pub AnnotatedFilesAreFound : Type 0
AnnotatedFilesAreFound = (file : ℕ) (untagged : ℕ → List ℕ) (bytes : List ℕ) (items : List Trees.Item) (f : FileScope)
    → ((at : ℕ) → IsUnwritten (untagged at)) → IsTreeOf bytes items → annotated file untagged items ≡ Ok f → IsFound file untagged items f
