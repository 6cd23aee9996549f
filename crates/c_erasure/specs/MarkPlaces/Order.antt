-- What holds of the marks of the trees of files.
use Rattle.std.specs.Prelude.{ℕ, ◌≤◌, ◌<◌, List, All}
use Rattle.c_ast.specs.Trees
use Rattle.c_ast.specs.Spelling.{Lexeme, spell}
use Rattle.c_ast.specs.TreesOfFiles.{IsTreeOf}
use Rattle.c_ast.specs.Laws.{IsPlaceOf}
use Rattle.c_erasure.specs.Marks.{marks_of_file, ends_in, scope_beginnings}
use Rattle.c_erasure.specs.Files.{AreAscending}
use Rattle.c_erasure.specs.MarkPlaces.Places.{AreOrdered}

-- places from a byte on, in their order, before tokens that come one after the other
pub record StandBetween (from : ℕ) (places : List ℕ) (rest : List Lexeme) : Type 0 where
  pub to : ℕ
  pub later : from ≤ to
  pub between : All (λ place. (from ≤ place) × (place < to)) places
  pub ascending : AreAscending places
  pub ordered : AreOrdered to rest

-- in the tree of a file definitions of structures end one after the other, and so do scopes begin, each at a token
pub record MarksAreInOrder : Type 0 where
  pub ends : (bytes : List ℕ) (items : List Trees.Item) (untagged : ℕ → List ℕ) → IsTreeOf bytes items → AreAscending (ends_in (marks_of_file untagged items))
  pub beginnings : (bytes : List ℕ) (items : List Trees.Item) (untagged : ℕ → List ℕ) → IsTreeOf bytes items
      → AreAscending (scope_beginnings (marks_of_file untagged items))
  pub places_of_ends : (bytes : List ℕ) (items : List Trees.Item) (untagged : ℕ → List ℕ) → IsTreeOf bytes items
      → All (IsPlaceOf (spell items)) (ends_in (marks_of_file untagged items))
  pub places_of_beginnings : (bytes : List ℕ) (items : List Trees.Item) (untagged : ℕ → List ℕ) → IsTreeOf bytes items
      → All (IsPlaceOf (spell items)) (scope_beginnings (marks_of_file untagged items))
