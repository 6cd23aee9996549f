-- What the syntax of a file tells of its tags and structures.
use Rattle.std.specs.Prelude.{◌≡◌, ℕ, List, [], ◌∷◌, ◌++◌}
use Rattle.c_ast.specs.Trees
use Rattle.c_ast.specs.Spelling.{spell}
use Rattle.c_erasure.specs.Scopes.{Tag}
use Rattle.c_erasure.specs.Marks.{marks_of_file, firsts, tags_in, ends_in, defined_in, undefined_in}
use Rattle.c_erasure.specs.Untagged.{AreTags, structs_in}
use Rattle.c_scopes.specs.SyntaxTags.Untagged.{untagged_by}

pub record TagLists : Type 0 where
  pub tags : List Tag
  pub ends : List ℕ
  pub numbered : List (List ℕ)
  -- each `struct` with the tag that its structure has where none is written
  pub untagged : List (ℕ × List ℕ)

-- the lists of the tree of a file with that name and those bytes
pub record AreTagsOf (name bytes : List ℕ) (items : List Trees.Item) (t : TagLists) : Type 0 where
  pub untagged : AreTags name bytes (structs_in (spell items)) (untagged_by t.untagged)
  -- a tag that is written nowhere is no tag of another structure
  pub begin : (at : ℕ) → (rest : List ℕ) × (untagged_by t.untagged at ≡ 64 ∷ rest)
  pub tags : t.tags ≡ firsts [] (tags_in (marks_of_file (untagged_by t.untagged) items))
  pub ends : t.ends ≡ ends_in (marks_of_file (untagged_by t.untagged) items)
  pub numbered : t.numbered ≡ defined_in (marks_of_file (untagged_by t.untagged) items) ++ undefined_in (marks_of_file (untagged_by t.untagged) items)
