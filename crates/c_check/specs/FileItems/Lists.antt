-- What the syntax of a file tells before its first item, as lists.
use Rattle.std.specs.Prelude.{◌≡◌, ◌++◌, List, []}
use Rattle.c_ast.specs.Trees
use Rattle.c_erasure.specs.Marks.{marks_of_file, firsts, tags_in, ends_in, defined_in, undefined_in}
use Rattle.c_scopes.specs.SyntaxTags.Untagged.{untagged_by}
use Rattle.c_scopes.specs.SyntaxTags.TagLists.{TagLists}

-- the lists of those items, whose structures without a tag have the tags of the lists
pub record AreListsOf (items : List Trees.Item) (t : TagLists) : Type 0 where
  pub tags : t.tags ≡ firsts [] (tags_in (marks_of_file (untagged_by t.untagged) items))
  pub ends : t.ends ≡ ends_in (marks_of_file (untagged_by t.untagged) items)
  pub numbered : t.numbered ≡ defined_in (marks_of_file (untagged_by t.untagged) items) ++ undefined_in (marks_of_file (untagged_by t.untagged) items)
