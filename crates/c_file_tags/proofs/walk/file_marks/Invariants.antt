use Rattle.std.proofs.Common.{◌≡◌, ◌++◌, drop}
use Rattle.std.specs.Prelude.{map}
use Rattle.c_ast.specs.Views.{item_of}
use Rattle.c_erasure.specs.Marks.{marks_of_file}
use Rattle.c_scopes.specs.SyntaxTags.Untagged.{untagged_by}
use Rattle.c_file_tags.specs.Marks.{marks_in}
use Rattle.c_file_tags.proofs.walk.file_marks.Given as goal

abbrev pub invariant-loop-item : goal.invariant-loop-item
invariant-loop-item l =
    marks_in l.found ++ marks_of_file (untagged_by l.untagged) (map item_of (drop l.item-index l.all))
    ≡ marks_of_file (untagged_by l.untagged) (map item_of l.all)
