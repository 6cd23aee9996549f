use Rattle.std.proofs.Common.{◌≡◌, [], drop, map}
use Rattle.std.specs.Prelude.{fold}
use Rattle.c_file_tags.specs.Marks.{mark_of}
use Rattle.c_scopes.specs.SyntaxTags.Tables.{after_tag}
use Rattle.c_file_tags.proofs.tables.tag_table.Given as goal

abbrev pub invariant-loop-mark : goal.invariant-loop-mark
invariant-loop-mark l =
    fold after_tag l.tags (map mark_of (drop l.mark-index l.marks.list.items)) ≡ fold after_tag [] (map mark_of l.marks.list.items)
