use Rattle.std.proofs.Common.{◌≡◌, drop, map}
use Rattle.std.specs.Prelude.{fold}
use Rattle.c_erasure.specs.Marks.{defined_in}
use Rattle.c_file_tags.specs.Marks.{mark_of}
use Rattle.c_scopes.specs.SyntaxTags.Tables.{after_structure}
use Rattle.c_file_tags.proofs.tables.numbered_tags.Given as goal

abbrev pub invariant-loop-mark : goal.invariant-loop-mark
invariant-loop-mark l =
    fold after_structure l.names (map mark_of (drop l.mark-index l.marks.list.items))
    ≡ fold after_structure (defined_in (map mark_of l.marks.list.items)) (map mark_of l.marks.list.items)
