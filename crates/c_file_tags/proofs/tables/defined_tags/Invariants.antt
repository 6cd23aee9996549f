use Rattle.std.proofs.Common.{◌≡◌, ◌++◌, drop, map}
use Rattle.c_erasure.specs.Marks.{defined_in}
use Rattle.c_file_tags.specs.Marks.{mark_of}
use Rattle.c_file_tags.proofs.tables.defined_tags.Given as goal

abbrev pub invariant-loop-mark : goal.invariant-loop-mark
invariant-loop-mark l =
    l.names ++ defined_in (map mark_of (drop l.mark-index l.marks.list.items)) ≡ defined_in (map mark_of l.marks.list.items)
