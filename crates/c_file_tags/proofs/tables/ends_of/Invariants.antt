use Rattle.std.proofs.Common.{◌≡◌, ◌++◌, drop, map}
use Rattle.c_erasure.specs.Marks.{ends_in}
use Rattle.c_file_tags.specs.Marks.{mark_of}
use Rattle.c_file_tags.proofs.tables.ends_of.Given as goal

abbrev pub invariant-loop-mark : goal.invariant-loop-mark
invariant-loop-mark l =
    l.ends.items ++ ends_in (map mark_of (drop l.mark-index l.marks.list.items)) ≡ ends_in (map mark_of l.marks.list.items)
