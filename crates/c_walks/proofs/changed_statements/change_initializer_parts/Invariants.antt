use Rattle.std.proofs.Common.{◌≡◌, ◌++◌, drop, map, take}
use Rattle.std.specs.Prelude.{flat_map}
use Rattle.c_typed.specs.Changed.{changed_part}
use Rattle.c_typed.specs.Gathered.{gathered_from_part}
use Rattle.c_typed.specs.TreeViews.{part_of}
use Rattle.c_walks.proofs.changed_statements.change_initializer_parts.Given as goal

abbrev pub invariant-loop-part : goal.invariant-loop-part
invariant-loop-part g l =
    let before = map (part_of g.C.Change.seen) l.initial.part-items in
    let from = flat_map (gathered_from_part (g.C.Change.own l.by)) in
    record {
      tree : map (part_of g.C.Change.seen) l.part-items ≡ map (changed_part (g.C.Change.change l.by)) (take l.part-index before) ++ drop l.part-index before;
      kept : g.C.Change.held l.kept ++ from (drop l.part-index before) ≡ g.C.Change.held l.fn.kept ++ from before;
    }
