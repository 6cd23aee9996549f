use Rattle.std.proofs.Common.{◌≡◌, ◌<◌, length, map, rules}
use Rattle.std.proofs.lemmas.List.{length-map}
use Rattle.c_typed.specs.Changed.{changed_part}
use Rattle.c_typed.specs.Gathered.{gathered_from_part}
use Rattle.c_typed.specs.TreeViews.{part_of}
use Rattle.c_walks.proofs.ChangedLists.{one_more, one_more_kept}
use Rattle.c_walks.proofs.changed_statements.change_initializer_parts.Goals as goal

pub loop-part-preserved : goal.loop-part-preserved
loop-part-preserved g c =
    let view = part_of g.C.Change.seen in
    let by = c.args.by.now in
    let f = changed_part (g.C.Change.change by) in
    let items = c.deref_mut-part-items.result.now in
    let before = map view items in
    let l : length before ≡ length items = length-map items view in
    let h : c.loop-part.part-index < length before = search rules in
    let k : c.loop-part.part-index < length c.loop-part.part-items = search rules in
    let i = c.loop-part.invariant in
    record {
      tree = one_more view f before c.loop-part.part-items c.loop-part.part-index _ _ h k i.tree c.in_ok-change_part.ensures.tree;
      kept = one_more_kept view f (gathered_from_part (g.C.Change.own by)) before c.loop-part.part-items c.loop-part.part-index _
          (g.C.Change.held c.loop-part.kept) (g.C.Change.held c.change_part.new.kept) _ h k i.tree c.in_ok-change_part.ensures.kept i.kept;
    }
