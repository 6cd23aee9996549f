use Rattle.std.proofs.Common.{rules}
use Rattle.c_typed.specs.Changed.{changed}
use Rattle.c_typed.specs.TreeViews.{expression_of}
use Rattle.c_walks.proofs.ChangedLists.{all_changed, ended}
use Rattle.c_walks.proofs.changed_expressions.+change.Goals as goal

pub change_all-returns-clause-tree : goal.change_all-returns-clause-tree
change_all-returns-clause-tree g t c =
    let change = g.C.Change.change c.args.by.now in
    let view = expression_of g.C.Change.seen in
    let v = c.as_mut_vec.result.now in
    all_changed change view c.args.all.now _
    (ended view (λ e. changed change (view e)) c.loop-e.e-items c.deref_mut-e-items.result.now v.items c.args.all.now c.loop-e.e-index v.len
    (search rules) (search rules) c.as_mut_vec.ensures.value (search rules) (search rules) c.loop-e.invariant.visited)
