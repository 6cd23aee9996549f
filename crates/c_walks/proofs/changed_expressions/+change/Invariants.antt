use Rattle.std.proofs.Common.{◌≡◌, ◌++◌, drop, map, take}
use Rattle.c_typed.specs.Changed.{changed}
use Rattle.c_typed.specs.Gathered.{gathered_from_all}
use Rattle.c_typed.specs.TreeViews.{expression_of, expressions_of}
use Rattle.c_walks.proofs.changed_expressions.+change.Given as goal

abbrev pub invariant-change_all-loop-e : goal.invariant-change_all-loop-e
invariant-change_all-loop-e g l =
    let view = expression_of g.C.Change.seen in
    let from = gathered_from_all (g.C.Change.own l.by) in
    record {
      unvisited : goal.unvisited-change_all-loop-e g l;
      visited : map view (take l.e-index l.e-items) ≡ map (λ e. changed (g.C.Change.change l.by) (view e)) (take l.e-index l.initial.e-items);
      kept : g.C.Change.held l.kept ++ from (expressions_of (map view (drop l.e-index l.initial.e-items)))
          ≡ g.C.Change.held l.fn.kept ++ from (expressions_of (map view l.initial.e-items));
    }
