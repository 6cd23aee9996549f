use Rattle.std.proofs.Common.{◌≡◌, ◌++◌, drop, map, take}
use Rattle.c_typed.specs.Changed.{changed_statement}
use Rattle.c_typed.specs.Gathered.{gathered_from_arms, gathered_from_statements}
use Rattle.c_typed.specs.TreeViews.{arm_of, arms_of, statement_of, statements_of}
use Rattle.c_walks.proofs.ChangedLists.{changed_arm}
use Rattle.c_walks.proofs.changed_statements.+statement_change.Given as goal

abbrev pub invariant-change_statements-loop-s : goal.invariant-change_statements-loop-s
invariant-change_statements-loop-s g l =
    let view = statement_of g.C.Change.seen in
    let from = gathered_from_statements (g.C.Change.own l.by) in
    record {
      unvisited : goal.unvisited-change_statements-loop-s g l;
      visited : map view (take l.s-index l.s-items) ≡ map (λ s. changed_statement (g.C.Change.change l.by) (view s)) (take l.s-index l.initial.s-items);
      kept : g.C.Change.held l.kept ++ from (statements_of (map view (drop l.s-index l.initial.s-items)))
          ≡ g.C.Change.held l.fn.kept ++ from (statements_of (map view l.initial.s-items));
    }

abbrev pub invariant-change_arms-loop-arm : goal.invariant-change_arms-loop-arm
invariant-change_arms-loop-arm g l =
    let view = arm_of g.C.Change.seen in
    let from = gathered_from_arms (g.C.Change.own l.by) in
    record {
      unvisited : goal.unvisited-change_arms-loop-arm g l;
      visited : map view (take l.arm-index l.arm-items) ≡ map (λ a. changed_arm (g.C.Change.change l.by) (view a)) (take l.arm-index l.initial.arm-items);
      kept : g.C.Change.held l.kept ++ from (arms_of (map view (drop l.arm-index l.initial.arm-items)))
          ≡ g.C.Change.held l.fn.kept ++ from (arms_of (map view l.initial.arm-items));
    }
