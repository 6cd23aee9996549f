use Rattle.std.proofs.Common.{◌≡◌, sym, rules}
use Rattle.std.specs.Prelude.{Some}
use Rattle.std.proofs.lemmas.Result.{on_ok_weaker}
use Rattle.c_typed.specs.Changed.{changed, changed_statement}
use Rattle.c_typed.specs.TreeViews.{arm_of, expression_of, statement_of}
use Rattle.c_typed.specs.declared.statement.Statement.TheVariants as S
use Rattle.c_walks.proofs.ChangedLists.{all_arms_changed, all_statements_changed, changed_arm, ended}
use Rattle.c_walks.proofs.ChangedParts.{either_changed}
use Rattle.c_walks.proofs.changed_statements.+statement_change.Goals as goal

pub change_statements-returns-clause-tree : goal.change_statements-returns-clause-tree
change_statements-returns-clause-tree g t c =
    let change = g.C.Change.change c.args.by.now in
    let view = statement_of g.C.Change.seen in
    let v = c.as_mut_vec.result.now in
    all_statements_changed change view c.args.all.now _
    (ended view (λ s. changed_statement change (view s)) c.loop-s.s-items c.deref_mut-s-items.result.now v.items c.args.all.now c.loop-s.s-index v.len
    (search rules) (search rules) c.as_mut_vec.ensures.value (search rules) (search rules) c.loop-s.invariant.visited)

pub change_arms-returns-clause-tree : goal.change_arms-returns-clause-tree
change_arms-returns-clause-tree g t c =
    let change = g.C.Change.change c.args.by.now in
    let view = arm_of g.C.Change.seen in
    let v = c.as_mut_vec.result.now in
    all_arms_changed change view c.args.all.now _
    (ended view (λ a. changed_arm change (view a)) c.loop-arm.arm-items c.deref_mut-arm-items.result.now v.items c.args.all.now c.loop-arm.arm-index v.len
    (search rules) (search rules) c.as_mut_vec.ensures.value (search rules) (search rules) c.loop-arm.invariant.visited)

pub change_statement-returns-in-Some-clause-tree : goal.change_statement-returns-in-Some-clause-tree
change_statement-returns-in-Some-clause-tree g t c =
    let change = g.C.Change.change c.args.by.now in
    let seen = g.C.Change.seen in
    let a = c.in-If in
    let other = c.in-Some.other in
    let after = c.change_statement-in-Some.new.s in
    let e : c.args.s.now ≡ S.If a.e a.one (Some other) = search rules in
    let h : expression_of seen c.change_expression-in-If.new.e ≡ changed change (expression_of seen a.e) = search rules in
    let i : statement_of seen c.change_statement.new.s ≡ changed_statement change (statement_of seen a.one) = search rules in
    on_ok_weaker c.change_statement-in-Some.result
    (λ j. rw e (either_changed seen change a.e c.change_expression-in-If.new.e a.one c.change_statement.new.s other after h i j))
    (rw (sym c.get_mut-in-Some.ensures.value) c.change_statement-in-Some.ensures.tree)
