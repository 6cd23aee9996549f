use Rattle.std.proofs.Common.{◌∙◌, ◌+◌, ap, arith, map, drop}
use Rattle.c_ast.specs.Views.{label_of}
use Rattle.c_erasure.specs.Checking.Answers.{◌>>=◌, moved}
use Rattle.c_erasure.specs.Checking.Statements.{labels_in}
use Rattle.c_scopes.specs.Scoping.{scope_of}
use Rattle.c_check_parts.proofs.InitializerParts.Turns.{fails_along, fails_on}
use Rattle.c_check_statements.specs.StatementParts.Parts.{labels_after, switch_labels_of}
use Rattle.c_check_statements.proofs.StatementParts.LabelsInTurn.{labels_end, labels_next}
use Rattle.c_check_statements.proofs.statement_parts.labels.labels_in.Goals as goal

pub returns-in-Err : goal.returns-in-Err
returns-in-Err c =
    let l = c.loop-label in
    fails_along c.in-Err.fault _ _
    (c.loop-label.invariant.0
    ∙ labels_next l.own.cases l.own.defaults c.args.labels.now l.label-index (scope_of l.file c.args.scope) c.args.kind (switch_labels_of l.all) c.label-item.result
    c.loop-label-test.true c.label-item.is)
    (fails_on c.in-Err.fault _ _ c.in-Err.ensures.found)

pub loop-label-preserved : goal.loop-label-preserved
loop-label-preserved c =
    let l = c.loop-label in
    let s = scope_of l.file c.args.scope in (
      c.loop-label.invariant.0
          ∙ labels_next l.own.cases l.own.defaults c.args.labels.now l.label-index s c.args.kind (switch_labels_of l.all) c.label-item.result
          c.loop-label-test.true c.label-item.is
          ∙ ap (λ r. r >>= λ x. labels_after x.0.cases x.0.defaults (labels_in (map label_of (drop (l.label-index + 1) c.args.labels.now)) (moved s x.1) c.args.kind x.0.all))
          c.in-Ok.ensures.found,
      omega (arith, c.loop-label.invariant.1, c.in-Ok.ensures.counted),
    )

pub returns : goal.returns
returns c =
    let l = c.loop-label in
    c.loop-label.invariant.0
    ∙ labels_end l.own.cases l.own.defaults c.args.labels.now l.label-index (scope_of l.file c.args.scope) c.args.kind (switch_labels_of l.all) c.loop-label-test.false
