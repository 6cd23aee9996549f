use Rattle.std.proofs.Common.{◌≡◌, ◌∙◌, ap, sym}
use Rattle.std.specs.Prelude.{Some}
use Rattle.c_annotated.specs.Views.{node_of as noted_node}
use Rattle.c_typed.specs.declared.expression.ExpressionNode.TheVariants as E
use Rattle.c_typed.specs.Mapped.{mapped_node}
use Rattle.c_numbered.proofs.Lists.{all_mapped}
use Rattle.c_numbered.proofs.Optional.{allocated}
use Rattle.c_numbered.specs.Numbered.{numbered}
use Rattle.c_numbered.proofs.expressions.+expression_numbering.Goals as goal

pub expressions-returns : goal.expressions-returns
expressions-returns t c =
    let l = c.loop-e in
    all_mapped (numbered c.args.by.types.now) c.args.all.now l.done l.e-index l.invariant c.loop-e-test.false

pub node-returns-in_ok-operand-in-Some : goal.node-returns-in_ok-operand-in-Some
node-returns-in_ok-operand-in-Some t c =
    let m = numbered c.args.by.types.now in
    let a = c.in-Allocate in
    let e : c.args.node.now ≡ E.Allocate a.r (Some c.in-Some.count) a.zeroed = a.is ∙ ap (λ count. E.Allocate a.r count a.zeroed) c.in-Some.is in
    allocated m a.r c.in-Some.count c.in_ok-operand-in-Some.field-0 a.zeroed c.in_ok-operand-in-Some.ensures
    ∙ ap (λ node. mapped_node m (noted_node node)) (sym e)
