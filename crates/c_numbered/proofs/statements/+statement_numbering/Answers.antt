use Rattle.std.proofs.Common.{◌∙◌, ap, sym}
use Rattle.c_annotated.specs.Views.{statement_of as noted_statement}
use Rattle.c_typed.specs.declared.statement.Statement.TheVariants as S
use Rattle.c_typed.specs.Mapped.{mapped_statement}
use Rattle.c_numbered.proofs.Lists.{all_arms_mapped, all_statements_mapped}
use Rattle.c_numbered.proofs.Optional.{either_mapped}
use Rattle.c_numbered.specs.Numbered.{numbered}
use Rattle.c_numbered.proofs.statements.+statement_numbering.Goals as goal

pub statements-returns : goal.statements-returns
statements-returns t c =
    let l = c.loop-s in
    all_statements_mapped (numbered c.args.by.types.now) c.args.all.now l.done l.s-index l.invariant c.loop-s-test.false

pub arms-returns : goal.arms-returns
arms-returns t c =
    let l = c.loop-it in
    all_arms_mapped c.args.by.types.now c.args.all.now l.done l.it-index l.invariant c.loop-it-test.false

pub statement-returns-in_ok-inner-in-Some-2 : goal.statement-returns-in_ok-inner-in-Some-2
statement-returns-in_ok-inner-in-Some-2 t c =
    let m = numbered c.args.by.types.now in
    let a = c.in-If in
    let s = a.is ∙ ap (λ other. S.If a.e a.one other) c.in-Some.is in
    let e = c.in_ok-e-in-Some in
    let one = c.in_ok-inner-in-Some in
    let other = c.in_ok-inner-in-Some-2 in
    either_mapped m a.e e.e a.one one.field-0 c.in-Some.other other.field-0 e.ensures one.ensures other.ensures
    ∙ ap (λ s. mapped_statement m (noted_statement s)) (sym s)
