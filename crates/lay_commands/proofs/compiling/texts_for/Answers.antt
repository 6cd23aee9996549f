use Rattle.std.proofs.Common.{◌<◌, ◌+◌, ◌∷◌, [], ◌∙◌, ap, length, append-nil, arith, drop, refl, sym}
use Rattle.std.proofs.lemmas.List.{drop_all, drop_more}
use Rattle.lay_commands.proofs.Told.{texts_more}
use Rattle.lay_commands.proofs.compiling.texts_for.Goals as goal

pub loop-plan-preserved : goal.loop-plan-preserved
loop-plan-preserved c =
    let plans = c.args.plans.now in
    let i = c.loop-plan.plan-index in
    let within : i < length plans = omega arith in
    rw c.in_ok-add.ensures.added (texts_more c.args.files.now plans (drop i plans) (drop (i + 1) plans) c.plan-item.result c.loop-plan.texts c.in_ok-text.text
    (drop_more plans i c.plan-item.result within ∙ ap (λ x. x ∷ drop (i + 1) plans) (sym c.plan-item.is)) c.in_ok-text.ensures c.loop-plan.invariant)

pub returns : goal.returns
returns c =
    let none = drop_all c.loop-plan.plan-index c.args.plans.now c.loop-plan-test.false in
    rw append-nil at (c.loop-plan.invariant [] (rw none refl))
