use Rattle.std.proofs.Common.{ap, ◌∙◌}
use Rattle.std.proofs.lemmas.Result.{IfOk-weaker}
use Rattle.c_types.specs.Views.{records_of, types_of_fields}
use Rattle.layout_plan.specs.Outlines.{is_worth}
use Rattle.layout_plan.specs.Sides.{cold_below}
use Rattle.layout_plan.proofs.Cold.{one, two}
use Rattle.layout_plan.proofs.outlining.split.Goals as goal

pub returns-then-is_worth : goal.returns-then-is_worth
returns-then-is_worth c =
    let records = records_of c.args.records.now in
    let types = types_of_fields c.args.own.now in
    let bound = c.cold_below-below.ensures ∙ ap (cold_below c.args.by_profile) c.greatest_hotness.ensures in
    let worth = c.if-is_worth.ensures ∙ ap (is_worth records types c.args.w.now c.args.by_profile) c.as_slice.ensures in
    IfOk-weaker c.in_two.result _ _ (λ o h. h ∙ two records types c.args.w.now c.args.by_profile c.args.fields.now c.in_ok-apart.apart
    c.cold_below-below.result bound c.in_ok-apart.ensures worth) c.in_two.ensures

pub returns-else-is_worth : goal.returns-else-is_worth
returns-else-is_worth c =
    let records = records_of c.args.records.now in
    let types = types_of_fields c.args.own.now in
    let bound = c.cold_below-below.ensures ∙ ap (cold_below c.args.by_profile) c.greatest_hotness.ensures in
    let worth = c.if-is_worth.ensures ∙ ap (is_worth records types c.args.w.now c.args.by_profile) c.as_slice.ensures in
    IfOk-weaker c.in_one.result _ _ (λ o h. h ∙ one records types c.args.w.now c.args.by_profile c.args.fields.now c.in_ok-apart.apart
    c.cold_below-below.result bound c.in_ok-apart.ensures worth) c.in_one.ensures
