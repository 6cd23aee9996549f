use Rattle.std.proofs.Common.{◌<◌, sym, subst, ◌∙◌}
use Rattle.std.proofs.lemmas.Bool.{lt-ltb}
use Rattle.c_types.specs.Views.{records_of, types_of_fields}
use Rattle.layout_plan.specs.Sides.{sizes}
use Rattle.layout_plan.proofs.Sized.{passed_alone, passed_by}
use Rattle.layout_plan.proofs.outlining.is_larger_than_link.Goals as goal

pub returns-in-None : goal.returns-in-None
returns-in-None c =
    let records = records_of c.args.records.now in
    let types = types_of_fields c.args.own.now in
    sym (lt-ltb 4 (sizes records types 0 c.args.fields.now) (subst (λ n. 4 < n) c.loop-f.invariant.1
    (passed_alone records types c.loop-f.sum c.args.fields.now c.loop-f.f-index c.loop-f-test.true (sym c.in-None.is ∙ c.size_at.ensures))))

pub returns-then-sum-gt4 : goal.returns-then-sum-gt4
returns-then-sum-gt4 c =
    let records = records_of c.args.records.now in
    let types = types_of_fields c.args.own.now in
    sym (lt-ltb 4 (sizes records types 0 c.args.fields.now) (subst (λ n. 4 < n) c.loop-f.invariant.1
    (passed_by records types c.loop-f.sum c.args.fields.now c.loop-f.f-index c.in-Some.size c.loop-f-test.true (sym c.in-Some.is ∙ c.size_at.ensures)
    c.if-sum-gt4.true)))
