use Rattle.std.proofs.Common.{◌≡◌, ◌∙◌, IfOk, ap, subst}
use Rattle.affinity.specs.Touched.{own}
use Rattle.affinity.proofs.Own.{own_hotnesses}
use Rattle.affinity.proofs.of_record.hotnesses.Goals as goal

pub returns : goal.returns
returns c =
    let w = c.args.w.now in
    let own_are = c.in_ok-all.ensures ∙ ap (own c.args.of) c.as_slice.ensures in
    subst (λ it. IfOk c.sums.result (λ all. all ≡ it)) (own_hotnesses c.args.of c.args.count c.in_ok-all.all w.accesses own_are w.groups) c.sums.ensures
