use Rattle.std.proofs.Common.{◌≡◌, ◌∙◌, IfOk, ap, length, map, subst}
use Rattle.affinity.specs.Touched.{common, kept, touched_at_all}
use Rattle.affinity.proofs.Kept.{rows_are}
use Rattle.affinity.proofs.of_record.affinities.Goals as goal

pub returns : goal.returns
returns c =
    let groups = c.args.groups.now in
    let of = c.args.of in
    let all = c.args.all.now in
    let marks_are : c.in_ok-marks.marks ≡ touched_at_all (length groups) all =
    c.in_ok-marks.ensures ∙ ap (λ n. touched_at_all n c.as_slice.result.now) c.len.ensures ∙ ap (touched_at_all (length groups)) c.as_slice.ensures in
    let weights_are : c.in_ok-weights.weights ≡ kept 0 c.in_ok-marks.marks groups =
    c.in_ok-weights.ensures ∙ ap (λ marks. kept 0 marks c.as_slice-3.result.now) c.as_slice-2.ensures ∙ ap (kept 0 c.in_ok-marks.marks) c.as_slice-3.ensures in
    subst (λ it. IfOk c.rows.result (λ rows. rows ≡ it))
    (ap (λ weights. map (λ one. map (λ other. common 0 weights one other) c.in_ok-columns.columns) c.in_ok-columns.columns) weights_are
    ∙ ap (λ columns. map (λ one. map (λ other. common 0 (kept 0 c.in_ok-marks.marks groups) one other) columns) columns) c.in_ok-columns.ensures
    ∙ rows_are groups of all c.in_ok-marks.marks marks_are c.args.count)
    c.rows.ensures
