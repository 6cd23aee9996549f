use Rattle.std.proofs.Common.{◌∙◌, ◌++◌, ◌∷◌, [], ap, map, sym, take, List, ℕ, Bool}
use Rattle.std.proofs.lemmas.List.{map-append, take_more}
use Rattle.affinity.specs.Touched.{common}
use Rattle.affinity.proofs.of_record.rows.Goals as goal

pub loop-one-preserved : goal.loop-one-preserved
loop-one-preserved c =
    let l = c.loop-one in
    let columns = c.as_slice-one-items.result.now in
    let one = c.one-item.result in
    let sums : List Bool → List ℕ = λ one. map (λ other. common 0 c.args.weights.now one other) c.args.columns.now in
    c.in_ok-add.ensures.added
    ∙ ap (λ all. all ++ c.in_ok-sums.sums ∷ []) l.invariant
    ∙ ap (λ x. map sums (take l.one-index columns) ++ x ∷ []) (c.in_ok-sums.ensures ∙ ap sums c.one-item.is)
    ∙ sym (ap (map sums) (take_more columns l.one-index one c.loop-one-test.true) ∙ map-append sums (take l.one-index columns) (_ ∷ []))
