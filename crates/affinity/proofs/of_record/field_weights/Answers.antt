use Rattle.std.proofs.Common.{◌∙◌, ap, ℕ, Bool, List, map}
use Rattle.c_typed.specs.RunCounts.Counting.{numbers_below}
use Rattle.affinity.specs.FieldWeights.{hotnesses}
use Rattle.affinity.specs.Sums.{is_read}
use Rattle.affinity.specs.declared.weights.Weights.{Weights}
use Rattle.affinity.specs.Touched.{own}
use Rattle.affinity.specs.declared.fields.FieldWeights.{FieldWeights}
use Rattle.affinity.proofs.Own.{own_affinities, own_hotnesses, own_reads}
use Rattle.affinity.proofs.of_record.field_weights.Goals as goal

abbrev the_record : List Bool → List ℕ → List (List ℕ) → FieldWeights
the_record read hotness affinity = record { read = read; hotness = hotness; affinity = affinity }

abbrev reads_of : Weights → (of count : ℕ) → List Bool
reads_of w of count = map (λ f. is_read of f w.accesses) (numbers_below count)

pub returns : goal.returns
returns c =
    let w = c.args.w.now in
    let of = c.args.of in
    let count = c.args.count in
    let all = c.in_ok-all.all in
    let read = reads_of w of count in
    let own_are = c.in_ok-all.ensures ∙ ap (own of) c.as_slice.ensures in
    ap (λ it. the_record it c.in_ok-hotness.hotness c.in_ok-affinity.affinity) (c.in_ok-read.ensures ∙ own_reads of count all w.accesses own_are)
    ∙ ap (λ it. the_record read it c.in_ok-affinity.affinity) (c.in_ok-hotness.ensures ∙ own_hotnesses of count all w.accesses own_are w.groups)
    ∙ ap (the_record read (hotnesses w of count)) (c.in_ok-affinity.ensures ∙ own_affinities of count all w.accesses own_are w.groups)
