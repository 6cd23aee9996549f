use Rattle.std.proofs.Common.{◌≡◌, drop}
use Rattle.std.specs.Prelude.{fold, max}
use Rattle.affinity.specs.FieldWeights.{hotness_in}
use Rattle.layout_plan.proofs.outlining.greatest_hotness.Given as goal

abbrev pub invariant-loop-f : goal.invariant-loop-f
invariant-loop-f l = fold (λ h f. max h (hotness_in l.w f)) l.greatest (drop l.f-index l.fields) ≡ fold (λ h f. max h (hotness_in l.w f)) 0 l.fields
