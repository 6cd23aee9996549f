use Rattle.std.proofs.Common.{◌∙◌, ◌+◌, sym, rules, subst}
use Rattle.std.proofs.lemmas.List.Sorted.{answers_always}
use Rattle.std.specs.Prelude.{slice_index_or}
use Rattle.std.specs.List.Sorted.{IsPermutation}
use Rattle.c_typed.proofs.RunCounts.Orders.{key_order}
use Rattle.lay_report.proofs.reporting.report_order.Goals as goal

pub returns : goal.returns
returns c =
    let done = c.sort_unstable_by_key.ensures in
    let sorted = c.sort_unstable_by_key.new.self.items in
    let up = done.sorted (λ f. (f.place.file, f.place.at, f.number)) (answers_always _ _ _ (λ f a r g h. search rules)) in
    record {
      permutation = subst (λ xs. IsPermutation xs sorted) (rw c.as_slice.ensures at c.in_ok-order.ensures) done.permutation;
      sorted = λ k d low lt. sym (key_order (slice_index_or sorted (k + 1) d) (slice_index_or sorted k d)) ∙ up k d low lt;
    }
