use Rattle.std.proofs.Common.{◌∙◌, ◌+◌, sym, rules, subst}
use Rattle.std.proofs.lemmas.List.Sorted.{answers_always}
use Rattle.std.specs.Prelude.{slice_index_or}
use Rattle.std.specs.List.Sorted.{IsPermutation}
use Rattle.c_typed.specs.RunCounts.Order.{defined_in}
use Rattle.c_typed.specs.Programs.{program_data}
use Rattle.c_typed.proofs.RunCounts.Orders.{key_order, sorted_is_order}
use Rattle.c_typed.proofs.run_counts.order.profile_order.Goals as goal

pub returns : goal.returns
returns c =
    let done = c.sort_unstable_by_key.ensures in
    let up = done.sorted (λ f. (f.place.file, f.place.at, f.number)) (answers_always _ _ _ (λ f a r g h. search rules)) in
    let moved : IsPermutation (defined_in (program_data c.args.p.now)) c.sort_unstable_by_key.new.self.items
    = subst (λ xs. IsPermutation xs c.sort_unstable_by_key.new.self.items) c.in_ok-order.ensures done.permutation in
    sorted_is_order (program_data c.args.p.now) c.sort_unstable_by_key.new.self.items
    moved
    (λ k d low lt. sym (key_order (slice_index_or c.sort_unstable_by_key.new.self.items (k + 1) d) (slice_index_or c.sort_unstable_by_key.new.self.items k d)) ∙ up k d low lt)
