use Rattle.std.proofs.Common.{rules, ◌≡◌, ap, arith, length, ◌∙◌}
use Rattle.c_recognised.proofs.Calls.{calloc_has_two}
use Rattle.c_recognised.proofs.allocations.calloc_count.Goals as goal
use Rattle.c_recognised.proofs.allocations.calloc_count.Goals.{in_default-via-then-as_mut_slice-lt2, in_default-via-else-as_mut_slice-lt2+else-this-lt3}

pub unreachable-requires : goal.unreachable-requires
unreachable-requires c =
    let two : length c.args.all.now ≡ 2 = calloc_has_two c.args.r c.args.all.now c.requires in
    let same : length c.as_mut_slice.result.now ≡ length c.args.all.now = ap length (c.as_mut_slice.ensures.value ∙ c.as_mut_vec.ensures.value) in
    elim c.in_default.branch [
      | in_default-via-then-as_mut_slice-lt2 w ↦ search (rules, arith, two, same)
      | in_default-via-else-as_mut_slice-lt2+else-this-lt3 w ↦ search (rules, arith, two, same)
    ]
