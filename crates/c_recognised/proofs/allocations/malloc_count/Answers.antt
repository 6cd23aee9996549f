use Rattle.std.proofs.Common.{rules, ◌≡◌, ap, arith, length, ◌∙◌}
use Rattle.c_recognised.proofs.Calls.{malloc_has_one}
use Rattle.c_recognised.proofs.allocations.malloc_count.Goals as goal
use Rattle.c_recognised.proofs.allocations.malloc_count.Goals.{in_default-via-then-as_mut_slice-lt1, in_default-via-else-as_mut_slice-lt1+else-this-lt2}

pub unreachable-requires : goal.unreachable-requires
unreachable-requires c =
    let one : length c.args.all.now ≡ 1 = malloc_has_one c.args.r c.args.all.now c.requires in
    let same : length c.as_mut_slice.result.now ≡ length c.args.all.now = ap length (c.as_mut_slice.ensures.value ∙ c.as_mut_vec.ensures.value) in
    elim c.in_default.branch [
      | in_default-via-then-as_mut_slice-lt1 w ↦ search (rules, arith, one, same)
      | in_default-via-else-as_mut_slice-lt1+else-this-lt2 w ↦ search (rules, arith, one, same)
    ]
