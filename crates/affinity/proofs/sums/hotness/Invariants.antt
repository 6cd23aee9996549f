use Rattle.std.proofs.Common.{◌≡◌, ◌+◌, ◌-◌, ◌*◌, ◌^◌, ◌≤◌, drop}
use Rattle.affinity.specs.Sums.{hotness}
use Rattle.affinity.proofs.sums.hotness.Given as goal

abbrev pub invariant-loop-a : goal.invariant-loop-a
invariant-loop-a l = (l.sum ≤ l.a-index * (2 ^ 64 - 1))
    × (l.sum + hotness l.groups l.of l.field (drop l.a-index l.all) ≡ hotness l.groups l.of l.field l.all)
