use Rattle.std.proofs.Common.{◌≡◌, ◌+◌, ◌-◌, ◌*◌, ◌^◌, ◌≤◌, drop}
use Rattle.affinity.specs.Touched.{common}
use Rattle.affinity.proofs.sums.common.Given as goal

abbrev pub invariant-loop-group : goal.invariant-loop-group
invariant-loop-group l = (l.sum ≤ l.group * (2 ^ 64 - 1))
    × (l.sum + common l.group (drop l.group l.weights) l.ones l.others ≡ common 0 l.weights l.ones l.others)
