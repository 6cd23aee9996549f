use Rattle.std.proofs.Common.{◌≡◌, ◌≤◌, ◌-◌}
use Rattle.c_meaning.specs.Run.{numbers}
use Rattle.lower_tac.proofs.functions.numbers.Given as goal

abbrev pub invariant-loop-next : goal.invariant-loop-next
invariant-loop-next l = (l.next ≤ l.count) × (l.all.items ≡ numbers l.next)

abbrev pub decreases-loop-next : goal.decreases-loop-next
decreases-loop-next l = l.count - l.next
