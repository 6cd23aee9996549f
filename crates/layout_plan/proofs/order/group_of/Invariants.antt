use Rattle.std.proofs.Common.{◌≡◌, ◌+◌, ◌-◌, drop}
use Rattle.layout_plan.specs.Joining.{group_of}
use Rattle.layout_plan.proofs.order.group_of.Given as goal

abbrev pub invariant-loop-number : goal.invariant-loop-number
invariant-loop-number l = l.number + group_of l.w (8 - l.number) (drop l.number l.groups) l.f ≡ group_of l.w 8 l.groups l.f
