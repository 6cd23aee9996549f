use Rattle.std.proofs.Common.{◌≡◌, drop, fold}
use Rattle.layout_plan.specs.Order.{groups, joined}
use Rattle.layout_plan.proofs.order.groups.Given as goal

abbrev pub invariant-loop-f : goal.invariant-loop-f
invariant-loop-f l = fold (joined l.w 8) l.groups (drop l.f-index l.fields) ≡ groups l.w l.fields
