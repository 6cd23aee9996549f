use Rattle.std.proofs.Common.{◌≡◌, ◌++◌, drop}
use Rattle.layout_plan.specs.Order.{others}
use Rattle.layout_plan.proofs.order.others.Given as goal

abbrev pub invariant-loop-g : goal.invariant-loop-g
invariant-loop-g l = l.rest ++ others l.f (drop l.g-index l.fields) ≡ others l.f l.fields
