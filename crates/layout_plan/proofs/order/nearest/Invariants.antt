use Rattle.std.proofs.Common.{◌≡◌, drop}
use Rattle.std.specs.Prelude.{fold, Some}
use Rattle.layout_plan.specs.Order.{nearer, nearest}
use Rattle.layout_plan.proofs.order.nearest.Given as goal

abbrev pub invariant-loop-f : goal.invariant-loop-f
invariant-loop-f l = Some (fold (nearer l.w l.last) l.best (drop l.f-index l.f-items)) ≡ nearest l.w l.last l.fields
