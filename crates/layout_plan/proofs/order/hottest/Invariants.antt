use Rattle.std.proofs.Common.{◌≡◌, drop}
use Rattle.std.specs.Prelude.{fold, Some}
use Rattle.layout_plan.specs.Order.{hotter, hottest}
use Rattle.layout_plan.proofs.order.hottest.Given as goal

abbrev pub invariant-loop-f : goal.invariant-loop-f
invariant-loop-f l = Some (fold (hotter l.w) l.best (drop l.f-index l.f-items)) ≡ hottest l.w l.fields
