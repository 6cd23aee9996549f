use Rattle.std.proofs.Common.{◌≡◌, ◌++◌}
use Rattle.layout_plan.specs.Order.{followed, placed}
use Rattle.layout_plan.proofs.order.placed.Given as goal

abbrev pub invariant-loop-left : goal.invariant-loop-left
invariant-loop-left l = l.done ++ followed l.w l.left l.next l.rest ≡ placed l.w l.fn.fields

abbrev pub decreases-loop-left : goal.decreases-loop-left
decreases-loop-left l = l.left
