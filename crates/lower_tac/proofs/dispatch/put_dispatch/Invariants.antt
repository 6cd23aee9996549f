use Rattle.std.proofs.Common.{◌≤◌, length, map, drop}
use Rattle.c_typed.specs.Views.{arm_of, arms_of}
use Rattle.lower_tac.specs.Statements.{dispatch_code}
use Rattle.lower_tac.specs.Writing.{Wrote}
use Rattle.lower_tac.proofs.dispatch.put_dispatch.Given as goal

abbrev pub invariant-loop-left : goal.invariant-loop-left
invariant-loop-left l = (l.left ≤ length l.arms) × (l.left ≤ length l.starts) × Wrote l.fn.w l.w (dispatch_code l.a (arms_of (map arm_of (drop l.left l.arms))) (drop l.left l.starts))

abbrev pub decreases-loop-left : goal.decreases-loop-left
decreases-loop-left l = l.left
