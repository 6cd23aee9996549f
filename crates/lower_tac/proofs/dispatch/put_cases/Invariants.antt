use Rattle.std.proofs.Common.{◌≤◌, length, drop}
use Rattle.lower_tac.specs.Statements.{cases_code}
use Rattle.lower_tac.specs.Writing.{Wrote}
use Rattle.lower_tac.proofs.dispatch.put_cases.Given as goal

abbrev pub invariant-loop-left : goal.invariant-loop-left
invariant-loop-left l = (l.left ≤ length l.cases) × Wrote l.fn.w l.w (cases_code l.a l.start (drop l.left l.cases))

abbrev pub decreases-loop-left : goal.decreases-loop-left
decreases-loop-left l = l.left
