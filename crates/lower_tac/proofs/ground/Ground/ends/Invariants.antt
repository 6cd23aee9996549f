use Rattle.std.proofs.Common.{◌≤◌, length, drop}
use Rattle.lower_tac.specs.Grounds.{locals_in, program_in}
use Rattle.lower_tac.specs.Statements.{ends_code}
use Rattle.lower_tac.specs.Writing.{Wrote}
use Rattle.lower_tac.proofs.ground.Ground.ends.Given as goal

abbrev pub invariant-loop-left : goal.invariant-loop-left
invariant-loop-left l = (l.left ≤ length l.own) × Wrote l.fn.w l.w (ends_code (program_in l.self) l.self.number (locals_in l.self) (drop l.left l.own))

abbrev pub decreases-loop-left : goal.decreases-loop-left
decreases-loop-left l = l.left
