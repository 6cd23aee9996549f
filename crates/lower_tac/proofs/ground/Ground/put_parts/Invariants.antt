use Rattle.std.proofs.Common.{◌≡◌, ◌≤◌, length, map, drop}
use Rattle.c_typed.specs.Views.{part_of}
use Rattle.lower_tac.specs.Drafts.{Drafted}
use Rattle.lower_tac.specs.Grounds.{locals_in, program_in}
use Rattle.lower_tac.specs.Statements.{parts_code}
use Rattle.lower_tac.proofs.ground.Ground.put_parts.Given as goal

abbrev pub invariant-loop-left : goal.invariant-loop-left
invariant-loop-left l = (l.left ≤ length l.all) × Drafted l.fn.draft l.draft (parts_code (program_in l.self) l.self.number (locals_in l.self) l.x (map part_of (drop l.left l.all)))
    × (l.draft.loops ≡ l.fn.draft.loops)

abbrev pub decreases-loop-left : goal.decreases-loop-left
decreases-loop-left l = l.left
