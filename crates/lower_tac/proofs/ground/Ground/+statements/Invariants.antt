use Rattle.std.proofs.Common.{◌+◌, ◌≤◌, map}
use Rattle.std.specs.Prelude.{reverse}
use Rattle.c_typed.specs.Views.{arm_of, arms_of, statement_of, statements_of}
use Rattle.lower_tac.specs.Drafts.{ArmsDrafted, Drafted}
use Rattle.lower_tac.specs.Grounds.{locals_in, program_in}
use Rattle.lower_tac.specs.Statements.{arms_code, statements_code}
use Rattle.lower_tac.proofs.Counts.{asked_by_made, asked_by_made_arms}
use Rattle.lower_tac.proofs.ground.Ground.+statements.Given as goal

abbrev pub invariant-statements-loop-s : goal.invariant-statements-loop-s
invariant-statements-loop-s l = Drafted l.fn.draft l.draft
    (statements_code (program_in l.self) l.self.number (locals_in l.self) (statements_of (map statement_of (reverse (map (λ s. s.now) l.yielded)))) l.x)
    × (l.draft.loops ≤ l.fn.draft.loops + asked_by_made (reverse (map (λ s. s.now) l.yielded)))

abbrev pub invariant-arms-loop-arm : goal.invariant-arms-loop-arm
invariant-arms-loop-arm l = ArmsDrafted l.fn.draft l.draft (reverse l.fn.starts.items) (reverse l.starts.items)
    (arms_code (program_in l.self) l.self.number (locals_in l.self) (arms_of (map arm_of (reverse (map (λ s. s.now) l.yielded)))) l.x)
    × (l.draft.loops ≤ l.fn.draft.loops + asked_by_made_arms (reverse (map (λ s. s.now) l.yielded)))
