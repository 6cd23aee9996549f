use Rattle.std.proofs.Common.{◌≡◌, ◌++◌, ℕ, List, length, map, ap, ◌∙◌, arith, Bor}
use Rattle.std.specs.Prelude.{reverse}
use Rattle.std.proofs.lemmas.Iterator.Adapters.{YieldsList-from_rev_slice}
use Rattle.std.proofs.lemmas.Iterator.Consumers.{YieldsList-end, YieldsList-so_far, YieldsList-turn}
use Rattle.c_typed.specs.Views.{arm_of, arms_of, statement_of, statements_of}
use Rattle.c_typed.specs.declared.statement.Arm.{Arm}
use Rattle.c_typed.specs.declared.statement.Statement.{Statement}
use Rattle.lower_tac.specs.Drafts.{out_in}
use Rattle.lower_tac.specs.Grounds.{locals_in, program_in}
use Rattle.lower_tac.specs.Statements.{ArmsOut, arms_code, statements_code}
use Rattle.lower_tac.proofs.ArmsMade.{arm_more}
use Rattle.lower_tac.proofs.Counts.{arm_asks, arms_more, asked_by_made, asked_by_made_arms, statement_asks}
use Rattle.lower_tac.proofs.Shown.{back_is}
use Rattle.lower_tac.proofs.ground.Ground.+statements.Goals as goal

pub statements-returns-clause-is : goal.statements-returns-clause-is
statements-returns-clause-is t c = λ h.
    let back : reverse (map (λ (s : Bor (Statement ℕ)). s.now) c.loop-s.yielded) ≡ c.args.all.now = back_is c.loop-s.yielded c.args.all.now (YieldsList-end (YieldsList-from_rev_slice c.args.all.now cc) c.loop-s.yielded _ c.loop-s.yielded_by _ _ c.in-None.is c.next.ensures.steps).0 in
    let made = c.loop-s.invariant.0 h in (
      made.0,
      made.1 ∙ ap (λ (all : List (Statement ℕ)). statements_code (program_in c.args.self.now) c.args.self.now.number (locals_in c.args.self.now) (statements_of (map statement_of all))
          c.args.x (out_in c.args.draft.now)) back,
    )

pub arms-returns-clause-is : goal.arms-returns-clause-is
arms-returns-clause-is t c = λ h.
    let back : reverse (map (λ (s : Bor (Arm ℕ)). s.now) c.loop-arm.yielded) ≡ c.args.all.now = back_is c.loop-arm.yielded c.args.all.now (YieldsList-end (YieldsList-from_rev_slice c.args.all.now cc) c.loop-arm.yielded _ c.loop-arm.yielded_by _ _ c.in-None.is c.next.ensures.steps).0 in
    let made = c.loop-arm.invariant.0 h in
    let whole : arms_code (program_in c.args.self.now) c.args.self.now.number (locals_in c.args.self.now) (arms_of (map arm_of (reverse (map (λ (s : Bor (Arm ℕ)). s.now) c.loop-arm.yielded)))) c.args.x (out_in c.args.draft.now)
    ≡ arms_code (program_in c.args.self.now) c.args.self.now.number (locals_in c.args.self.now) (arms_of (map arm_of c.args.all.now)) c.args.x (out_in c.args.draft.now)
    = ap (λ (all : List (Arm ℕ)). arms_code (program_in c.args.self.now) c.args.self.now.number (locals_in c.args.self.now) (arms_of (map arm_of all)) c.args.x (out_in c.args.draft.now)) back in
    (made.0, made.1 ∙ ap (λ (o : ArmsOut). o.starts ++ reverse c.args.starts.now.items) whole, made.2 ∙ ap (λ (o : ArmsOut). o.out) whole)

pub arms-loop-arm-preserved : goal.arms-loop-arm-preserved
arms-loop-arm-preserved t c =
    let l = c.loop-arm in (
      λ h.
          let start = c.start_arm.ensures.1 h in
          let made = c.statements.ensures.is start.0 in
          let before = l.invariant.0 made.0 in
          let next = arm_more (program_in c.args.self.now) c.args.self.now.number (locals_in c.args.self.now) c.args.x l.yielded c.in-Some.arm (out_in c.args.draft.now) (out_in l.draft)
          (out_in c.statements.new.draft) (reverse c.args.starts.now.items) (reverse l.starts.items) (reverse c.start_arm.new.starts.items) before.1 before.2 made.1 start.1 in
          (before.0, next.0, start.2 ∙ next.1),
      let more = arms_more l.yielded c.in-Some.arm in omega (arith, l.invariant.1, c.statements.ensures.loops, c.start_arm.ensures.0, more),
    )

pub statements-returns-clause-loops : goal.statements-returns-clause-loops
statements-returns-clause-loops t c =
    let back : reverse (map (λ (s : Bor (Statement ℕ)). s.now) c.loop-s.yielded) ≡ c.args.all.now = back_is c.loop-s.yielded c.args.all.now (YieldsList-end (YieldsList-from_rev_slice c.args.all.now cc) c.loop-s.yielded _ c.loop-s.yielded_by _ _ c.in-None.is c.next.ensures.steps).0 in
    let same = ap asked_by_made back in omega (arith, c.loop-s.invariant.1, same)

pub arms-returns-clause-loops : goal.arms-returns-clause-loops
arms-returns-clause-loops t c =
    let back : reverse (map (λ (s : Bor (Arm ℕ)). s.now) c.loop-arm.yielded) ≡ c.args.all.now = back_is c.loop-arm.yielded c.args.all.now (YieldsList-end (YieldsList-from_rev_slice c.args.all.now cc) c.loop-arm.yielded _ c.loop-arm.yielded_by _ _ c.in-None.is c.next.ensures.steps).0 in
    let same = ap asked_by_made_arms back in omega (arith, c.loop-arm.invariant.1, same)

pub statements-has_numbers-requires-clause-few : goal.statements-has_numbers-requires-clause-few
statements-has_numbers-requires-clause-few t c =
    let l = c.loop-s in
    let yields = YieldsList-from_rev_slice c.args.all.now cc in
    let turn = YieldsList-turn yields l.yielded _ l.yielded_by _ _ _ c.in-Some.is c.next.ensures.steps in
    let asks = statement_asks c.args.all.now (map (λ (s : Bor (Statement ℕ)). s.now) l.yielded) (length l.yielded) c.in-Some.s.now
    (YieldsList-so_far yields l.yielded _ l.yielded_by) turn.0 turn.1 in
    omega (arith, asks, c.requires.few)

pub statements-has_numbers-requires-clause-loops : goal.statements-has_numbers-requires-clause-loops
statements-has_numbers-requires-clause-loops t c =
    let l = c.loop-s in
    let yields = YieldsList-from_rev_slice c.args.all.now cc in
    let turn = YieldsList-turn yields l.yielded _ l.yielded_by _ _ _ c.in-Some.is c.next.ensures.steps in
    let asks = statement_asks c.args.all.now (map (λ (s : Bor (Statement ℕ)). s.now) l.yielded) (length l.yielded) c.in-Some.s.now
    (YieldsList-so_far yields l.yielded _ l.yielded_by) turn.0 turn.1 in
    omega (arith, asks, l.invariant.1, c.requires.loops)

pub arms-has_numbers_for_all-requires-clause-few : goal.arms-has_numbers_for_all-requires-clause-few
arms-has_numbers_for_all-requires-clause-few t c =
    let l = c.loop-arm in
    let yields = YieldsList-from_rev_slice c.args.all.now cc in
    let turn = YieldsList-turn yields l.yielded _ l.yielded_by _ _ _ c.in-Some.is c.next.ensures.steps in
    let asks = arm_asks c.args.all.now (map (λ (s : Bor (Arm ℕ)). s.now) l.yielded) (length l.yielded) c.in-Some.arm.now
    (YieldsList-so_far yields l.yielded _ l.yielded_by) turn.0 turn.1 in
    omega (arith, asks, c.requires.few)

pub arms-has_numbers_for_all-requires-clause-loops : goal.arms-has_numbers_for_all-requires-clause-loops
arms-has_numbers_for_all-requires-clause-loops t c =
    let l = c.loop-arm in
    let yields = YieldsList-from_rev_slice c.args.all.now cc in
    let turn = YieldsList-turn yields l.yielded _ l.yielded_by _ _ _ c.in-Some.is c.next.ensures.steps in
    let asks = arm_asks c.args.all.now (map (λ (s : Bor (Arm ℕ)). s.now) l.yielded) (length l.yielded) c.in-Some.arm.now
    (YieldsList-so_far yields l.yielded _ l.yielded_by) turn.0 turn.1 in
    omega (arith, asks, l.invariant.1, c.requires.loops)
