use Rattle.std.proofs.Common.{◌≡◌, ℕ, ◌+◌, ◌-◌, ◌^◌, ◌<◌, [], ◌∷◌, ◌++◌, arith, length, rules, suc, sym, ap, ◌∙◌}
use Rattle.std.specs.Prelude.{reverse}
use Rattle.std.proofs.lemmas.Iterator.Adapters.{YieldsList-from_rev_slice}
use Rattle.std.proofs.lemmas.Iterator.Consumers.{YieldsList-end, YieldsList-turn}
use Rattle.std.proofs.lemmas.List.{length-reverse, length_push}
use Rattle.c_typed.specs.Trees as T
use Rattle.c_typed.specs.Typed.{at_of}
use Rattle.c_typed.specs.Views.{expression_of, path_of}
use Rattle.c_typed.specs.declared.expression.Expression.{Expression, the_lemmas}
use Rattle.c_meaning.specs.Program.{type_at}
use Rattle.tac_ir.specs.declared.step.Operand.{Operand}
use Rattle.tac_ir.specs.declared.step.Step.TheVariants as S
use Rattle.lower_tac.specs.Expressions.{convert_step}
use Rattle.lower_tac.specs.Grounds.{locals_in, part_in, place_in, program_in}
use Rattle.lower_tac.specs.Parts.{code_of}
use Rattle.lower_tac.specs.Writing.{code_in}
use Rattle.lower_tac.proofs.Counts.{from_back_asks}
use Rattle.lower_tac.proofs.Shown.{address_of_is, branch_is, branch_plain, chosen, converted, decay_is, effect_is, effect_plain, member_is, member_kept, member_placed, one_more, told}
use Rattle.lower_tac.proofs.ground.Ground.+lowering.Goals as goal

pub effect-returns-then-drops : goal.effect-returns-then-drops
effect-returns-then-drops t c = λ h. let r = c.effect_shown.ensures h in (r.0, r.1 ∙ sym (effect_is (program_in c.args.self.now) (locals_in c.args.self.now) (expression_of c.args.e.now) c.args.d (code_in c.args.w.now)))

pub effect-returns-else-drops : goal.effect-returns-else-drops
effect-returns-else-drops t c = λ h. let r = c.value.ensures h in
    (r.0, r.1 ∙ sym (effect_plain (program_in c.args.self.now) (locals_in c.args.self.now) (expression_of c.args.e.now) c.args.d (code_in c.args.w.now) (sym c.drops.ensures ∙ c.if-drops.false)))

pub branch-returns-then-decides : goal.branch-returns-then-decides
branch-returns-then-decides t c = λ h. let r = c.branch_shown.ensures h in
    (r.0, r.1 ∙ sym (branch_is (program_in c.args.self.now) (locals_in c.args.self.now) (expression_of c.args.e.now) c.args.when c.args.to c.args.d (code_in c.args.w.now)))

pub branch-returns-else-decides : goal.branch-returns-else-decides
branch-returns-else-decides t c = λ h.
    let r = c.part.ensures h in
    let s = c.put.ensures r.0 in (
      s.0,
      r.1 ∙ ap (code_of (part_in c.args.self.now c.args.e.now) c.args.d) (s.1 ∙ ap (λ (a : Operand). S.Branch c.args.when a c.args.to ∷ (code_in c.args.w.now)) c.operand.ensures)
          ∙ sym (branch_plain (program_in c.args.self.now) (locals_in c.args.self.now) (expression_of c.args.e.now) c.args.when c.args.to c.args.d (code_in c.args.w.now) (sym c.decides.ensures ∙ c.if-decides.false)),
    )

pub member-returns-then-leads_through : goal.member-returns-then-leads_through
member-returns-then-leads_through t c = λ h. let r = c.member_shown.ensures h in
    (r.0, r.1 ∙ sym (member_is (program_in c.args.self.now) (locals_in c.args.self.now) (path_of c.args.q.now) c.args.at c.args.by c.args.to c.args.d (code_in c.args.w.now)))

pub member-returns-in-Some : goal.member-returns-in-Some
member-returns-in-Some t c = λ h. let r = c.put.ensures h in
    (r.0, r.1 ∙ sym (member_kept (program_in c.args.self.now) (locals_in c.args.self.now) (path_of c.args.q.now) c.args.at c.args.by c.args.to c.args.d (code_in c.args.w.now) _ (sym c.leads_through.ensures ∙ c.if-leads_through.false) (sym c.named_root.ensures ∙ c.in-Some.is)))

pub member-returns-in-None : goal.member-returns-in-None
member-returns-in-None t c = λ h.
    let r = c.place.ensures h in
    let s = c.put-in-None.ensures r.0 in (
      s.0,
      r.1 ∙ ap (code_of (place_in c.args.self.now c.args.q.now) c.args.d)
          (s.1 ∙ ap (λ (a : Operand). S.Part c.args.to c.args.at c.args.by a ∷ (code_in c.args.w.now)) c.left_place.ensures)
          ∙ sym (member_placed (program_in c.args.self.now) (locals_in c.args.self.now) (path_of c.args.q.now) c.args.at c.args.by c.args.to c.args.d (code_in c.args.w.now) (sym c.leads_through.ensures ∙ c.if-leads_through.false) (sym c.named_root.ensures ∙ c.in-None.is)),
    )

pub value-returns-in-AddressOf : goal.value-returns-in-AddressOf
value-returns-in-AddressOf t c = λ h. let r = c.address.ensures h in
    let s : (expression_of c.args.e.now) ≡ T.expression c.args.e.now.ty c.args.e.now.place (T.address_of (path_of c.get-in-AddressOf.result.now)) = search (rules, the_lemmas) in
    (r.0, r.1 ∙ sym (address_of_is (program_in c.args.self.now) (locals_in c.args.self.now) (expression_of c.args.e.now) c.args.e.now.ty c.args.e.now.place (path_of c.get-in-AddressOf.result.now) c.args.to c.args.d (code_in c.args.w.now) s))

pub value-returns-in-Decay : goal.value-returns-in-Decay
value-returns-in-Decay t c = λ h. let r = c.address-in-Decay.ensures h in
    let s : (expression_of c.args.e.now) ≡ T.expression c.args.e.now.ty c.args.e.now.place (T.decay (path_of c.get-in-Decay.result.now)) = search (rules, the_lemmas) in
    (r.0, r.1 ∙ sym (decay_is (program_in c.args.self.now) (locals_in c.args.self.now) (expression_of c.args.e.now) c.args.e.now.ty c.args.e.now.place (path_of c.get-in-Decay.result.now) c.args.to c.args.d (code_in c.args.w.now) s))

pub value-returns-in-Cond : goal.value-returns-in-Cond
value-returns-in-Cond t c = λ h.
    let branch = c.branch-self-in-Cond.ensures h in
    let one = c.value-in-Cond.ensures branch.0 in
    let jump = c.put-in-Cond.ensures one.0 in
    let other = c.value.ensures jump.0 in
    let s : (expression_of c.args.e.now) ≡ T.expression c.args.e.now.ty c.args.e.now.place (T.choose (expression_of c.get-in-Cond-3.result.now) (expression_of c.get-in-Cond-2.result.now) (expression_of c.get-in-Cond.result.now))
    = search (rules, the_lemmas) in (
      other.0,
      chosen (program_in c.args.self.now) (locals_in c.args.self.now) (expression_of c.args.e.now) c.args.e.now.ty c.args.e.now.place (expression_of c.get-in-Cond-3.result.now) (expression_of c.get-in-Cond-2.result.now) (expression_of c.get-in-Cond.result.now) c.args.to c.args.d
          c.here-end.result c.here-other.result (code_in c.args.w.now) (code_in c.value.new.w) (code_in c.put-in-Cond.new.self) (code_in c.value-in-Cond.new.w)
          (code_in c.branch-self-in-Cond.new.w) s c.here-end.ensures other.1 c.here-other.ensures jump.1 one.1 branch.1,
    )

pub value-returns-else-is_void : goal.value-returns-else-is_void
value-returns-else-is_void t c = λ h.
    let part = c.part.ensures h in
    let step = c.put_conversion.ensures part.0 in
    let s : (expression_of c.args.e.now) ≡ T.expression c.args.e.now.ty c.args.e.now.place (T.convert (expression_of c.in-Convert.x) c.in-Convert.field-1) = search (rules, the_lemmas) in
    let same : c.get-else-is_void.result.now ≡ c.in-Convert.x = search rules in (
      step.0,
      converted (program_in c.args.self.now) (locals_in c.args.self.now) (expression_of c.args.e.now) c.args.e.now.ty c.args.e.now.place (expression_of c.in-Convert.x) c.in-Convert.field-1 c.args.to c.args.d
          c.operand.result (code_in c.args.w.now) (code_in c.put_conversion.new.w) (code_in c.part.new.w) s (sym c.is_void.ensures ∙ c.if-is_void.false)
          (search rules) (step.1 ∙ ap (λ (x : Expression ℕ). convert_step (type_at (program_in c.args.self.now) c.args.e.now.ty) (at_of (expression_of x)) c.args.to c.operand.result (code_in c.args.w.now)) same)
          (search rules),
    )

pub arguments-returns : goal.arguments-returns
arguments-returns t c = λ h.
    let end = YieldsList-end (YieldsList-from_rev_slice c.args.all.now cc) c.loop-e.yielded _ c.loop-e.yielded_by _ _ c.in-None.is c.next.ensures.steps in
    let made = c.loop-e.invariant.1 h in
    (made.0, told (program_in c.args.self.now) (locals_in c.args.self.now) c.loop-e.yielded c.args.all.now c.loop-e.at c.args.d (code_in c.args.w.now) (code_in c.loop-e.w) end.0 c.loop-e.invariant.0 made.1)

pub arguments-temporary_below-at-requires-clause-some : goal.arguments-temporary_below-at-requires-clause-some
arguments-temporary_below-at-requires-clause-some t c =
    let turn = YieldsList-turn (YieldsList-from_rev_slice c.args.all.now cc) c.loop-e.yielded _ c.loop-e.yielded_by _ _ _ c.in-Some.is c.next.ensures.steps in
    let all : length (reverse c.args.all.now) ≡ length c.args.all.now = length-reverse c.args.all.now in omega (arith, c.loop-e.invariant.0, turn.0, all)

pub arguments-temporary_below-at-requires-clause-few : goal.arguments-temporary_below-at-requires-clause-few
arguments-temporary_below-at-requires-clause-few t c =
    let turn = YieldsList-turn (YieldsList-from_rev_slice c.args.all.now cc) c.loop-e.yielded _ c.loop-e.yielded_by _ _ _ c.in-Some.is c.next.ensures.steps in
    let asks = from_back_asks c.args.all.now (length c.loop-e.yielded) c.loop-e.at c.args.d c.in-Some.e.now turn.0 turn.1 c.loop-e.invariant.0 in
    omega (arith, asks, c.requires)

pub arguments-loop-e-preserved : goal.arguments-loop-e-preserved
arguments-loop-e-preserved t c =
    let turn = YieldsList-turn (YieldsList-from_rev_slice c.args.all.now cc) c.loop-e.yielded _ c.loop-e.yielded_by _ _ _ c.in-Some.is c.next.ensures.steps in
    let all : length (reverse c.args.all.now) ≡ length c.args.all.now = length-reverse c.args.all.now in
    let n = c.temporary_below-at.result in
    let one : n ≡ c.loop-e.at - 1 = c.temporary_below-at.ensures.is in
    let count : n + length (c.loop-e.yielded ++ c.in-Some.e ∷ []) ≡ c.args.d + length c.args.all.now =
    omega (arith, one, c.loop-e.invariant.0, turn.0, all, length_push c.loop-e.yielded c.in-Some.e) in
    let place : c.loop-e.at ≡ suc n = omega (arith, one, c.loop-e.invariant.0, turn.0, all) in (
      count,
      λ h.
          let value = c.value.ensures h in
          let test = c.put_test.ensures value.0 in
          let made = c.loop-e.invariant.1 test.0 in (
            made.0,
            one_more (program_in c.args.self.now) (locals_in c.args.self.now) c.loop-e.yielded c.in-Some.e c.loop-e.at n (code_in c.args.w.now)
                (code_in c.loop-e.w) (code_in c.put_test.new.w) (code_in c.value.new.w) place made.1 test.1 value.1,
          ),
    )
