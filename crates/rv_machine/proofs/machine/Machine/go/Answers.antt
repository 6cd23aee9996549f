use Rattle.std.proofs.Common.{◌≡◌, ℕ, ◌+◌, ◌-◌, refl, subst, ap, arith, ◌∙◌}
use Rattle.rv_isa.specs.Step.{State}
use Rattle.rv_machine.specs.Harts.{places_of, state_of, with_pc}
use Rattle.rv_machine.proofs.Reaching.{reached_none}
use Rattle.rv_machine.proofs.Ending.{comes_to, fails_reading, fails_writing, runs_still, reached_next, steady_none, steady_then}
use Rattle.rv_machine.specs.declared.hart.Hart.{Hart}
use Rattle.rv_machine.specs.Advances.{Streams}
use Rattle.rv_machine.proofs.machine.Machine.go.Invariants.{Far}
use Rattle.rv_machine.proofs.machine.Machine.go.Goals as goal

far_at : (hart here : Hart) (before now : Streams) (i j : ℕ) → i ≡ j → Far hart here before now i → Far hart here before now j
far_at hart here before now i j same far = subst (Far hart here before now) same far

pub loop-left-init : goal.loop-left-init
loop-left-init g c = record {
  count = omega arith;
  far = far_at _ _ _ _ 0 _ (omega arith) (record {
    placed = refl;
    steady = steady_none _;
    reached = λ input known. reached_none (places_of c.args.self.now.hart) (state_of c.args.self.now.hart) _ input known;
  });
}

pub loop-left-preserved : goal.loop-left-preserved
loop-left-preserved g c =
    let far = c.loop-left.invariant.far in
    let count = c.loop-left.invariant.count in
    record {
      count = omega arith;
      far = far_at _ _ _ _ (c.args.limit - c.loop-left.left + 1) _ (omega arith) (record {
        placed = c.advance.ensures.places ∙ far.placed;
        steady = steady_then _ _ _ far.steady c.in-Goes.ensures.gives.0;
        reached = reached_next c.args.self.now.hart (with_pc c.loop-left.self.hart c.loop-left.pc) (with_pc c.advance.new.self.hart c.advance.new.pc) _ _ _ (c.args.limit - c.loop-left.left) far.placed
            far.reached c.in-Goes.ensures.gives.1;
      });
    }

pub returns-in-Exits : goal.returns-in-Exits
returns-in-Exits g c =
    let far = c.loop-left.invariant.far in
    rw c.stop.ensures.end
    (comes_to c.args.self.now.hart (with_pc c.loop-left.self.hart c.loop-left.pc) (with_pc c.advance.new.self.hart c.advance.new.pc) _ _ _ c.args.limit (c.args.limit - c.loop-left.left) c.stop.new.self far.placed
    far.steady far.reached c.stop.ensures.hart _ c.in-Exits.ensures.gives c.stop.ensures.steps (omega arith))

pub returns-in-Traps : goal.returns-in-Traps
returns-in-Traps g c =
    let far = c.loop-left.invariant.far in
    let there : c.advance.new.pc ≡ c.loop-left.pc = ap (λ (s : State). s.pc) c.in-Traps.ensures.gives.1 in
    rw (c.stop-in-Traps.ensures.end, there)
    (comes_to c.args.self.now.hart (with_pc c.loop-left.self.hart c.loop-left.pc) (with_pc c.advance.new.self.hart c.advance.new.pc) _ _ _ c.args.limit (c.args.limit - c.loop-left.left) c.stop-in-Traps.new.self
    far.placed far.steady far.reached c.stop-in-Traps.ensures.hart _ c.in-Traps.ensures.gives c.stop-in-Traps.ensures.steps (omega arith))

pub returns-in-Breaks : goal.returns-in-Breaks
returns-in-Breaks g c =
    let far = c.loop-left.invariant.far in
    let there : c.advance.new.pc ≡ c.loop-left.pc = ap (λ (s : State). s.pc) c.in-Breaks.ensures.gives.1 in
    rw (c.stop-in-Breaks.ensures.end, there)
    (comes_to c.args.self.now.hart (with_pc c.loop-left.self.hart c.loop-left.pc) (with_pc c.advance.new.self.hart c.advance.new.pc) _ _ _ c.args.limit (c.args.limit - c.loop-left.left) c.stop-in-Breaks.new.self
    far.placed far.steady far.reached c.stop-in-Breaks.ensures.hart _ c.in-Breaks.ensures.gives c.stop-in-Breaks.ensures.steps
    (omega arith))

pub returns-in-ReadFails : goal.returns-in-ReadFails
returns-in-ReadFails g c =
    let far = c.loop-left.invariant.far in
    let gives = c.in-ReadFails.ensures.gives in
    rw c.stop-in-ReadFails.ensures.end
    (fails_reading c.args.self.now.hart (with_pc c.loop-left.self.hart c.loop-left.pc) (with_pc c.advance.new.self.hart c.advance.new.pc) _ _ _ c.args.limit (c.args.limit - c.loop-left.left) c.stop-in-ReadFails.new.self
    far.placed far.steady far.reached c.stop-in-ReadFails.ensures.hart gives.0 gives.1 gives.2 gives.3 gives.4 c.stop-in-ReadFails.ensures.steps
    (omega arith))

pub returns-in-WriteFails : goal.returns-in-WriteFails
returns-in-WriteFails g c =
    let far = c.loop-left.invariant.far in
    let gives = c.in-WriteFails.ensures.gives in
    rw c.stop-in-WriteFails.ensures.end
    (fails_writing c.args.self.now.hart (with_pc c.loop-left.self.hart c.loop-left.pc) (with_pc c.advance.new.self.hart c.advance.new.pc) _ _ _ c.args.limit (c.args.limit - c.loop-left.left)
    c.stop-in-WriteFails.new.self far.placed far.steady far.reached c.stop-in-WriteFails.ensures.hart gives.0 gives.1 gives.2 gives.3 gives.4
    c.stop-in-WriteFails.ensures.steps (omega arith))

pub returns : goal.returns
returns g c =
    let far = c.loop-left.invariant.far in
    rw c.stop-2.ensures.end
    (runs_still c.args.self.now.hart (with_pc c.loop-left.self.hart c.loop-left.pc) _ _ c.args.limit (c.args.limit - c.loop-left.left) c.stop-2.new.self far.steady far.reached
    c.stop-2.ensures.hart c.stop-2.ensures.steps (omega arith))
