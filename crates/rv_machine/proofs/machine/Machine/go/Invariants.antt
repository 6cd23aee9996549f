use Rattle.std.proofs.Common.{◌≡◌, ◌≤◌, ◌-◌, ℕ, List, Some}
use Rattle.rv_machine.specs.declared.hart.Hart.{Hart}
use Rattle.rv_machine.specs.Harts.{places_of, state_of, with_pc}
use Rattle.rv_machine.specs.Advances.{AreSteady, Streams, streams}
use Rattle.rv_machine.proofs.Reaching.{Reached}
use Rattle.rv_machine.proofs.machine.Machine.go.Given as goal

pub record Far (hart here : Hart) (before now : Streams) (i : ℕ) : Type 0 where
  pub placed : places_of here ≡ places_of hart
  pub steady : AreSteady before now
  pub reached : (input : List ℕ) → before.left ≡ Some input → Reached (places_of hart) (state_of hart) before now input i (state_of here)

abbrev pub invariant-loop-left : goal.invariant-loop-left
invariant-loop-left g l = record {
  count : l.left ≤ l.fn.limit;
  far : Far l.fn.self.hart (with_pc l.self.hart l.pc)
      (streams (g.I.Source.left l.fn.input) (g.I.Source.faults l.fn.input) (g.O.Sink.written l.fn.out) (g.O.Sink.faults l.fn.out))
      (streams (g.I.Source.left l.input) (g.I.Source.faults l.input) (g.O.Sink.written l.out) (g.O.Sink.faults l.out)) (l.fn.limit - l.left);
}

abbrev pub decreases-loop-left : goal.decreases-loop-left
decreases-loop-left g l = l.left
