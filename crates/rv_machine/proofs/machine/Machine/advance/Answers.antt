use Rattle.std.proofs.Common.{◌≡◌, Some, sym, subst}
use Rattle.rv_isa.specs.declared.instruction.Inst.TheVariants.{Ecall}
use Rattle.rv_isa.specs.Decoding.{decoded}
use Rattle.rv_isa.specs.Memory.{word_at}
use Rattle.rv_isa.specs.Step.{State}
use Rattle.rv_machine.proofs.Standing.{all_stay}
use Rattle.rv_machine.proofs.machine.Machine.advance.Goals as goal

pub call-answered-requires : goal.call-answered-requires
call-answered-requires g c = subst (λ (s : State). decoded (word_at s.memory s.pc) ≡ Some Ecall) (sym c.in-Calls.ensures.moved.2) c.in-Calls.ensures.moved.0

pub invariant_of-self : goal.invariant_of-self
invariant_of-self g c = record {
  all_stay = all_stay c.step.new.self.hart.memory c.call-answered.new.self.memory c.step.new.self.decoder c.call-answered.ensures.places c.call-answered.ensures.unwritten c.step.new.self.all_stay;
}
