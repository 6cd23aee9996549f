use Rattle.rv_machine.specs.Harts.{places_of, state_at}
use Rattle.rv_machine.proofs.Lifting.{code_gives}
use Rattle.rv_machine.proofs.Standing.{all_stay}
use Rattle.rv_machine.proofs.Unwritten.{performs_unwritten}
use Rattle.rv_machine.proofs.machine.Machine.step.Goals as goal

pub returns-in-None-clause-moved : goal.returns-in-None-clause-moved
returns-in-None-clause-moved c =
    code_gives c.args.self.now.hart c.prepare.new.self.hart c.args.pc.now c.prepare.new.self.decoder (state_at c.execute.new.self c.execute.new.pc) c.instruction-inst.result.now c.execute.result
    c.in-None.ensures.places c.in-None.ensures.state c.in-None.ensures.ready c.instruction-inst.ensures.word c.execute.ensures.moved

pub invariant_of-self : goal.invariant_of-self
invariant_of-self c = record {
  all_stay = all_stay c.prepare.new.self.hart.memory c.execute.new.self.memory c.prepare.new.self.decoder c.execute.ensures.places
      (λ a fixed. performs_unwritten (places_of c.prepare.new.self.hart) a fixed (state_at c.prepare.new.self.hart c.args.pc.now) (state_at c.execute.new.self c.execute.new.pc)
      c.instruction-inst.result.now c.execute.result c.execute.ensures.moved) c.prepare.new.self.all_stay;
}
