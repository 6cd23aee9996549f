use Rattle.rv_machine.proofs.Lifting.{code_illegal, code_unmapped}
use Rattle.rv_machine.proofs.Standing.{all_stay_fetched, word_fetched}
use Rattle.rv_machine.proofs.machine.Machine.make_ready.Goals as goal

pub returns-else-keep-clause-ready : goal.returns-else-keep-clause-ready
returns-else-keep-clause-ready c = code_illegal c.args.self.now.hart c.in-Some.word c.in-Some.ensures.value c.if-keep.ensures.kept

pub returns-in-None-clause-ready : goal.returns-in-None-clause-ready
returns-in-None-clause-ready c = code_unmapped c.args.self.now.hart c.in-None.ensures.value

pub invariant_of-self : goal.invariant_of-self
invariant_of-self c =
    let old = c.args.self.now in
    let kept = c.in-Some.ensures.kept in
    record {
      all_stay = c.keep.ensures.stay _ (all_stay_fetched old.hart.memory c.fetch.new.self old.hart.pc kept old.decoder old.all_stay)
          (λ t. word_fetched old.hart.memory c.fetch.new.self old.hart.pc kept c.in-Some.word c.in-Some.ensures.value (c.stays-stays.ensures t));
    }
