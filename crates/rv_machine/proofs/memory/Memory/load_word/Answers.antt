use Rattle.std.proofs.Common.{refl}
use Rattle.rv_machine.proofs.Places.{word_loaded}
use Rattle.rv_machine.proofs.memory.Memory.load_word.Goals as goal

pub returns-in-Some-clause-value : goal.returns-in-Some-clause-value
returns-in-Some-clause-value c =
    word_loaded c.args.self.now c.args.self.now _ c.args.address c.in-Some.place c.deref.result.now (record { rows = refl; bytes = refl })
    c.deref.ensures.value _ c.in-Some.ensures c.word_from.ensures
