use Rattle.std.proofs.Common.{refl}
use Rattle.rv_machine.proofs.Places.{word_within, word_loaded}
use Rattle.rv_machine.proofs.memory.Memory.code_word.Goals as goal

pub returns-in-Some : goal.returns-in-Some
returns-in-Some c =
    let found = word_within _ _ _ c.args.pc c.in-Some.place _ c.args.self.now.code_begins c.in-Some.ensures.0 c.in-Some.ensures.1 in
    word_loaded c.args.self.now c.args.self.now _ c.args.pc c.in-Some.place c.deref.result.now (record { rows = refl; bytes = refl })
    c.deref.ensures.value _ found c.word_from.ensures
