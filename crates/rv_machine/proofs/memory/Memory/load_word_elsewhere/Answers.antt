use Rattle.rv_machine.proofs.Places.{word_loaded}
use Rattle.rv_machine.proofs.memory.Memory.load_word_elsewhere.Goals as goal

pub returns-in-Some-clause-value : goal.returns-in-Some-clause-value
returns-in-Some-clause-value c =
    word_loaded c.args.self.now c.search_to_load.new.self _ c.args.address c.in-Some.place c.deref.result.now c.search_to_load.ensures.kept c.deref.ensures.value _
    c.in-Some.ensures.found c.word_from.ensures
