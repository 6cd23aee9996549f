use Rattle.std.proofs.Common.{ap, ◌∙◌, arith}
use Rattle.std.proofs.lemmas.List.{with_items_is}
use Rattle.rv_machine.specs.Rows.{memory_of}
use Rattle.rv_machine.proofs.Stores.{word_stored}
use Rattle.rv_machine.proofs.memory.Memory.store_word_elsewhere.Goals as goal

pub returns-in-Some-clause-content : goal.returns-in-Some-clause-content
returns-in-Some-clause-content c =
    ap (memory_of c.search_to_store.new.self.rows.items) (with_items_is c.search_to_store.new.self.bytes c.put_word.new.bytes (omega (arith, c.deref_mut.ensures.len)))
    ∙ word_stored c.args.self.now c.search_to_store.new.self _ c.args.address c.in-Some.place c.args.value _ _ (omega arith) c.search_to_store.ensures.kept
    c.in-Some.ensures.found c.deref_mut.ensures.value c.put_word.ensures
