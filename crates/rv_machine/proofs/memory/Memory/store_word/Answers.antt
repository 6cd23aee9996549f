use Rattle.std.proofs.Common.{ap, ◌∙◌, refl, arith}
use Rattle.std.proofs.lemmas.List.{with_items_is}
use Rattle.rv_machine.specs.Rows.{memory_of}
use Rattle.rv_machine.proofs.Stores.{word_stored}
use Rattle.rv_machine.proofs.memory.Memory.store_word.Goals as goal

pub returns-in-Some-clause-content : goal.returns-in-Some-clause-content
returns-in-Some-clause-content c =
    ap (memory_of c.args.self.now.rows.items) (with_items_is c.args.self.now.bytes c.put_word.new.bytes (omega (arith, c.deref_mut.ensures.len)))
    ∙ word_stored c.args.self.now c.args.self.now _ c.args.address c.in-Some.place c.args.value _ _ (omega arith) (record { rows = refl; bytes = refl })
    c.in-Some.ensures c.deref_mut.ensures.value c.put_word.ensures
