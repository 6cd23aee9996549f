use Rattle.std.proofs.Common.{sym}
use Rattle.rv_machine.proofs.Stores.{word_apart}
use Rattle.rv_machine.proofs.memory.Memory.store_word_apart.Goals as goal

pub returns-clause-content : goal.returns-clause-content
returns-clause-content c =
    word_apart c.args.self.now c.put.new.self c.put-2.new.self c.put-3.new.self c.put-4.new.self c.args.address c.args.value
    c.put.result c.put-2.result c.put-3.result c.put-4.result (sym c.if-not-may_use.ensures)
    c.put.ensures.rows c.put.ensures.mapped c.put.ensures.content c.put-2.ensures.rows c.put-2.ensures.mapped c.put-2.ensures.content
    c.put-3.ensures.rows c.put-3.ensures.mapped c.put-3.ensures.content c.put-4.ensures.rows c.put-4.ensures.mapped c.put-4.ensures.content
