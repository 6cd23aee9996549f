use Rattle.std.proofs.Common.{arith, ap}
use Rattle.memory_words.specs.CellWords.Words.{cell_of, cells_of}
use Rattle.block_memory.proofs.Writing.{words_more, writes_none}
use Rattle.block_memory.proofs.arena.Arena.put_words.Goals as goal

pub loop-i-init : goal.loop-i-init
loop-i-init c = writes_none c.args.self.now c.args.at

pub loop-i-preserved : goal.loop-i-preserved
loop-i-preserved c =
    words_more c.args.self.now c.loop-i.self c.put_word.new.self c.args.at c.loop-i.i c.args.count (cell_of c.args.content) _
    c.requires.within (omega arith) c.loop-i.invariant (ap cells_of c.content_word-word.ensures.is) c.put_word.ensures
