use Rattle.std.proofs.Common.{arith}
use Rattle.block_memory.proofs.Writing.{each_more, writes_none}
use Rattle.block_memory.proofs.arena.Arena.put_each.Goals as goal

pub loop-i-init : goal.loop-i-init
loop-i-init c = writes_none c.args.self.now c.args.at

pub loop-i-preserved : goal.loop-i-preserved
loop-i-preserved c =
    each_more c.args.self.now c.loop-i.self c.put.new.self c.args.at c.loop-i.i c.args.count c.args.cell
    c.requires.within (omega arith) c.loop-i.invariant c.put.ensures
