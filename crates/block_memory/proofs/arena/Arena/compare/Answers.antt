use Rattle.std.proofs.Common.{◌≡◌, false, arith, sym, ◌∙◌}
use Rattle.block_memory.specs.Digits.{is_zero}
use Rattle.block_memory.proofs.Differences.{compared_here}
use Rattle.block_memory.proofs.arena.Arena.compare.Goals as goal

pub returns-then-not-is_zero : goal.returns-then-not-is_zero
returns-then-not-is_zero c =
    let differs : is_zero c.compared-difference.result ≡ false = sym c.is_zero.ensures ∙ c.if-not-is_zero.true in
    compared_here c.args.self.now c.args.at c.args.other c.args.count c.loop-i.i c.cell-a.result c.cell-b.result c.compared-difference.result
    c.requires.within c.requires.other_within (omega arith) c.loop-i.invariant c.cell-a.ensures c.cell-b.ensures c.compared-difference.ensures differs
