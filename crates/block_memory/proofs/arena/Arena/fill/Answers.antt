use Rattle.std.proofs.Common.{◌+◌, ◌-◌, ◌*◌, ◌/◌, ◌%◌, sym, replicate, arith, ap, ◌∙◌}
use Rattle.block_memory.specs.Cells.{over}
use Rattle.block_memory.proofs.Writing.{three_fills}
use Rattle.block_memory.proofs.arena.Arena.fill.Goals as goal

pub returns-else-count-front : goal.returns-else-count-front
returns-else-count-front c =
    let front = (4 - c.args.at % 4) % 4 in
    three_fills c.args.self.now c.put_each-else-count-front.new.self c.put_words.new.self c.put_each-else-count-front-2.new.self c.args.at
    front ((c.args.count - front) / 4) c.args.count c.cell_of-cell.result c.requires.within (omega (arith, c.if-count-front.false))
    c.put_each-else-count-front.ensures.is
    (c.put_words.ensures.is ∙ ap (λ cell. over c.put_each-else-count-front.new.self (c.args.at + front) (replicate (4 * ((c.args.count - front) / 4)) cell)) (sym c.cell_of-cell.ensures))
    c.put_each-else-count-front-2.ensures.is
    ∙ ap (λ cell. over c.args.self.now c.args.at (replicate c.args.count cell)) c.cell_of-cell.ensures
