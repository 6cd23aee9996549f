use Rattle.block_memory.proofs.CellsHold.{number_of_one, number_of_two, number_of_four}
use Rattle.block_memory.proofs.arena.Arena.number_by_cells.Goals as goal

pub returns-then-width-eq1 : goal.returns-then-width-eq1
returns-then-width-eq1 c =
    number_of_one _ _ _ _ _ _ _ c.if-width-eq1.true c.width-width.ensures c.requires.within c.cell.ensures c.in_one.ensures.value c.valued.ensures

pub returns-then-width-eq2 : goal.returns-then-width-eq2
returns-then-width-eq2 c =
    number_of_two _ _ _ _ _ _ _ _ c.if-width-eq2.true c.width-width.ensures c.requires.within c.cell-then-width-eq2.ensures c.cell-then-width-eq2-2.ensures
    c.in_two.ensures.value c.valued-then-width-eq2.ensures

pub returns : goal.returns
returns c =
    number_of_four _ _ _ _ _ _ _ _ _ _ c.if-width-eq1.false c.if-width-eq2.false c.width-width.ensures c.requires.within
    c.cell-a.ensures c.cell-b.ensures c.cell-c.ensures c.cell-d.ensures c.in_four.ensures c.valued-2.ensures
