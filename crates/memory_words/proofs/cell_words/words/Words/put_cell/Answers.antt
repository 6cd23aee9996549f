use Rattle.std.proofs.Common.{sym, ap, ◌∙◌}
use Rattle.std.proofs.Math.ListN.{set}
use Rattle.memory_words.specs.CellWords.Words.{empty_word, with_cell_in}
use Rattle.memory_words.proofs.CellWords.Steps.{read_whole}
use Rattle.memory_words.proofs.cell_words.words.Words.put_cell.Goals as goal

pub returns-in-Some : goal.returns-in-Some
returns-in-Some c =
    let there = read_whole c.self.inside.packed c.args.self.now c.args.i c.get.result c.self.view_is (sym (c.get.ensures empty_word)) c.in-Some.ensures.0 in
    c.put_whole.ensures ∙ ap (set c.args.self.now c.args.i) (c.in-Some.ensures.2 ∙ ap (λ four. with_cell_in four c.args.k c.args.cell) (sym there))
