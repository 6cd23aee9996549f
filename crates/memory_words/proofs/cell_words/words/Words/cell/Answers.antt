use Rattle.std.proofs.Common.{sym, ap, ◌∙◌}
use Rattle.memory_words.specs.CellWords.Words.{cell_in, empty_word}
use Rattle.memory_words.proofs.CellWords.Steps.{read_whole}
use Rattle.memory_words.proofs.cell_words.words.Words.cell.Goals as goal

pub returns-else-is_tabled : goal.returns-else-is_tabled
returns-else-is_tabled c =
    let plain = sym c.is_tabled.ensures ∙ c.if-is_tabled.false in
    c.cell_in_whole.ensures ∙ ap (λ four. cell_in four c.args.k) (sym (read_whole c.self.inside.packed c.args.self.now c.args.i c.get-word.result c.self.view_is (sym (c.get-word.ensures empty_word)) plain))
