use Rattle.std.proofs.Common.{sym, ap, ◌∙◌}
use Rattle.std.proofs.Math.ListN.{set}
use Rattle.memory_words.specs.CellWords.Tables.{fours_in}
use Rattle.memory_words.specs.CellWords.Words.{empty_word, four_at}
use Rattle.memory_words.proofs.CellWords.ChosenTables.{pointers}
use Rattle.memory_words.proofs.CellWords.Steps.{four_at_value, not_tabled, read_whole, within}
use Rattle.memory_words.proofs.cell_words.words.Words.copy.Goals as goal

pub get-pointer-requires : goal.get-pointer-requires
get-pointer-requires c = within pointers c.self.inside.packed c.args.from c.in-Pointer.e c.self.invariant (sym (c.get.ensures empty_word) ∙ c.in-Pointer.is)

pub returns-in-Pointer : goal.returns-in-Pointer
returns-in-Pointer c =
    let p = c.self.inside.packed in
    let is = four_at_value pointers p c.args.from c.in-Pointer.e c.get-pointer.result c.self.invariant (sym (c.get.ensures empty_word) ∙ c.in-Pointer.is) (c.get-pointer.ensures c.get-pointer.result) in
    c.put_pointer.ensures.is ∙ ap (λ four. set (fours_in p) c.args.to four) (sym is) ∙ ap (λ fours. set fours c.args.to (four_at fours c.args.from)) c.self.view_is

pub returns-in_default : goal.returns-in_default
returns-in_default c =
    let plain = not_tabled c.get.result c.in_default.not-Pointer c.in_default.not-Group in
    c.put_whole.ensures ∙ ap (set c.args.self.now c.args.to) (sym (read_whole c.self.inside.packed c.args.self.now c.args.from c.get.result c.self.view_is (sym (c.get.ensures empty_word)) plain))
