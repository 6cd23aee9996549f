use Rattle.std.proofs.Common.{refl, sym, ◌∙◌}
use Rattle.memory_words.specs.CellWords.Words.{empty_word}
use Rattle.memory_words.proofs.CellWords.ChosenTables.{groups, pointers}
use Rattle.memory_words.proofs.CellWords.Steps.{four_at_value, not_tabled, read_whole, within}
use Rattle.memory_words.proofs.cell_words.packed.Packed.four.Goals as goal

pub get-requires-in-Pointer : goal.get-requires-in-Pointer
get-requires-in-Pointer c = within pointers c.args.self.now c.args.i c.in-Pointer.e c.requires.packed (sym (c.get.ensures empty_word) ∙ c.in-Pointer.is)

pub get-requires-in-Group : goal.get-requires-in-Group
get-requires-in-Group c = within groups c.args.self.now c.args.i c.in-Group.e c.requires.packed (sym (c.get.ensures empty_word) ∙ c.in-Group.is)

pub returns-in-Pointer : goal.returns-in-Pointer
returns-in-Pointer c =
    c.four_of_pointer.ensures ∙ sym (four_at_value pointers c.args.self.now c.args.i c.in-Pointer.e c.get-in-Pointer.result c.requires.packed (sym (c.get.ensures empty_word) ∙ c.in-Pointer.is) (c.get-in-Pointer.ensures c.get-in-Pointer.result))

pub returns-in-Group : goal.returns-in-Group
returns-in-Group c =
    c.four_of_group.ensures ∙ sym (four_at_value groups c.args.self.now c.args.i c.in-Group.e c.get-in-Group.result c.requires.packed (sym (c.get.ensures empty_word) ∙ c.in-Group.is) (c.get-in-Group.ensures c.get-in-Group.result))

pub returns-in_default : goal.returns-in_default
returns-in_default c =
    c.whole.ensures ∙ sym (read_whole c.args.self.now _ c.args.i c.get.result refl (sym (c.get.ensures empty_word)) (not_tabled c.get.result c.in_default.not-Pointer c.in_default.not-Group))
