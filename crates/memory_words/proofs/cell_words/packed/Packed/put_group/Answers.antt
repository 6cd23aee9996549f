use Rattle.std.proofs.Common.{refl, sym, ◌∙◌}
use Rattle.memory_words.specs.CellWords.Words.{empty_word}
use Rattle.memory_words.proofs.CellWords.ChosenTables.{groups}
use Rattle.memory_words.proofs.CellWords.Steps.{put_over, put_same, within}
use Rattle.memory_words.proofs.cell_words.packed.Packed.put_group.Goals as goal

pub set-requires : goal.set-requires
set-requires c = within groups c.args.self.now c.args.i c.in-Group.e c.requires.packed (sym (c.get.ensures empty_word) ∙ c.in-Group.is)

pub returns-in-Group : goal.returns-in-Group
returns-in-Group c =
    put_same c.args.i c.args.self.now _ c.group_of.ensures (put_over groups c.args.self.now _ c.args.i c.in-Group.e c.group_of.result c.requires.packed c.requires.known (sym (c.get.ensures empty_word) ∙ c.in-Group.is)
    refl c.set.ensures.items c.set.ensures.room refl refl)
