use Rattle.std.proofs.Common.{refl, sym, ◌∙◌}
use Rattle.memory_words.specs.CellWords.Words.{empty_word}
use Rattle.memory_words.proofs.CellWords.ChosenTables.{pointers}
use Rattle.memory_words.proofs.CellWords.Steps.{put_over, within}
use Rattle.memory_words.proofs.cell_words.packed.Packed.put_pointer.Goals as goal

pub set-requires : goal.set-requires
set-requires c = within pointers c.args.self.now c.args.i c.in-Pointer.e c.requires.packed (sym (c.get.ensures empty_word) ∙ c.in-Pointer.is)

pub returns-in-Pointer : goal.returns-in-Pointer
returns-in-Pointer c =
    put_over pointers c.args.self.now _ c.args.i c.in-Pointer.e c.args.pointer c.requires.packed c.requires.known (sym (c.get.ensures empty_word) ∙ c.in-Pointer.is)
    refl c.set.ensures.items c.set.ensures.room refl refl
