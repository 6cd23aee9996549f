use Rattle.std.proofs.Common.{refl, ap, ◌∙◌}
use Rattle.memory_words.specs.declared.cell_words.word.Group.{Group}
use Rattle.memory_words.specs.declared.cell_words.word.Part.TheVariants as R
use Rattle.std.proofs.Math.ListN.{set}
use Rattle.memory_words.specs.CellWords.Words.{empty_word}
use Rattle.memory_words.proofs.CellWords.ChosenTables.{groups}
use Rattle.memory_words.proofs.CellWords.Steps.{owned, release}
use Rattle.memory_words.proofs.cell_words.packed.Packed.give_up_group.Goals as goal

pub remove-owner-requires-clause-known : goal.remove-owner-requires-clause-known
remove-owner-requires-clause-known c = owned groups c.args.self.now c.args.i c.args.e c.requires.packed c.requires.tabled

pub returns : goal.returns
returns c =
    let words = c.set-2.ensures.items ∙ ap (λ words. set words c.args.i empty_word) c.set.ensures.items in
    let none : Group = record { a = R.Empty; b = R.Empty; c = R.Empty; d = R.Empty } in
    release groups c.args.self.now _ c.args.i c.args.e c.remove-owner.result none c.requires.packed c.requires.known c.requires.tabled
    c.remove-owner.ensures.owner words (c.remove-owner.ensures.values none) c.remove-owner.ensures.owners c.remove-owner.ensures.keeps refl
