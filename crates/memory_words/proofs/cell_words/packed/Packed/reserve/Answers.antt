use Rattle.memory_words.proofs.CellWords.ChosenTables.{groups, pointers}
use Rattle.memory_words.proofs.CellWords.Steps.{many_within}
use Rattle.memory_words.proofs.cell_words.packed.Packed.reserve.Goals as goal

pub reserve-requires-clause-within : goal.reserve-requires-clause-within
reserve-requires-clause-within c = many_within pointers c.args.self.now c.args.many c.requires.packed c.requires.within

pub reserve-requires-2-clause-within : goal.reserve-requires-2-clause-within
reserve-requires-2-clause-within c = many_within groups c.args.self.now c.args.many c.requires.packed c.requires.within
