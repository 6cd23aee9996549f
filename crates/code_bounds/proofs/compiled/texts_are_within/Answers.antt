use Rattle.code_bounds.proofs.Texts.{texts_are_within}
use Rattle.code_bounds.proofs.compiled.texts_are_within.Goals as goal

pub returns : goal.returns
returns c = texts_are_within
