use Rattle.code_bounds.proofs.Words.{words_are_paid}
use Rattle.code_bounds.proofs.compiled.words_are_paid.Goals as goal

pub returns : goal.returns
returns c = words_are_paid
