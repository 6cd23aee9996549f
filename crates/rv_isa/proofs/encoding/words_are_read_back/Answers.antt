use Rattle.rv_isa.proofs.Laws.{decoded_again, encoded_again}
use Rattle.rv_isa.proofs.encoding.words_are_read_back.Goals as goal

pub returns-clause-read : goal.returns-clause-read
returns-clause-read c = decoded_again

pub returns-clause-only : goal.returns-clause-only
returns-clause-only c = encoded_again
