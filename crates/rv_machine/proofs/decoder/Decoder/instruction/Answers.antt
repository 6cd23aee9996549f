use Rattle.rv_isa.proofs.Laws.{encoded_again}
use Rattle.rv_machine.proofs.decoder.Decoder.instruction.Goals as goal

pub returns-clause-range : goal.returns-clause-range
returns-clause-range c =
    let entry = c.index.result.now in
    (encoded_again entry.word entry.inst entry.fits entry.read).0
