use Rattle.rv_machine.proofs.Standing.{none_stay}
use Rattle.rv_machine.proofs.decoder.Decoder.new.Goals as goal

pub returns : goal.returns
returns c =
    none_stay c.in_ok-entries.entries.items c.nothing_at.result c.nothing_at-2.result
    c.in_ok-entries.ensures.items c.nothing_at.ensures c.nothing_at-2.ensures
