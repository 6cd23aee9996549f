use Rattle.rv_isa.proofs.Laws.{row_fits}
use Rattle.rv_isa.proofs.encoding.encode.Goals as goal

pub joined-requires : goal.joined-requires
joined-requires c = rw c.row_of.ensures (row_fits c.args.i c.requires)
