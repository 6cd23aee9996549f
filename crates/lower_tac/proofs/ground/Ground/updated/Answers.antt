use Rattle.std.proofs.Common.{sym}
use Rattle.lower_tac.specs.Grounds.{program_in}
use Rattle.lower_tac.proofs.BySort.{updated_is}
use Rattle.lower_tac.proofs.ground.Ground.updated.Goals as goal

pub returns-in-Number : goal.returns-in-Number
returns-in-Number c = sym (updated_is (program_in c.args.self.now) c.args.t c.row.result c.row.ensures.row c.in-Number.kind c.in-Number.is)
