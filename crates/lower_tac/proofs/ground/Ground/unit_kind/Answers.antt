use Rattle.std.proofs.Common.{sym, ◌∙◌}
use Rattle.lower_tac.specs.Grounds.{program_in}
use Rattle.lower_tac.proofs.BySort.{unit_is}
use Rattle.lower_tac.proofs.ground.Ground.unit_kind.Goals as goal

pub returns-in-Number : goal.returns-in-Number
returns-in-Number c =
    c.promoted_kind.ensures ∙ sym (unit_is (program_in c.args.self.now) c.args.t c.row.result c.row.ensures.row c.in-Number.kind c.in-Number.is)
