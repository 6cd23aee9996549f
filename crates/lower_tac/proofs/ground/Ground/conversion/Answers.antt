use Rattle.lower_tac.specs.Grounds.{program_in}
use Rattle.lower_tac.proofs.BySort.{number_step, pointer_step, set_step}
use Rattle.lower_tac.proofs.ground.Ground.conversion.Goals as goal

pub returns-in-Number : goal.returns-in-Number
returns-in-Number c = number_step (program_in c.args.self.now) c.args.t c.row.result c.row.ensures.row c.in-Number.kind c.in-Number.is c.args.at c.args.to c.args.a

pub returns-in-Pointer : goal.returns-in-Pointer
returns-in-Pointer c = pointer_step (program_in c.args.self.now) c.args.t c.row.result c.row.ensures.row c.in-Pointer.is c.args.at c.args.to c.args.a

pub returns-in-Void : goal.returns-in-Void
returns-in-Void c = set_step (program_in c.args.self.now) c.args.t c.row.result c.row.ensures.row c.in-Void.is c.args.at c.args.to c.args.a
