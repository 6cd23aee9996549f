use Rattle.std.proofs.Common.{arith}
use Rattle.rv_isa.proofs.Laws.{of_table}
use Rattle.rv_isa.proofs.decoding.decode.Goals as goal

pub returns-clause-of_table : goal.returns-clause-of_table
returns-clause-of_table c = of_table c.args.word c.instruction_in.result (omega arith) c.instruction_in.ensures
