use Rattle.std.proofs.Common.{◌+◌, ◌*◌, ◌<◌, ◌^◌, arith}
use Rattle.rv_code.specs.Programs.{words_of_function}
use Rattle.tac_ir.specs.Code.{data_of}
use Rattle.rv_code.proofs.Lists.{steps_fit}
use Rattle.rv_code.proofs.functions.layout.Goals as goal

pub behind-requires-clause-few : goal.behind-requires-clause-few
behind-requires-clause-few c =
    let code : c.args.entry + 4 * words_of_function (data_of c.args.g.now) < 2 ^ 32 = c.requires.code in
    steps_fit c.args.g.now (omega arith)
