use Rattle.c_lexer.proofs.LinesOfParts.{read_begins}
use Rattle.c_lexer.proofs.presuming.at_start.Goals as goal

pub returns-clause-read : goal.returns-clause-read
returns-clause-read c = read_begins c.args.bytes.now _ c.first_lines.ensures
