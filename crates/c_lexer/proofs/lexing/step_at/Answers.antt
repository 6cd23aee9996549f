use Rattle.c_lexer.proofs.Scans.{step_over_one}
use Rattle.c_lexer.proofs.lexing.step_at.Goals as goal

pub returns-clause-is : goal.returns-clause-is
returns-clause-is c =
    step_over_one c.args.at c.args.begins_line c.args.text.now c.in-Some.punctuator c.in-Some.ensures.within (c.in-Some.ensures.is c.args.begins_line)
