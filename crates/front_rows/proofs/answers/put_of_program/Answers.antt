use Rattle.c_typed.specs.Programs.{program_data}
use Rattle.front_rows.proofs.answers.put_of_program.Goals as goal

pub put_program-requires-clause-asked : goal.put_program-requires-clause-asked
put_program-requires-clause-asked c = c.few_are_asked.ensures c.args.files.now (program_data c.args.program.now) c.requires.program

pub put_program-requires-clause-small : goal.put_program-requires-clause-small
put_program-requires-clause-small c = c.types_are_small.ensures c.args.files.now c.requires.short c.requires.program

pub put_code-requires-clause-asked : goal.put_code-requires-clause-asked
put_code-requires-clause-asked c = c.few_are_asked.ensures c.args.files.now (program_data c.args.program.now) c.requires.program

pub put_code-requires-clause-small : goal.put_code-requires-clause-small
put_code-requires-clause-small c = c.types_are_small.ensures c.args.files.now c.requires.short c.requires.program
