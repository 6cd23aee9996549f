use Rattle.c_typed.specs.Programs.{program_data}
use Rattle.lay_compile.proofs.Few.{few_functions, few_loops}
use Rattle.front_rows.proofs.profiles.put_fit.Goals as goal

pub fits-requires-clause-functions : goal.fits-requires-clause-functions
fits-requires-clause-functions c =
    few_functions c.args.program.now.functions (c.programs_have_few_functions.ensures c.requires.0 (program_data c.args.program.now) c.requires.1)

pub fits-requires-clause-loops : goal.fits-requires-clause-loops
fits-requires-clause-loops c =
    few_loops c.args.program.now.functions (c.programs_have_few_loops.ensures c.requires.0 (program_data c.args.program.now) c.requires.1)
