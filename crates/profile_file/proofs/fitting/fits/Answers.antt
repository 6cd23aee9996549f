use Rattle.profile_file.proofs.Differences.{few_defined_of, few_loops}
use Rattle.profile_file.proofs.fitting.fits.Goals as goal

pub functions_fit-requires : goal.functions_fit-requires
functions_fit-requires c = few_defined_of c.args.p.now.functions c.requires.functions

pub loops_fit-requires-clause-loops : goal.loops_fit-requires-clause-loops
loops_fit-requires-clause-loops c = λ number. few_loops c.args.p.now.functions number c.requires.loops
