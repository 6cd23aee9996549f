use Rattle.c_typed.specs.Programs.{program_data}
use Rattle.code_bounds.proofs.Programs.{code_fits}
use Rattle.code_bounds.proofs.compiled.code_fits.Goals as goal

pub returns : goal.returns
returns c =
    code_fits (program_data c.args.p.now) c.programs_have_typed_functions.ensures c.programs_are_bounded.ensures c.programs_are_within_limits.ensures
    c.typed_functions_have_scopes.ensures c.code_is_within.ensures c.programs_are_as_long.ensures c.args.t.now
