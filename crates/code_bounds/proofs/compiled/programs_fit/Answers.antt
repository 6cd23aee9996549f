use Rattle.c_typed.specs.Programs.{program_data}
use Rattle.code_bounds.proofs.Images.{program_fits}
use Rattle.code_bounds.proofs.Programs.{program_is_small}
use Rattle.code_bounds.proofs.compiled.programs_fit.Goals as goal

pub returns : goal.returns
returns c =
    program_fits (program_data c.args.p.now) c.args.t.now
    (program_is_small (program_data c.args.p.now) c.programs_have_typed_functions.ensures c.programs_are_bounded.ensures c.programs_are_within_limits.ensures
    c.typed_functions_have_scopes.ensures c.code_is_within.ensures c.texts_are_within.ensures c.frames_are_small.ensures c.frames_are_within.ensures
    c.frames_weigh_less.ensures c.args.t.now)
    c.code_fits.ensures c.data_fits.ensures c.texts_are_within.ensures
