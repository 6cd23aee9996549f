use Rattle.c_typed.specs.Programs.{program_data}
use Rattle.compiled_files.proofs.Soundness.Steady.{program_is_steady}
use Rattle.compiled_files.proofs.laws.programs_are_steady.Goals as goal

pub returns : goal.returns
returns c =
    program_is_steady (program_data c.args.p.now) c.programs_are_well_typed.ensures c.programs_are_printable.ensures c.initials_lie_within.ensures
    c.jumps_stand.ensures c.kinds_stand.ensures c.typed_functions_have_scopes.ensures c.jumps_lead_on.ensures
