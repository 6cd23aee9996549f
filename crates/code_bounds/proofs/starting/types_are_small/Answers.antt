use Rattle.c_typed.specs.Programs.{program_data}
use Rattle.code_bounds.proofs.SmallTypes.{program_has_small_types}
use Rattle.code_bounds.proofs.starting.types_are_small.Goals as goal

pub returns : goal.returns
returns c = program_has_small_types (program_data c.args.p.now) c.programs_have_small_sizes.ensures
