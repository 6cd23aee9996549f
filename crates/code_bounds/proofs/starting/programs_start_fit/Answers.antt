use Rattle.c_typed.specs.Programs.{program_data}
use Rattle.code_bounds.proofs.Starts.{starts_fit}
use Rattle.code_bounds.proofs.starting.programs_start_fit.Goals as goal

pub returns : goal.returns
returns c =
    starts_fit (program_data c.args.p.now) c.records_are_complete.ensures.complete c.programs_have_typed_objects.ensures c.programs_have_texts.ensures
    c.programs_have_few_loops.ensures c.programs_are_within_limits.ensures c.initials_lie_within.ensures c.texts_hold_numbers.ensures
