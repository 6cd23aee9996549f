use Rattle.c_typed.specs.Programs.{program_data}
use Rattle.compiled_files.proofs.Theorem.{image_is_of_program}
use Rattle.compiled_files.proofs.laws.images_are_of_programs.Goals as goal

pub returns : goal.returns
returns c =
    image_is_of_program (program_data c.args.p.now) c.args.t.now c.programs_fit.ensures
    (record {
      typed = c.programs_are_well_typed.ensures;
      printable = c.programs_are_printable.ensures;
      bounded = c.programs_are_bounded.ensures;
      initials = c.initials_lie_within.ensures;
    })
    (record {
      jumps = c.jumps_stand.ensures;
      kinds = c.kinds_stand.ensures;
      scopes = c.typed_functions_have_scopes.ensures;
      steps_long = c.steps_are_as_long.ensures;
      functions_long = c.functions_are_as_long.ensures;
      programs_long = c.programs_are_as_long.ensures;
      frames = c.frames_are_weighed.ensures;
    })
    (record {
      same = c.runs_are_same.ensures;
      adds = c.runs_add.ensures;
      steps_add = c.steps_add.ensures;
      earlier = c.earlier_fits.ensures;
      light = c.light_runs_fit.ensures;
      calls = c.calls_have_room.ensures;
      allocations = c.allocations_have_room.ensures;
      room = c.runs_have_room.ensures;
    })
