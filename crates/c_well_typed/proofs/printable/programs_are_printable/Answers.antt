use Rattle.c_well_typed.proofs.printable.programs_are_printable.Goals as goal

pub returns : goal.returns
returns c files h =
    let types = c.programs_have_printable_types.ensures files h in
    record {
      types = types.0;
      records = types.1;
      objects = c.programs_have_printable_objects.ensures files h;
      literals = c.literals_stand_once.ensures files h;
      functions = c.programs_have_printable_functions.ensures files h;
    }
