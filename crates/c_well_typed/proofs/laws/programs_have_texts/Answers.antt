use Rattle.c_grammar.proofs.FirstPlaces.{trees_begin_first}
use Rattle.c_typed.specs.Programs.{program_data}
use Rattle.c_well_typed.proofs.Programs.{program_has_texts}
use Rattle.c_well_typed.proofs.WholeUnits.{units_have_texts}
use Rattle.c_well_typed.proofs.laws.programs_have_texts.Goals as goal

pub returns : goal.returns
returns c =
    program_has_texts (units_have_texts c.tokens_have_places.ensures trees_begin_first c.texts_are_in_order.ensures) c.units_are_well_typed.ensures
    (program_data c.args.p.now) c.records_are_complete.ensures.complete
