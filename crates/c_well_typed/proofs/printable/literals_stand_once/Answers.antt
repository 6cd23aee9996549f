use Rattle.c_typed.specs.Programs.{program_data}
use Rattle.c_well_typed.proofs.PrintableObjects.Programs.{program_has_literals_once}
use Rattle.c_well_typed.proofs.printable.literals_stand_once.Goals as goal

pub returns : goal.returns
returns c = program_has_literals_once c.tokens_have_places.ensures c.texts_are_in_order.ensures (program_data c.args.p.now)
