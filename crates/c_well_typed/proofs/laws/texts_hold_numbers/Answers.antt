use Rattle.c_well_typed.proofs.PartsWithin.{texts_hold_numbers}
use Rattle.c_well_typed.proofs.laws.texts_hold_numbers.Goals as goal

pub returns : goal.returns
returns c = texts_hold_numbers
