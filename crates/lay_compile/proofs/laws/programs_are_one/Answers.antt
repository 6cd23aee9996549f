use Rattle.lay_compile.proofs.NoProgram.{one_program}
use Rattle.lay_compile.proofs.laws.programs_are_one.Goals as goal

pub returns : goal.returns
returns c = one_program c.texts_have_one_reading.ensures c.files_have_one_tree.ensures c.units_are_one.ensures
