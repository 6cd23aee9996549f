use Rattle.std.proofs.Common.{subst}
use Rattle.lay_compile.specs.Front.{FrontGives}
use Rattle.lay_compile.proofs.NoProgram.{gives}
use Rattle.lay_compile.proofs.stages.front.Goals as goal

pub returns : goal.returns
returns c = subst (λ files. FrontGives files c.through_stages.result) c.as_slice.ensures
    (gives c.texts_have_one_reading.ensures c.files_have_one_tree.ensures c.units_are_one.ensures c.as_slice.result.now c.through_stages.result
    c.through_stages.ensures)
