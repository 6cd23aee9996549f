use Rattle.std.proofs.Common.{◌∙◌, sym, ap}
use Rattle.c_typed.specs.Constants.{is_zero}
use Rattle.c_annotated.specs.Views.{expression_of}
use Rattle.c_annotated.proofs.Nulls.{null_without_cast}
use Rattle.c_annotated.proofs.constants.is_null.Goals as goal

pub returns-in-None : goal.returns-in-None
returns-in-None c =
    c.is_zero-in-None.ensures ∙ ap is_zero c.constant_of-in-None.ensures
    ∙ sym (null_without_cast (expression_of c.args.e.now) c.in-None.ensures)
