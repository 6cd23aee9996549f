use Rattle.std.proofs.Common.{◌∙◌, sym}
use Rattle.c_externals.proofs.NamedParameters.{with_types}
use Rattle.c_externals.proofs.parameters.without_parameters.Goals as goal

pub returns-else-is_empty : goal.returns-else-is_empty
returns-else-is_empty c = λ at. sym (with_types at c.args.types.now (sym c.is_empty.ensures ∙ c.if-is_empty.false))
