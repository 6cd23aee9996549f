use Rattle.code_bounds.proofs.Typed.{typed_have_scopes}
use Rattle.code_bounds.proofs.lowered.typed_functions_have_scopes.Goals as goal

pub returns : goal.returns
returns c = typed_have_scopes
