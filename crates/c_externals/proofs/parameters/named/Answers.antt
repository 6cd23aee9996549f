use Rattle.std.proofs.Common.{◌∙◌, map, sym}
use Rattle.std.proofs.lemmas.List.{length-map}
use Rattle.c_types.specs.Views.{type_of}
use Rattle.c_ast.specs.Views.{parameter_of}
use Rattle.c_externals.proofs.NamedParameters.{unlike}
use Rattle.c_externals.proofs.parameters.named.Goals as goal

pub returns-then-all-types : goal.returns-then-all-types
returns-then-all-types c =
    let all = c.args.all.now in
    let types = c.args.types.now in
    sym (unlike (map parameter_of all) (map type_of types) 0 (λ e. c.if-all-types.true (sym (length-map all parameter_of) ∙ e ∙ length-map types type_of)))
