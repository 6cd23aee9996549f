use Rattle.std.proofs.Common.{◌≡◌, ◌∙◌, Bool, ap, subst}
use Rattle.c_annotated.specs.Views.{initializer_of}
use Rattle.c_erasure.specs.Checking.Initializers.{are_constants}
use Rattle.c_initial_values.specs.Values.{declared_by}
use Rattle.c_check_parts.proofs.InitializerParts.Alike.{constants_alike}
use Rattle.c_check_parts.proofs.initializer_parts.constants.are_constants_in.Goals as goal

pub returns : goal.returns
returns c =
    let f = c.args.file.now in
    let i = initializer_of c.args.initial.now in
    subst (λ (b : Bool). c.are_constants.result ≡ b)
    (ap (λ objects. are_constants (declared_by f.records objects) i) c.as_slice.ensures ∙ constants_alike f c.args.scope i) c.are_constants.ensures
