use Rattle.std.proofs.Common.{subst, sym}
use Rattle.c_annotated.specs.Views.{expression_of, thing_of}
use Rattle.c_scopes.specs.Scoping.{file_of}
use Rattle.c_declaring.specs.Finds.{Finds}
use Rattle.c_check_expressions.proofs.OnValues.{on_its_value}
use Rattle.c_check_expressions.proofs.operators.unary_thing.Goals as goal

pub returns-in-Ok : goal.returns-in-Ok
returns-in-Ok c = λ s p.
    subst (λ r. Finds thing_of c.on_value.result r c.args.file.now)
    (sym (on_its_value c.args.op c.args.begin.count c.args.from c.args.at s (thing_of c.args.thing) (file_of c.args.file.now) (expression_of c.in-Ok.x)
    c.in_default.not-Address c.in-Ok.ensures)) (c.on_value.ensures s p)
