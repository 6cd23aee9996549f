use Rattle.std.proofs.Common.{◌∙◌, ap}
use Rattle.c_typed.specs.Rules.{promoting}
use Rattle.c_erasure.specs.Noted.{type_of}
use Rattle.c_annotated.specs.Views.{expression_of}
use Rattle.c_nodes.proofs.OperatorNodes.Promoted.{promoted_other, type_seen}
use Rattle.c_nodes.proofs.operator_nodes.subscripts.promote.Goals as goal

pub returns-in-None : goal.returns-in-None
returns-in-None c = promoted_other (expression_of c.args.x)
    (c.in-None.ensures ∙ ap promoting (type_seen c.get.result.now ∙ ap (λ e. type_of (expression_of e)) c.get.ensures))
