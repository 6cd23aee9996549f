use Rattle.std.proofs.Common.{◌≡◌, rules, subst}
use Rattle.std.specs.Prelude.{Ok, Some}
use Rattle.c_typed.specs.Trees as Typed
use Rattle.c_typed.specs.declared.statement.Statement.{the_lemmas}
use Rattle.c_typed.specs.declared.statement.Statement.TheVariants as S
use Rattle.c_annotated.specs.Views.{AStatement, expression_of, statement_of}
use Rattle.c_nodes.specs.Gives.{Gives}
use Rattle.c_check_statements.proofs.statement_parts.making.if_else_of.Goals as goal

pub returns : goal.returns
returns c =
    let e : statement_of (S.If c.args.x c.args.one (Some c.args.other)) ≡ Typed.when_else (expression_of c.args.x) (statement_of c.args.one) (statement_of c.args.other) =
    search (rules, the_lemmas) in
    subst (λ (st : AStatement). Gives statement_of c.statement.result (Ok st)) e c.statement.ensures
