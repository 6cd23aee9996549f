-- Nodes and statements with a part that may be absent.
use Rattle.std.proofs.Common.{◌≡◌, ℕ, Bool, ap, ◌∙◌, sym, rules}
use Rattle.std.specs.Prelude.{Some}
use Rattle.c_typed.specs.Mapped.{Renaming, mapped, mapped_node, mapped_statement}
use Rattle.c_typed.specs.Trees
use Rattle.c_typed.specs.declared.expression.Expression.{Expression as Typed, the_lemmas}
use Rattle.c_typed.specs.declared.expression.ExpressionNode.TheVariants as E
use Rattle.c_typed.specs.declared.statement.Statement.{Statement as TypedStatement, the_lemmas as statement_lemmas}
use Rattle.c_typed.specs.declared.statement.Statement.TheVariants as S
use Rattle.c_erasure.specs.Noted.{Noted}
use Rattle.c_annotated.specs.Views.{expression_of as noted_expression, node_of as noted_node, statement_of as noted_statement}
use Rattle.c_annotated.specs.Trees.{Expression, Statement}
use Rattle.c_typed.specs.Views.{expression_of, node_of, statement_of}

node_is : (r : ℕ) (count : Expression) (zeroed : Bool) → noted_node (E.Allocate r (Some count) zeroed)
    ≡ Trees.allocate r (Trees.some_expression (noted_expression count)) zeroed
node_is r count zeroed = search (rules, the_lemmas)

typed_node_is : (r : ℕ) (count : Typed ℕ) (zeroed : Bool) → node_of (E.Allocate r (Some count) zeroed)
    ≡ Trees.allocate r (Trees.some_expression (expression_of count)) zeroed
typed_node_is r count zeroed = search (rules, the_lemmas)

pub allocated : (m : Renaming Noted ℕ) (r : ℕ) (count : Expression) (done : Typed ℕ) (zeroed : Bool)
    → expression_of done ≡ mapped m (noted_expression count)
    → node_of (E.Allocate (m.structure r) (Some done) zeroed) ≡ mapped_node m (noted_node (E.Allocate r (Some count) zeroed))
allocated m r count done zeroed h =
    typed_node_is (m.structure r) done zeroed
    ∙ ap (λ e. Trees.allocate (m.structure r) (Trees.some_expression e) zeroed) h
    ∙ ap (mapped_node m) (sym (node_is r count zeroed))

statement_is : (e : Expression) (one other : Statement) → noted_statement (S.If e one (Some other))
    ≡ Trees.when_else (noted_expression e) (noted_statement one) (noted_statement other)
statement_is e one other = search (rules, statement_lemmas)

typed_statement_is : (e : Typed ℕ) (one other : TypedStatement ℕ) → statement_of (S.If e one (Some other))
    ≡ Trees.when_else (expression_of e) (statement_of one) (statement_of other)
typed_statement_is e one other = search (rules, statement_lemmas)

pub either_mapped : (m : Renaming Noted ℕ) (e : Expression) (d : Typed ℕ) (one : Statement) (first : TypedStatement ℕ) (other : Statement)
    (second : TypedStatement ℕ) → expression_of d ≡ mapped m (noted_expression e)
    → statement_of first ≡ mapped_statement m (noted_statement one) → statement_of second ≡ mapped_statement m (noted_statement other)
    → statement_of (S.If d first (Some second)) ≡ mapped_statement m (noted_statement (S.If e one (Some other)))
either_mapped m e d one first other second h i j =
    typed_statement_is d first second
    ∙ ap (λ x. Trees.when_else x (statement_of first) (statement_of second)) h
    ∙ ap (λ s. Trees.when_else (mapped m (noted_expression e)) s (statement_of second)) i
    ∙ ap (λ s. Trees.when_else (mapped m (noted_expression e)) (mapped_statement m (noted_statement one)) s) j
    ∙ ap (mapped_statement m) (sym (statement_is e one other))
