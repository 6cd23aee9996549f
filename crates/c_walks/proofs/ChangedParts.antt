-- Nodes and statements with a part that may be absent, and what is kept of one part after another.
use Rattle.std.proofs.Common.{◌≡◌, refl, ap, ◌∙◌, sym, rules, List, ◌++◌, append_assoc}
use Rattle.std.specs.Prelude.{Option, Some, None}
use Rattle.std.specs.Option.{option_map}
use Rattle.c_typed.specs.Changed.{Change, changed, changed_if_any, changed_statement}
use Rattle.c_typed.specs.Gathered.{gathered_from_optional, gathered_if_any}
use Rattle.c_typed.specs.Trees
use Rattle.c_typed.specs.TreeViews.{expression_of, optional_of, statement_of}
use Rattle.c_typed.specs.declared.expression.Expression.{Expression}
use Rattle.c_typed.specs.declared.statement.Statement.{Statement, the_lemmas}
use Rattle.c_typed.specs.declared.statement.Statement.TheVariants as S

pub both_kept : {X : Type 0} (start between after one other : List X) → between ≡ start ++ one → after ≡ between ++ other → after ≡ start ++ (one ++ other)
both_kept start between after one other h k = k ∙ ap (λ them. them ++ other) h ∙ append_assoc start one other

module _ {T V : Type 0} (seen : T → V) where
  pub count_changed : (change : Change V V) (count after : Option (Expression T))
      → option_map (expression_of seen) after ≡ option_map (changed change) (option_map (expression_of seen) count)
      → optional_of (option_map (expression_of seen) after) ≡ changed_if_any change (optional_of (option_map (expression_of seen) count))
  count_changed change None _ e = ap optional_of e
  count_changed change (Some count) _ e = ap optional_of e

  pub count_gathered : {X : Type 0} (own : Trees.Expression V → List X) (count : Option (Expression T))
      → gathered_if_any own (optional_of (option_map (expression_of seen) count)) ≡ gathered_from_optional own (option_map (expression_of seen) count)
  count_gathered own None = refl
  count_gathered own (Some count) = refl

  both_are : (e : Expression T) (one other : Statement T) → statement_of seen (S.If e one (Some other))
      ≡ Trees.when_else (expression_of seen e) (statement_of seen one) (statement_of seen other)
  both_are e one other = search (rules, the_lemmas)

  pub either_changed : (change : Change V V) (e d : Expression T) (one first other second : Statement T)
      → expression_of seen d ≡ changed change (expression_of seen e)
      → statement_of seen first ≡ changed_statement change (statement_of seen one)
      → statement_of seen second ≡ changed_statement change (statement_of seen other)
      → statement_of seen (S.If d first (Some second)) ≡ changed_statement change (statement_of seen (S.If e one (Some other)))
  either_changed change e d one first other second h i j =
      both_are d first second
      ∙ ap (λ x. Trees.when_else x (statement_of seen first) (statement_of seen second)) h
      ∙ ap (λ s. Trees.when_else (changed change (expression_of seen e)) s (statement_of seen second)) i
      ∙ ap (λ s. Trees.when_else (changed change (expression_of seen e)) (changed_statement change (statement_of seen one)) s) j
      ∙ ap (changed_statement change) (sym (both_are e one other))
