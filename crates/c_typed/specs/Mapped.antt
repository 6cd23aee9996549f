-- A typed tree with something else for each type, and other numbers for objects, functions and records.
use Rattle.std.specs.Prelude.{ℕ}
use Rattle.c_typed.specs.Changed.{Change, changed, changed_all, changed_arms, changed_if_any, changed_initializer, changed_part, changed_parts, changed_path}
use Rattle.c_typed.specs.Changed.{changed_statement, changed_statements, changed_step, changed_value}
use Rattle.c_typed.specs.Trees

pub record Renaming (T S : Type 0) : Type 0 where
  pub ty : T → S
  pub object : ℕ → ℕ
  pub function : ℕ → ℕ
  pub structure : ℕ → ℕ

-- types alone
abbrev pub of_types : {T S : Type 0} → (T → S) → Renaming T S
of_types f = record { ty = f; object = λ n. n; function = λ n. n; structure = λ n. n }

module _ {T S : Type 0} (m : Renaming T S) where
  -- the numbers in a node itself
  abbrev pub renamed_node : Trees.Node S → Trees.Node S
  renamed_node (Trees.function_name f) = Trees.function_name (m.function f)
  renamed_node (Trees.call f all) = Trees.call (m.function f) all
  renamed_node (Trees.allocate r count zeroed) = Trees.allocate (m.structure r) count zeroed
  renamed_node node = node

  abbrev pub renamed_step : Trees.PathNode S → Trees.PathNode S
  renamed_step (Trees.object n) = Trees.object (m.object n)
  renamed_step (Trees.member p r field) = Trees.member p (m.structure r) field
  renamed_step step = step

  abbrev pub renamed : Change T S
  renamed = record {
    expression = λ t at node. Trees.expression (m.ty t) at (renamed_node node);
    path = λ t at step. Trees.path (m.ty t) at (renamed_step step);
  }

  abbrev pub mapped : Trees.Expression T → Trees.Expression S
  mapped = changed renamed

  abbrev pub mapped_node : Trees.Node T → Trees.Node S
  mapped_node node = renamed_node (changed_parts renamed node)

  abbrev pub mapped_path : Trees.Path T → Trees.Path S
  mapped_path = changed_path renamed

  abbrev pub mapped_step : Trees.PathNode T → Trees.PathNode S
  mapped_step step = renamed_step (changed_step renamed step)

  abbrev pub mapped_all : Trees.Expressions T → Trees.Expressions S
  mapped_all = changed_all renamed

  abbrev pub mapped_if_any : Trees.OptionalExpression T → Trees.OptionalExpression S
  mapped_if_any = changed_if_any renamed

  abbrev pub mapped_value : Trees.PartValue T → Trees.PartValue S
  mapped_value = changed_value renamed

  abbrev pub mapped_part : Trees.Part T → Trees.Part S
  mapped_part = changed_part renamed

  abbrev pub mapped_initializer : Trees.Initializer T → Trees.Initializer S
  mapped_initializer = changed_initializer renamed

  abbrev pub mapped_statement : Trees.Statement T → Trees.Statement S
  mapped_statement = changed_statement renamed

  abbrev pub mapped_statements : Trees.Statements T → Trees.Statements S
  mapped_statements = changed_statements renamed

  abbrev pub mapped_arms : Trees.Arms T → Trees.Arms S
  mapped_arms = changed_arms renamed
