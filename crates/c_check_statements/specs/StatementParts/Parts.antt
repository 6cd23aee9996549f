-- Parts of statements, as the code finds them.
use Rattle.std.specs.Prelude.{ℕ, ◌+◌, List, [], ◌∷◌, ◌++◌, reverse, Option, Some, None, Ok}
use Rattle.c_types.specs.Types.{CType}
use Rattle.c_ast.specs.Trees
use Rattle.c_typed.specs.Trees as Typed
use Rattle.c_erasure.specs.BrokenStatements.{Labels}
use Rattle.c_erasure.specs.Scopes.{Scope}
use Rattle.c_erasure.specs.Statements.{Arms, Statement, Statements, with_first}
use Rattle.c_erasure.specs.Checking.Answers.{Answer, ◌>>=◌, Checked}
use Rattle.c_erasure.specs.Checking.Statements.{Found, Performed, returned_in, unless_void}
use Rattle.c_erasure.specs.Checking.Statements.{value_of_expression, with_case, with_default}
use Rattle.c_check_statements.specs.declared.statement_parts.labels.ArmLabels.{ArmLabels}
use Rattle.c_check_statements.specs.declared.statement_parts.labels.SwitchLabels.{SwitchLabels}

-- ---- what a function gives

abbrev pub value_returned : CType → (at : ℕ) → Trees.Expression → Scope → Performed Statement
value_returned result at a s = unless_void at result (value_of_expression a s
    >>= λ x. returned_in at result x.0 >>= λ y. Ok (Typed.return (Some y), x.1))

-- ---- labels

-- those of a `switch` up to there, the last one first
abbrev pub switch_labels_of : SwitchLabels → Labels
switch_labels_of all = record { cases = reverse all.cases; defaults = all.defaults }

-- those of one statement, with those of the `switch`
abbrev pub labels_of : SwitchLabels → ArmLabels → Found
labels_of all own = record { cases = own.cases; defaults = own.defaults; all = switch_labels_of all }

-- labels of one statement after others
abbrev pub labels_after : List ℕ → ℕ → Checked Found → Checked Found
labels_after cases defaults r = r >>= λ x. Ok (record x.0 { cases = cases ++ x.0.cases; defaults = defaults + x.0.defaults }, x.1)

-- a label after those of its statement
abbrev pub case_in : (at : ℕ) → Labels → ℕ → List ℕ → ℕ → Answer Found
case_in at before v cases defaults = with_case at before v >>= λ all. Ok (record { cases = cases ++ v ∷ []; defaults = defaults; all = all })

abbrev pub default_in : (at : ℕ) → Labels → List ℕ → ℕ → Answer Found
default_in at before cases defaults = with_default at before >>= λ all. Ok (record { cases = cases; defaults = defaults + 1; all = all })

-- ---- a `switch`

-- the arms of all items, those before the first label in one without labels
abbrev pub with_first_arm : Performed (Statements × Arms) → Performed Arms
with_first_arm r = r >>= λ x. Ok (with_first x.0.0 x.0.1, x.1)

-- ---- locals that statements declare

-- the one that a statement declares itself
abbrev pub number_declared : Statement → Option ℕ
number_declared (Typed.declare n initial) = Some n
number_declared st = None
