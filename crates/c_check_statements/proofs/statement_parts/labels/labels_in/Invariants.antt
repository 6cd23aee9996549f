use Rattle.std.proofs.Common.{◌≡◌, ◌≤◌, map, drop}
use Rattle.c_ast.specs.Views.{label_of}
use Rattle.c_erasure.specs.Checking.Statements.{labels_in}
use Rattle.c_scopes.specs.Scoping.{scope_of}
use Rattle.c_check_statements.specs.StatementParts.Parts.{labels_after, switch_labels_of}
use Rattle.c_check_statements.proofs.statement_parts.labels.labels_in.Given as goal

abbrev pub invariant-loop-label : goal.invariant-loop-label
invariant-loop-label l =
    (labels_in (map label_of l.labels) (scope_of l.fn.file l.scope) l.kind (switch_labels_of l.fn.all)
    ≡ labels_after l.own.cases l.own.defaults
    (labels_in (map label_of (drop l.label-index l.labels)) (scope_of l.file l.scope) l.kind (switch_labels_of l.all)))
    × (l.own.defaults ≤ l.label-index)
