use Rattle.std.proofs.Common.{◌≡◌, ◌++◌, map, drop}
use Rattle.c_typed.specs.TypedStatements.{declared_by}
use Rattle.c_annotated.specs.Views.{statement_of, statements_of}
use Rattle.c_check_statements.proofs.statement_parts.making.add_declared.Given as goal

abbrev pub invariant-loop-st : goal.invariant-loop-st
invariant-loop-st l = l.fn.locals ++ declared_by (statements_of (map statement_of l.all))
    ≡ l.locals ++ declared_by (statements_of (map statement_of (drop l.st-index l.all)))
