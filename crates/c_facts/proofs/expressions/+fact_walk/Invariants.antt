use Rattle.std.proofs.Common.{◌≡◌, ◌++◌, drop, None}
use Rattle.std.specs.Prelude.{map}
use Rattle.c_typed.specs.Views.{expression_of, expressions_of}
use Rattle.c_facts.specs.Facts.{facts_by_all}
use Rattle.c_facts.proofs.expressions.+fact_walk.Given as goal

abbrev pub invariant-expressions-loop-e : goal.invariant-expressions-loop-e
invariant-expressions-loop-e l = l.found.want ≡ None → (l.fn.found.want ≡ None)
    × (l.found.list ++ facts_by_all l.context (expressions_of (map expression_of (drop l.e-index l.all)))
    ≡ l.fn.found.list ++ facts_by_all l.context (expressions_of (map expression_of l.all)))
