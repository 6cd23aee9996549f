use Rattle.std.proofs.Common.{◌≡◌, ◌++◌, drop, None}
use Rattle.std.specs.Prelude.{map}
use Rattle.c_typed.specs.Views.{arm_of, arms_of, statement_of, statements_of}
use Rattle.c_facts.specs.Facts.{facts_by_arms, facts_by_statements}
use Rattle.c_facts.proofs.statements.+statement_fact_walk.Given as goal

abbrev pub invariant-statements-loop-s : goal.invariant-statements-loop-s
invariant-statements-loop-s l = l.found.want ≡ None → (l.fn.found.want ≡ None)
    × (l.found.list ++ facts_by_statements (statements_of (map statement_of (drop l.s-index l.all)))
    ≡ l.fn.found.list ++ facts_by_statements (statements_of (map statement_of l.all)))

abbrev pub invariant-arms_of-loop-arm : goal.invariant-arms_of-loop-arm
invariant-arms_of-loop-arm l = l.found.want ≡ None → (l.fn.found.want ≡ None)
    × (l.found.list ++ facts_by_arms (arms_of (map arm_of (drop l.arm-index l.all)))
    ≡ l.fn.found.list ++ facts_by_arms (arms_of (map arm_of l.all)))
