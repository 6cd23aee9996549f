use Rattle.std.proofs.Common.{◌≡◌, ◌++◌, drop}
use Rattle.std.specs.Prelude.{map}
use Rattle.c_typed.specs.Addressed.{addressed_by_arms, addressed_by_statements}
use Rattle.c_typed.specs.References.{references_by_arms, references_by_statements}
use Rattle.c_typed.specs.TreeViews.{arm_of, arms_of, statement_of, statements_of}
use Rattle.c_typed.specs.Walk.{types_in_arms, types_in_statements}
use Rattle.c_walks.specs.NodeTypes.{references_in, taken_in, types_found}
use Rattle.c_walks.proofs.statements.+statement_walk.Given as goal

abbrev pub invariant-walk_statements-loop-s : goal.invariant-walk_statements-loop-s
invariant-walk_statements-loop-s g l =
    let seen = g.T.NodeType.seen in
    let left = statements_of (map (statement_of seen) (drop l.s-index l.all)) in
    let all = statements_of (map (statement_of seen) l.all) in
    (types_found seen l.found ++ types_in_statements left ≡ types_found seen l.fn.found ++ types_in_statements all)
    × (taken_in l.found ++ addressed_by_statements left ≡ taken_in l.fn.found ++ addressed_by_statements all)
    × (references_in l.found ++ references_by_statements left ≡ references_in l.fn.found ++ references_by_statements all)

abbrev pub invariant-walk_arms-loop-arm : goal.invariant-walk_arms-loop-arm
invariant-walk_arms-loop-arm g l =
    let seen = g.T.NodeType.seen in
    let left = arms_of (map (arm_of seen) (drop l.arm-index l.all)) in
    let all = arms_of (map (arm_of seen) l.all) in
    (types_found seen l.found ++ types_in_arms left ≡ types_found seen l.fn.found ++ types_in_arms all)
    × (taken_in l.found ++ addressed_by_arms left ≡ taken_in l.fn.found ++ addressed_by_arms all)
    × (references_in l.found ++ references_by_arms left ≡ references_in l.fn.found ++ references_by_arms all)
