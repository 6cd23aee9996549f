use Rattle.std.proofs.Common.{◌≡◌, ◌++◌, drop}
use Rattle.std.specs.Prelude.{map}
use Rattle.c_typed.specs.Addressed.{addressed_by_all}
use Rattle.c_typed.specs.References.{references_by_all}
use Rattle.c_typed.specs.TreeViews.{expression_of, expressions_of}
use Rattle.c_typed.specs.Walk.{types_in_all}
use Rattle.c_walks.specs.NodeTypes.{references_in, taken_in, types_found}
use Rattle.c_walks.proofs.expressions.+walk.Given as goal

abbrev pub invariant-walk_all-loop-e : goal.invariant-walk_all-loop-e
invariant-walk_all-loop-e g l =
    let seen = g.T.NodeType.seen in
    let left = expressions_of (map (expression_of seen) (drop l.e-index l.all)) in
    let all = expressions_of (map (expression_of seen) l.all) in
    (types_found seen l.found ++ types_in_all left ≡ types_found seen l.fn.found ++ types_in_all all)
    × (taken_in l.found ++ addressed_by_all left ≡ taken_in l.fn.found ++ addressed_by_all all)
    × (references_in l.found ++ references_by_all left ≡ references_in l.fn.found ++ references_by_all all)
