use Rattle.std.proofs.Common.{◌≡◌, ◌++◌, drop}
use Rattle.std.specs.Prelude.{flat_map, map}
use Rattle.c_typed.specs.Addressed.{addressed_by_value}
use Rattle.c_typed.specs.References.{references_by_value}
use Rattle.c_typed.specs.TreeViews.{part_of}
use Rattle.c_typed.specs.Walk.{types_in_value}
use Rattle.c_walks.specs.NodeTypes.{references_in, taken_in, types_found}
use Rattle.c_walks.proofs.statements.walk_parts.Given as goal

abbrev pub invariant-loop-part : goal.invariant-loop-part
invariant-loop-part g l =
    let seen = g.T.NodeType.seen in
    let left = map (part_of seen) (drop l.part-index l.all) in
    let all = map (part_of seen) l.all in
    (types_found seen l.found ++ flat_map (λ part. types_in_value part.value) left ≡ types_found seen l.fn.found ++ flat_map (λ part. types_in_value part.value) all)
    × (taken_in l.found ++ flat_map (λ part. addressed_by_value part.value) left ≡ taken_in l.fn.found ++ flat_map (λ part. addressed_by_value part.value) all)
    × (references_in l.found ++ flat_map (λ part. references_by_value part.value) left
    ≡ references_in l.fn.found ++ flat_map (λ part. references_by_value part.value) all)
