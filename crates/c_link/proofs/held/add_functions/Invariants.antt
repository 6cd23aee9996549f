use Rattle.std.proofs.Common.{◌≡◌, ◌++◌, drop, map}
use Rattle.std.specs.Prelude.{flat_map}
use Rattle.c_link.specs.Joining.{if_any}
use Rattle.c_link.specs.Gaps.{types_of_function}
use Rattle.c_typed.specs.Programs.{data_of}
use Rattle.c_typed.specs.References.{references_by_statement}
use Rattle.c_walks.specs.NodeTypes.{references_in, types_found}
use Rattle.c_link.proofs.held.add_functions.Given as goal

abbrev pub invariant-loop-f : goal.invariant-loop-f
invariant-loop-f l =
    let before = l.initial.found in
    let left = map data_of (drop l.f-index l.functions) in
    let all = map data_of l.functions in
    (types_found (λ n. n) l.found ++ flat_map types_of_function left ≡ types_found (λ n. n) before ++ flat_map types_of_function all)
    × (references_in l.found ++ flat_map (λ f. flat_map references_by_statement (if_any f.body)) left
    ≡ references_in before ++ flat_map (λ f. flat_map references_by_statement (if_any f.body)) all)
