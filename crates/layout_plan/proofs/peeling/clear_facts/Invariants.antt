use Rattle.std.proofs.Common.{◌≡◌, drop, fold, map}
use Rattle.std.specs.Prelude.{flat_map}
use Rattle.c_types.specs.Views.{type_of}
use Rattle.layout_plan.specs.Peeling.{by_fact}
use Rattle.layout_plan.specs.Clearing.{cleared}
use Rattle.layout_plan.proofs.peeling.clear_facts.Given as goal

abbrev pub invariant-loop-fact : goal.invariant-loop-fact
invariant-loop-fact l = fold cleared l.marks (flat_map (by_fact (map type_of l.types)) (drop l.fact-index l.facts))
    ≡ fold cleared l.fn.marks (flat_map (by_fact (map type_of l.types)) l.facts)
