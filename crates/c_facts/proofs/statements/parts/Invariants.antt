use Rattle.std.proofs.Common.{◌≡◌, ◌++◌, drop, None}
use Rattle.std.specs.Prelude.{flat_map, map}
use Rattle.c_typed.specs.Views.{part_of}
use Rattle.c_facts.specs.Facts.{facts_by_value}
use Rattle.c_facts.proofs.statements.parts.Given as goal

abbrev pub invariant-loop-part : goal.invariant-loop-part
invariant-loop-part l = l.found.want ≡ None → (l.fn.found.want ≡ None)
    × (l.found.list ++ flat_map (λ part. facts_by_value part.value) (map part_of (drop l.part-index l.all))
    ≡ l.fn.found.list ++ flat_map (λ part. facts_by_value part.value) (map part_of l.all))
