use Rattle.std.proofs.Common.{◌≡◌, ◌++◌, ◌∷◌, drop}
use Rattle.std.specs.Prelude.{flat_map}
use Rattle.c_facts.specs.Groups.{counts_in}
use Rattle.affinity.proofs.profile.counts_in.Given as goal

abbrev pub invariant-loop-f : goal.invariant-loop-f
invariant-loop-f l = l.all ++ flat_map (λ f. f.entries ∷ f.loops) (drop l.f-index l.counts.functions) ≡ counts_in l.counts
