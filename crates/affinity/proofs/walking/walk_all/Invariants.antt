use Rattle.std.proofs.Common.{◌≡◌, ◌++◌, drop, None}
use Rattle.affinity.specs.Walking.{accesses_by, guesses_by, open_after, open_in}
use Rattle.affinity.proofs.walking.walk_all.Given as goal

abbrev pub invariant-loop-fact : goal.invariant-loop-fact
invariant-loop-fact l = l.walk.want ≡ None → (l.fn.walk.want ≡ None)
    × (open_after (open_in l.walk) (drop l.fact-index l.facts) ≡ open_after (open_in l.fn.walk) l.facts)
    × (l.walk.accesses ++ accesses_by (open_in l.walk) (drop l.fact-index l.facts) ≡ l.fn.walk.accesses ++ accesses_by (open_in l.fn.walk) l.facts)
    × (l.walk.weights ++ guesses_by (open_in l.walk) (drop l.fact-index l.facts) ≡ l.fn.walk.weights ++ guesses_by (open_in l.fn.walk) l.facts)
