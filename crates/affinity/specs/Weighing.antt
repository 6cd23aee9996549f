-- What is kept of a program: its accesses, the weights of its groups, and whether a profile gave them.
use Rattle.std.specs.Prelude.{◌≡◌, ◌<◌, Bool, true, false, List, Option, Some, None, length}
use Rattle.std.specs.List.{All}
use Rattle.c_typed.specs.declared.run_counts.counts.Counts.{Counts}
use Rattle.c_typed.specs.Programs.{ProgramData}
use Rattle.c_typed.specs.RunCounts.Stale.{Fits}
use Rattle.c_facts.specs.declared.fact.Fact.{Fact}
use Rattle.c_facts.specs.Groups.{LoopsStartPlainly}
use Rattle.c_facts.specs.Programs.{facts_of}
use Rattle.affinity.specs.declared.weights.Weights.{Weights}
use Rattle.affinity.specs.Accesses.{accesses_in}
use Rattle.affinity.specs.GroupWeights.{weights}

abbrev pub is_given : Option Counts → Bool
is_given None = false
is_given (Some c) = true

abbrev pub Weighs : Option Counts → List Fact → Weights → Type 0
Weighs counts facts w = (w.accesses ≡ accesses_in facts) × (w.groups ≡ weights counts facts) × (w.by_profile ≡ is_given counts)

-- ---- a law

-- a profile, if there is one, is of the program, in which no `for` begins with a loop
abbrev pub FitsIfAny : Option Counts → ProgramData → Type 0
FitsIfAny None p = Unit {0}
FitsIfAny (Some c) p = LoopsStartPlainly p × Fits c p

-- each access of a program is one of a group that has a weight
abbrev pub AccessesAreWeighed : Type 0
AccessesAreWeighed = (counts : Option Counts) (p : ProgramData) → FitsIfAny counts p
    → All (λ a. a.group < length (weights counts (facts_of p))) (accesses_in (facts_of p))
