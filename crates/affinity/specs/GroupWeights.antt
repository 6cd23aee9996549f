-- The weight of each group.
use Rattle.std.specs.Prelude.{ℕ, ◌+◌, ◌-◌, ◌^◌, min, List, [], ◌∷◌, Option, Some, None, slice_get, unwrap_or}
use Rattle.c_typed.specs.declared.run_counts.counts.Counts.{Counts}
use Rattle.c_facts.specs.declared.fact.Fact.{Fact}
use Rattle.c_facts.specs.declared.fact.Fact.TheVariants as F
use Rattle.c_facts.specs.Groups.{counts_in}

-- of a loop at a depth: one in no other is at depth 1; of a function, at depth 0
abbrev pub guess : (depth : ℕ) → ℕ
guess depth = 10 ^ min depth 8

-- without a profile, from where so many loops are open
abbrev pub guessed : (depth : ℕ) → List Fact → List ℕ
guessed depth [] = []
guessed depth (F.FunctionBegins ∷ more) = guess 0 ∷ guessed 0 more
guessed depth (F.LoopBegins ∷ more) = guess (depth + 1) ∷ guessed (depth + 1) more
guessed depth (F.LoopEnds ∷ more) = guessed (depth - 1) more
guessed depth (fact ∷ more) = guessed depth more

-- by a profile, whose functions and loops stand in the same order
abbrev pub weights : Option Counts → List Fact → List ℕ
weights None facts = guessed 0 facts
weights (Some c) facts = counts_in c

-- 0 past the last
abbrev pub weight_of : List ℕ → (group : ℕ) → ℕ
weight_of weights group = unwrap_or (slice_get weights group) 0
