-- What the walk finds is what the definitions say.
use Rattle.std.proofs.Common.{◌≡◌, ap, ℕ, ◌+◌, ◌-◌, List, [], ◌∷◌, ◌++◌, refl}
use Rattle.std.specs.Prelude.{reverse}
use Rattle.std.proofs.lemmas.List.{reverse-append}
use Rattle.c_facts.specs.declared.fact.Fact.{Fact}
use Rattle.c_facts.specs.declared.fact.Fact.TheVariants as F
use Rattle.affinity.specs.Accesses.{access, accesses}
use Rattle.affinity.specs.GroupWeights.{guess, guessed}
use Rattle.affinity.specs.Walking.{Open, accesses_by, guesses_by}

-- the group that is added last is the innermost
pub innermost : (outer : List ℕ) (group : ℕ) → reverse (outer ++ group ∷ []) ≡ group ∷ reverse outer
innermost outer group = reverse-append outer (group ∷ [])

abbrev opened : List ℕ → (depth inner next : ℕ) → Open
opened outer depth inner next = record { outer = outer; depth = depth; inner = inner; next = next }

from : (outer : List ℕ) (depth inner next : ℕ) (facts : List Fact) → accesses_by (opened outer depth inner next) facts ≡ accesses outer inner next facts
from outer depth inner next [] = refl
from outer depth inner next (F.FunctionBegins ∷ more) = from [] 0 next (next + 1) more
from outer depth inner next (F.LoopBegins ∷ more) = from (inner ∷ outer) (depth + 1) next (next + 1) more
from [] depth inner next (F.LoopEnds ∷ more) = from [] (depth - 1) inner next more
from (group ∷ outer) depth inner next (F.LoopEnds ∷ more) = from outer (depth - 1) group next more
from outer depth inner next (F.Site of field is_read ∷ more) = ap (λ all. access of field is_read inner ∷ all) (from outer depth inner next more)
from outer depth inner next (F.Value t ∷ more) = from outer depth inner next more
from outer depth inner next (F.Converted s t at ∷ more) = from outer depth inner next more
from outer depth inner next (F.Taken r at ∷ more) = from outer depth inner next more
from outer depth inner next (F.Passed which t at ∷ more) = from outer depth inner next more
from outer depth inner next (F.Function t at ∷ more) = from outer depth inner next more
from outer depth inner next (F.Copied t at ∷ more) = from outer depth inner next more

guesses_from : (outer : List ℕ) (depth inner next : ℕ) (facts : List Fact) → guesses_by (opened outer depth inner next) facts ≡ guessed depth facts
guesses_from outer depth inner next [] = refl
guesses_from outer depth inner next (F.FunctionBegins ∷ more) = ap (λ all. guess 0 ∷ all) (guesses_from [] 0 next (next + 1) more)
guesses_from outer depth inner next (F.LoopBegins ∷ more) = ap (λ all. guess (depth + 1) ∷ all) (guesses_from (inner ∷ outer) (depth + 1) next (next + 1) more)
guesses_from [] depth inner next (F.LoopEnds ∷ more) = guesses_from [] (depth - 1) inner next more
guesses_from (group ∷ outer) depth inner next (F.LoopEnds ∷ more) = guesses_from outer (depth - 1) group next more
guesses_from outer depth inner next (F.Site of field is_read ∷ more) = guesses_from outer depth inner next more
guesses_from outer depth inner next (F.Value t ∷ more) = guesses_from outer depth inner next more
guesses_from outer depth inner next (F.Converted s t at ∷ more) = guesses_from outer depth inner next more
guesses_from outer depth inner next (F.Taken r at ∷ more) = guesses_from outer depth inner next more
guesses_from outer depth inner next (F.Passed which t at ∷ more) = guesses_from outer depth inner next more
guesses_from outer depth inner next (F.Function t at ∷ more) = guesses_from outer depth inner next more
guesses_from outer depth inner next (F.Copied t at ∷ more) = guesses_from outer depth inner next more

-- from where nothing is open
pub accesses_are : (facts : List Fact) → accesses_by (opened [] 0 0 0) facts ≡ accesses [] 0 0 facts
accesses_are facts = from [] 0 0 0 facts

pub guesses_are : (facts : List Fact) → guesses_by (opened [] 0 0 0) facts ≡ guessed 0 facts
guesses_are facts = guesses_from [] 0 0 0 facts
