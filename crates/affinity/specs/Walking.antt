-- What is kept during the walk over the facts, where memory is not out.
use Rattle.std.specs.Prelude.{◌≡◌, ℕ, ◌+◌, ◌-◌, None, List, [], ◌∷◌, ◌++◌, length, reverse}
use Rattle.c_facts.specs.declared.fact.Fact.{Fact}
use Rattle.c_facts.specs.declared.fact.Fact.TheVariants as F
use Rattle.affinity.specs.declared.access.Access.{Access}
use Rattle.affinity.specs.declared.walking.Walk.{Walk}
use Rattle.affinity.specs.Accesses.{access}
use Rattle.affinity.specs.GroupWeights.{guess}

-- the groups around the open one, innermost first, and how many they are; the open one; the next one
pub record Open : Type 0 where
  pub outer : List ℕ
  pub depth : ℕ
  pub inner : ℕ
  pub next : ℕ

abbrev pub left : List ℕ → Open → Open
left [] o = record { outer = []; depth = o.depth - 1; inner = o.inner; next = o.next }
left (group ∷ outer) o = record { outer = outer; depth = o.depth - 1; inner = group; next = o.next }

abbrev pub after : Open → Fact → Open
after o F.FunctionBegins = record { outer = []; depth = 0; inner = o.next; next = o.next + 1 }
after o F.LoopBegins = record { outer = o.inner ∷ o.outer; depth = o.depth + 1; inner = o.next; next = o.next + 1 }
after o F.LoopEnds = left o.outer o
after o fact = o

abbrev pub access_of : (group : ℕ) → Fact → List Access
access_of group (F.Site of field is_read) = access of field is_read group ∷ []
access_of group fact = []

abbrev pub guess_of : (depth : ℕ) → Fact → List ℕ
guess_of depth F.FunctionBegins = guess 0 ∷ []
guess_of depth F.LoopBegins = guess (depth + 1) ∷ []
guess_of depth fact = []

abbrev pub open_after : Open → List Fact → Open
open_after o [] = o
open_after o (fact ∷ more) = open_after (after o fact) more

abbrev pub accesses_by : Open → List Fact → List Access
accesses_by o [] = []
accesses_by o (fact ∷ more) = access_of o.inner fact ++ accesses_by (after o fact) more

abbrev pub guesses_by : Open → List Fact → List ℕ
guesses_by o [] = []
guesses_by o (fact ∷ more) = guess_of o.depth fact ++ guesses_by (after o fact) more

-- ---- the functions of the walk

abbrev pub open_in : Walk → Open
open_in w = record { outer = reverse w.outer; depth = length w.outer; inner = w.inner; next = length w.weights }

abbrev pub Opens : (old new : Walk) → (weight : ℕ) → Type 0
Opens old new weight = new.want ≡ None → (old.want ≡ None) × (new.outer ≡ old.outer) × (new.inner ≡ length old.weights)
    × (new.weights ≡ old.weights ++ weight ∷ []) × (new.accesses ≡ old.accesses)

abbrev pub Walks : (old new : Walk) → List Fact → Type 0
Walks old new facts = new.want ≡ None → (old.want ≡ None) × (open_in new ≡ open_after (open_in old) facts)
    × (new.accesses ≡ old.accesses ++ accesses_by (open_in old) facts) × (new.weights ≡ old.weights ++ guesses_by (open_in old) facts)
