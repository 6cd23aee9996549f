-- What a part of a run comes to, whatever the rest of the run does with it.
use Rattle.std.specs.Prelude.{ℕ, ◌≤◌}
use Rattle.block_memory.specs.RunWorlds.Doing.{Rest}
use Rattle.block_memory.specs.RunWorlds.Worlds.{World, End}

pub data Outcome (F A : Type 0) : Type 0 where
  -- a result, with the frame and the world behind it
  comes : (x : A) → (f : F) → (w : World) → Outcome F A
  -- the end of the run
  over : (e : End) → Outcome F A

abbrev pub with_rest : {F A : Type 0} → Outcome F A → Rest F A → End
with_rest (comes x f w) rest = rest x f w
with_rest (over e) rest = e

-- one behind the other
abbrev pub and_then : {F A B : Type 0} → Outcome F A → (A → F → World → Outcome F B) → Outcome F B
and_then (comes x f w) next = next x f w
and_then (over e) next = over e

-- no more than so many turns are left behind it
abbrev pub IsWithin : {F A : Type 0} → ℕ → Outcome F A → Type 0
IsWithin t (comes x f w) = w.turns ≤ t
IsWithin t (over e) = Unit {0}
