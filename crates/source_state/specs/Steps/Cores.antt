-- What a run that goes on has beside its work and its operands: the locals of the function that runs, memory, and what is counted.
use Rattle.std.specs.Prelude.{◌≡◌, ℕ, Result, Ok, Err, MatchResult}
use Rattle.lay_base.specs.declared.faults.UndefinedKind.{UndefinedKind}
use Rattle.lay_base.specs.declared.place.Place.{Place}
use Rattle.block_memory.specs.Blocks.{Memory}
use Rattle.block_memory.specs.Tested.{Tested}
use Rattle.c_meaning.specs.Frames.{Frame}
use Rattle.source_state.specs.Steps.Counting.{Counting}
use Rattle.source_state.specs.declared.ends.Final.{Final}
use Rattle.source_state.specs.declared.ends.Final.TheVariants.{Undefined}

pub record Core : Type 0 where
  pub frame : Frame
  pub memory : Memory
  -- the bytes of all blocks that live
  pub live : ℕ
  -- how many turns may still begin
  pub turns : ℕ
  -- how many functions were entered and not left
  pub depth : ℕ
  pub counts : Counting

-- a result, or the end of the run, and what there is then
abbrev pub Does : Type 0 → Type 0
Does A = Result A Final × Core

abbrev pub done : {A : Type 0} → A → Core → Does A
done x c = (Ok x, c)

abbrev pub behind : {A B : Type 0} → Result A Final → Core → (A → Core → Does B) → Does B
behind (Ok x) c next = next x c
behind (Err end) c next = (Err end, c)

-- one after the other
abbrev pub and_then : {A B : Type 0} → Does A → (A → Core → Does B) → Does B
and_then d next = behind d.0 d.1 next

-- what a call that changes these does: its step, or, with the kind, nothing
abbrev pub Changes : Result (Unit {0}) UndefinedKind → (old new : Core) → Tested Core → Type 0
Changes result old new defined = MatchResult result (λ _. defined ≡ Ok new) (λ kind. (defined ≡ Err kind) × (new ≡ old))

-- what memory does, or its kind of undefined behaviour at that place
abbrev pub tested : Place → Tested Core → Core → Does (Unit {0})
tested at (Ok new) c = (Ok tt, new)
tested at (Err kind) c = (Err (Undefined kind at), c)
