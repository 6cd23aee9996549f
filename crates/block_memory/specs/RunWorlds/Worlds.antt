-- The world of a run, and how a run ends.
use Rattle.std.specs.Prelude.{ℕ, ◌+◌, Bool, List, [], ◌∷◌}
use Rattle.lay_base.specs.declared.faults.RoomKind.{RoomKind}
use Rattle.lay_base.specs.declared.faults.UndefinedKind.{UndefinedKind}
use Rattle.lay_base.specs.declared.place.Place.{Place}
use Rattle.block_memory.specs.Blocks.{Memory, Contents, living, ended}
use Rattle.std.specs.Prelude.{length}
use Rattle.block_memory.specs.RunWorlds.Events.{Event}

pub record World : Type 0 where
  -- how many turns may still begin
  pub turns : ℕ
  pub memory : Memory
  -- what is left of it
  pub input : List ℕ
  -- the last event first
  pub trace : List Event
  -- how many functions were entered and not left
  pub depth : ℕ
  -- whether the run is kept within the room of the interpreter
  pub is_limited : Bool

pub data End : Type 0 where
  ends : (status : ℕ) → (w : World) → End
  -- the turns are used up, and the next would begin
  goes_on : (w : World) → End
  -- the step of the expression at this place has no defined meaning
  undefined : (kind : UndefinedKind) → (place : Place) → (w : World) → End
  -- the limit would be passed with that many bytes, or calls
  out_of_room : (kind : RoomKind) → (counted : ℕ) → (w : World) → End

-- the world that is left
abbrev pub world_of : End → World
world_of (ends status w) = w
world_of (goes_on w) = w
world_of (undefined kind place w) = w
world_of (out_of_room kind counted w) = w

-- ---- the room of the interpreter (own)

abbrev pub greatest_live : ℕ
greatest_live = 33554432

abbrev pub greatest_depth : ℕ
greatest_depth = 100000

abbrev pub live_in : Contents → ℕ
live_in (living cells) = length cells
live_in (ended size) = 0

-- the bytes of all blocks that live
abbrev pub live_bytes : Memory → ℕ
live_bytes [] = 0
live_bytes (b ∷ more) = live_in b.contents + live_bytes more
