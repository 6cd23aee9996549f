-- What a longer run, and one that is not kept within the room of the interpreter, have in common with another.
use Rattle.std.specs.Prelude.{◌≡◌, ℕ, ◌+◌, Bool, true, false, List, ◌++◌}
use Rattle.block_memory.specs.RunWorlds.Events.{Event}
use Rattle.block_memory.specs.RunWorlds.Worlds.{World, End, ends, goes_on, undefined, out_of_room, world_of}
use Rattle.c_meaning.specs.Run.{RunEnd, ended, went_on, was_undefined, no_room}

-- ---- worlds and ends

-- one world behind another: the trace has only grown, and the input was only read
pub record Onward (w u : World) : Type 0 where
  pub new : List Event
  pub trace : u.trace ≡ new ++ w.trace
  pub taken : List ℕ
  pub input : w.input ≡ taken ++ u.input

-- whatever comes, comes behind that world
abbrev pub Continues : World → End → Type 0
Continues w e = Onward w (world_of e)

-- whether a run is limited, where the limit may be lifted
abbrev pub still : (lifts limited : Bool) → Bool
still true limited = false
still false limited = limited

-- with other turns left, and the limit lifted or not
abbrev pub later : (lifts : Bool) → World → (turns : ℕ) → World
later lifts w t = record w { turns = t; is_limited = still lifts w.is_limited }

abbrev pub room_follows : (lifts : Bool) → World → (same : End) → End → Type 0
room_follows true w same e = Continues w e
room_follows false w same e = e ≡ same

-- how it ends with d more turns, where it ends so without them. With no more turns it goes on where it went on
abbrev pub Follows : (d : ℕ) → (lifts : Bool) → End → End → Type 0
Follows d lifts (ends status w) e = e ≡ ends status (later lifts w (w.turns + d))
Follows d lifts (goes_on w) e = Continues w e × (d ≡ 0 → e ≡ goes_on (later lifts w (w.turns + d)))
Follows d lifts (undefined kind place w) e = e ≡ undefined kind place (later lifts w (w.turns + d))
Follows d lifts (out_of_room kind counted w) e = room_follows lifts w (out_of_room kind counted (later lifts w (w.turns + d))) e

-- ---- what is seen

abbrev pub output_in : RunEnd → List ℕ
output_in (ended output status rest) = output
output_in (went_on output rest) = output
output_in (was_undefined kind place output rest) = output
output_in (no_room kind counted output rest) = output

abbrev pub rest_in : RunEnd → List ℕ
rest_in (ended output status rest) = rest
rest_in (went_on output rest) = rest
rest_in (was_undefined kind place output rest) = rest
rest_in (no_room kind counted output rest) = rest

-- its output begins with that output, and its rest of the input is a last part of that rest
pub record GoesOnFrom (output rest : List ℕ) (e : RunEnd) : Type 0 where
  pub new : List ℕ
  pub output_begins : output_in e ≡ output ++ new
  pub taken : List ℕ
  pub rest_ends : rest ≡ taken ++ rest_in e

-- what comes of a run is what comes of a shorter one, or goes on from it
abbrev pub Extends : RunEnd → RunEnd → Type 0
Extends (went_on output rest) e = GoesOnFrom output rest e
Extends (ended output status rest) e = e ≡ ended output status rest
Extends (was_undefined kind place output rest) e = e ≡ was_undefined kind place output rest
Extends (no_room kind counted output rest) e = e ≡ no_room kind counted output rest

-- what comes without limits is what is kept within them, or goes on from where the room was short
abbrev pub Frees : RunEnd → RunEnd → Type 0
Frees (no_room kind counted output rest) e = GoesOnFrom output rest e
Frees (ended output status rest) e = e ≡ ended output status rest
Frees (went_on output rest) e = e ≡ went_on output rest
Frees (was_undefined kind place output rest) e = e ≡ was_undefined kind place output rest

-- the run does not go on behind its turns
abbrev pub IsOver : RunEnd → Type 0
IsOver (went_on output rest) = ⊥
IsOver (ended output status rest) = Unit {0}
IsOver (was_undefined kind place output rest) = Unit {0}
IsOver (no_room kind counted output rest) = Unit {0}

-- the room sufficed
abbrev pub HadRoom : RunEnd → Type 0
HadRoom (no_room kind counted output rest) = ⊥
HadRoom (ended output status rest) = Unit {0}
HadRoom (went_on output rest) = Unit {0}
HadRoom (was_undefined kind place output rest) = Unit {0}
