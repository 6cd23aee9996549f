-- When what a run keeps is what its memory and its trace tell, and the calls of a step.
use Rattle.std.specs.Prelude.{◌≡◌, ℕ, ◌+◌, ◌-◌, ◌^◌, ◌≤◌, ◌<◌, true, List, [], ◌∷◌, ◌++◌, Some, slice_get}
use Rattle.block_memory.specs.RunWorlds.Events.{Event, Call, putting, getting, entries_of, begins_of}
use Rattle.block_memory.specs.declared.run_worlds.value.Value.{Value}
use Rattle.block_memory.specs.declared.run_worlds.value.Value.TheVariants.{Word}
use Rattle.block_memory.specs.RunWorlds.Worlds.{World, End, ends, goes_on, undefined, out_of_room, live_bytes}
use Rattle.source_state.specs.Steps.Cores.{Core}
use Rattle.source_state.specs.Steps.Counting.{KeepsShape}
use Rattle.source_state.specs.declared.ends.Final.{Final}
use Rattle.source_state.specs.declared.ends.Final.TheVariants.{Ends, TurnLimit, Undefined, Room}
use Rattle.source_state.specs.declared.ends.Moved.{Moved}
use Rattle.source_state.specs.declared.ends.Moved.TheVariants.{Puts, Gets}

-- within the room of the interpreter
abbrev pub world : Core → (input : List ℕ) → (trace : List Event) → World
world c input trace = record { turns = c.turns; memory = c.memory; input = input; trace = trace; depth = c.depth; is_limited = true }

abbrev pub end_of : Final → World → End
end_of (Ends status) w = ends status w
end_of TurnLimit w = goes_on w
end_of (Undefined kind at) w = undefined kind at w
end_of (Room kind counted) w = out_of_room kind counted w

-- ---- what is counted is what memory and the trace tell, in a run from that start

pub record Agrees (start c : Core) (trace : List Event) : Type 0 where
  -- no count comes to the last value
  pub few : start.turns < 2 ^ 64
  pub live : c.live ≡ live_bytes c.memory
  -- there are as many counts
  pub shape : KeepsShape start.counts c.counts
  pub entries : (f n : ℕ) → slice_get c.counts.entries f ≡ Some n → n ≡ entries_of f trace
  pub begins : (f l n : ℕ) → (loops : List ℕ) → slice_get c.counts.begins f ≡ Some loops → slice_get loops l ≡ Some n → n ≡ begins_of f l trace
  -- each took a turn
  pub all_entries : (f : ℕ) → entries_of f trace + c.turns ≤ start.turns
  pub all_begins : (f l : ℕ) → begins_of f l trace + c.turns ≤ start.turns

-- ---- the calls of `putchar` and `getchar`, and the input, where a step comes to that

abbrev pub calls_with : Moved → List Call → List Call
calls_with (Puts byte) calls = calls ++ putting byte ∷ []
calls_with Gets calls = calls ++ getting ∷ []
calls_with moved calls = calls

-- minus one where the input is at its end
abbrev pub next_in : List ℕ → Value
next_in [] = Word (2 ^ 32 - 1)
next_in (byte ∷ more) = Word byte

abbrev pub behind_next : List ℕ → List ℕ
behind_next [] = []
behind_next (byte ∷ more) = more

abbrev pub input_behind : Moved → List ℕ → List ℕ
input_behind Gets input = behind_next input
input_behind moved input = input
