-- Turns, and how functions are entered and left.
use Rattle.std.specs.Prelude.{ℕ, zero, suc, ◌+◌, nat_lt, if◌then◌else◌, Option, Some, Err}
use Rattle.lay_base.specs.declared.faults.RoomKind.TheVariants.{Depth}
use Rattle.lay_base.specs.declared.place.Place.{Place}
use Rattle.block_memory.specs.declared.kinds.Access.{Access}
use Rattle.memory_words.specs.declared.cell_words.pointer.Ptr.TheVariants as P
use Rattle.block_memory.specs.declared.run_worlds.value.Value.{Value}
use Rattle.block_memory.specs.RunWorlds.Doing.{less_deep}
use Rattle.block_memory.specs.RunWorlds.Scalars.{store_in}
use Rattle.block_memory.specs.RunWorlds.Worlds.{greatest_depth}
use Rattle.c_meaning.specs.declared.frame.Slot.{Slot}
use Rattle.c_meaning.specs.declared.frame.Slot.TheVariants.{ByName, InBlock}
use Rattle.c_meaning.specs.Frames.{Frame}
use Rattle.source_state.specs.Steps.Cores.{Core, Does, done, tested}
use Rattle.source_state.specs.Steps.Counting.{with_entry, with_begin}
use Rattle.source_state.specs.Steps.Locals.{with_slot}
use Rattle.source_state.specs.Steps.Memories.{changed}
use Rattle.source_state.specs.declared.ends.Final.TheVariants.{TurnLimit, Room}

-- the body of a loop begins
abbrev pub begun_by : (turns : ℕ) → (function loop : ℕ) → Core → Does (Unit {0})
begun_by zero g l c = (Err TurnLimit, c)
begun_by (suc n) g l c = done tt (record c { turns = n; counts = with_begin c.counts g l })

abbrev pub begun : (function loop : ℕ) → Core → Does (Unit {0})
begun g l c = begun_by c.turns g l c

-- the turn is counted before the depth
abbrev pub enter_by : (turns : ℕ) → (function : ℕ) → Core → Does (Unit {0})
enter_by zero f c = (Err TurnLimit, c)
enter_by (suc n) f c =
    if nat_lt greatest_depth (c.depth + 1) then (Err (Room Depth (c.depth + 1)), record c { turns = n })
    else done tt (record c { turns = n; depth = c.depth + 1; counts = with_entry c.counts f })

abbrev pub enter : (function : ℕ) → Core → Does (Unit {0})
enter f c = enter_by c.turns f c

-- back in its caller's frame
abbrev pub leave : (caller : Frame) → Core → Core
leave caller c = record c { frame = caller; depth = less_deep c.depth }

-- ---- arguments

abbrev pub received : Place → (x : ℕ) → Access → Value → Option Slot → Core → Does (Unit {0})
received at x access v (Some (InBlock (Some b))) c = tested at (changed (store_in c.memory (P.Block b 0) access v) c) c
received at x access v s c = done tt (with_slot x (ByName (Some v)) c)
