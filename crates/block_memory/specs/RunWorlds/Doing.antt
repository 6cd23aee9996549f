-- A part of a run: what it does to the world before the rest of the run goes on with its result, or how it ends the run.
use Rattle.std.specs.Prelude.{ℕ, zero, suc, ◌+◌, ◌&&◌, nat_lt, if◌then◌else◌, ◌∷◌, length, Ok, Err}
use Rattle.lay_base.specs.declared.faults.RoomKind.TheVariants.{Live, Depth}
use Rattle.lay_base.specs.declared.faults.UndefinedKind.{UndefinedKind}
use Rattle.lay_base.specs.declared.place.Place.{Place}
use Rattle.block_memory.specs.declared.kinds.BlockKind.{BlockKind}
use Rattle.block_memory.specs.Blocks.{Memory}
use Rattle.block_memory.specs.Lifetimes.{with_block, with_end}
use Rattle.block_memory.specs.Tested.{Tested}
use Rattle.block_memory.specs.RunWorlds.Events.{Event, entered, left}
use Rattle.block_memory.specs.RunWorlds.Worlds.{World, End, goes_on, undefined, out_of_room, greatest_live, greatest_depth, live_bytes}

-- F is what the function that runs has of its own
abbrev pub Rest : Type 0 → Type 0 → Type 0
Rest F A = A → F → World → End

abbrev pub Doing : Type 0 → Type 0 → Type 0
Doing F A = Rest F A → F → World → End

infixl 10 ◌>>=◌
abbrev pub ◌>>=◌ : {F A B : Type 0} → Doing F A → (A → Doing F B) → Doing F B
m >>= next = λ rest. m (λ x. next x rest)

infixl 10 ◌>>◌
abbrev pub ◌>>◌ : {F A B : Type 0} → Doing F A → Doing F B → Doing F B
m >> next = m >>= λ x. next

abbrev pub pure : {F A : Type 0} → A → Doing F A
pure x = λ rest. rest x

-- ---- ends

abbrev pub is_undefined : {F A : Type 0} → UndefinedKind → Place → Doing F A
is_undefined kind place = λ rest f w. undefined kind place w

-- what memory does, or its kind of undefined behaviour at that place
abbrev pub tested : {F A : Type 0} → Place → Tested A → Doing F A
tested place (Ok x) = pure x
tested place (Err kind) = is_undefined kind place

-- ---- the world

abbrev pub memory_now : {F : Type 0} → Doing F Memory
memory_now = λ rest f w. rest w.memory f w

abbrev pub with_memory : {F : Type 0} → Memory → Doing F (Unit {0})
with_memory m = λ rest f w. rest tt f (record w { memory = m })

abbrev pub note : {F : Type 0} → Event → Doing F (Unit {0})
note event = λ rest f w. rest tt f (record w { trace = event ∷ w.trace })

-- ---- turns: the begin of a loop's body, and of a function

abbrev pub turn_of : {F : Type 0} → (turns : ℕ) → Doing F (Unit {0})
turn_of zero = λ rest f w. goes_on w
turn_of (suc n) = λ rest f w. rest tt f (record w { turns = n })

abbrev pub turn : {F : Type 0} → Doing F (Unit {0})
turn = λ rest f w. turn_of w.turns rest f w

-- ---- blocks

-- a new block, by its number
abbrev pub make : {F : Type 0} → (size : ℕ) → BlockKind → Doing F ℕ
make size kind = λ rest f w.
    if w.is_limited && nat_lt greatest_live (live_bytes w.memory + size) then out_of_room Live (live_bytes w.memory + size) w
    else rest (length w.memory) f (record w { memory = with_block w.memory size kind })

abbrev pub end : {F : Type 0} → (block : ℕ) → Doing F (Unit {0})
end b = λ rest f w. rest tt f (record w { memory = with_end w.memory b })

-- ---- functions: the turn is counted before the depth

abbrev pub deeper : {F : Type 0} → Doing F (Unit {0})
deeper = λ rest f w.
    if w.is_limited && nat_lt greatest_depth (w.depth + 1) then out_of_room Depth (w.depth + 1) w else rest tt f (record w { depth = w.depth + 1 })

abbrev pub less_deep : ℕ → ℕ
less_deep zero = zero
less_deep (suc n) = n

-- without a turn of its own
abbrev pub descend : {F : Type 0} → (function : ℕ) → Doing F (Unit {0})
descend g = deeper >> note (entered g)

abbrev pub enter : {F : Type 0} → (function : ℕ) → Doing F (Unit {0})
enter g = turn >> descend g

abbrev pub leave : {F : Type 0} → Doing F (Unit {0})
leave = λ rest f w. rest tt f (record w { depth = less_deep w.depth; trace = left ∷ w.trace })

-- with what a function has of its own, and then again with what there was
abbrev pub apart : {F A : Type 0} → F → Doing F A → Doing F A
apart own body = λ rest f w. body (λ x g after. rest x f after) own w
