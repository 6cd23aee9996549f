-- What operations add to a world. Each comes to one result or ends the run, whatever the rest of the run is.
use Rattle.std.proofs.Common.{◌≡◌, refl, sym, ap, ◌∙◌, append_assoc, ℕ, ◌+◌, ◌≤◌, Bool, true, false, ◌&&◌, nat_lt, if◌then◌else◌, List, [], ◌∷◌, ◌++◌, length, replicate, Ok, Err, slice_set, arith}
use Rattle.std.proofs.lemmas.List.{length-set, length-append}
use Rattle.lay_base.specs.declared.faults.RoomKind.TheVariants.{Live}
use Rattle.lay_base.specs.declared.faults.UndefinedKind.{UndefinedKind}
use Rattle.lay_base.specs.declared.place.Place.{Place}
use Rattle.memory_words.specs.declared.cell_words.cell.Cell.{Cell}
use Rattle.memory_words.specs.declared.cell_words.cell.Cell.TheVariants.{Empty}
use Rattle.block_memory.specs.declared.kinds.BlockKind.{BlockKind}
use Rattle.block_memory.specs.Blocks.{Memory, Block, kind, block, size, overwritten, living, ended, with_cells}
use Rattle.block_memory.specs.Lifetimes.{with_block, with_end}
use Rattle.block_memory.specs.Tested.{Tested}
use Rattle.block_memory.specs.Tested as Tests
use Rattle.block_memory.specs.RunWorlds.Doing.{Doing, Rest, ◌>>=◌, ◌>>◌, pure, is_undefined, tested, memory_now, with_memory, note, make, end}
use Rattle.block_memory.specs.RunWorlds.Events.{Event}
use Rattle.block_memory.specs.RunWorlds.Worlds.{World, world_of, ends, undefined, out_of_room, greatest_live, live_bytes}
use Rattle.c_meaning.specs.Frames.{Frame}
use Rattle.c_meaning.specs.Outcomes.{Outcome, comes, over, with_rest}
use Rattle.compiled_files.specs.CodeRuns.Growth.{Onward}
use Rattle.compiled_files.specs.CodeRuns.Active.{active}

-- ---- worlds

pub onward_same : (w : World) → Onward w w
onward_same w = record { trace = ([], refl); blocks = omega arith }

pub onward_then : {w v u : World} → Onward w v → Onward v u → Onward w u
onward_then {w} {v} {u} one other = record {
  trace = (
    other.trace.0 ++ one.trace.0,
    other.trace.1 ∙ ap (λ (x : List Event). other.trace.0 ++ x) one.trace.1 ∙ sym (append_assoc other.trace.0 one.trace.0 w.trace),
  );
  blocks = (let x = one.blocks in let y = other.blocks in omega (arith, x, y));
}

-- no function was entered or left
pub record Still (w v : World) : Type 0 where
  pub onward : Onward w v
  pub active : active v.trace ≡ active w.trace

pub still_same : (w : World) → Still w w
still_same w = record { onward = onward_same w; active = refl }

pub still_then : {w v u : World} → Still w v → Still v u → Still w u
still_then one other = record { onward = onward_then one.onward other.onward; active = other.active ∙ one.active }

-- one event, by which no function is entered or left
pub still_noted : (e : Event) (w : World) → active (e ∷ w.trace) ≡ active w.trace → Still w (record w { trace = e ∷ w.trace })
still_noted e w h = record { onward = record { trace = (e ∷ [], refl); blocks = omega arith }; active = h }

pub still_changed : (w : World) (m : Memory) → length w.memory ≤ length m → Still w (record w { memory = m })
still_changed w m h = record { onward = record { trace = ([], refl); blocks = h }; active = refl }

-- ---- operations

abbrev pub IsStill : {A : Type 0} → World → Outcome Frame A → Type 0
IsStill w (comes x f v) = Still w v
IsStill w (over e) = Onward w (world_of e)

later_still : {A : Type 0} {w v : World} (o : Outcome Frame A) → Still w v → IsStill v o → IsStill w o
later_still (comes x f u) one other = still_then one other
later_still (over e) one other = onward_then one.onward other

-- an operation in a frame and a world
pub record Adds (A : Type 0) (m : Doing Frame A) (f : Frame) (w : World) : Type 0 where
  pub outcome : Outcome Frame A
  pub is : (rest : Rest Frame A) → m rest f w ≡ with_rest outcome rest
  pub still : IsStill w outcome

-- it does what another does in a later world
pub from : {A : Type 0} {m m' : Doing Frame A} {f f' : Frame} {w w' : World} → Still w w' → Adds A m' f' w'
    → ((rest : Rest Frame A) → m rest f w ≡ m' rest f' w') → Adds A m f w
from h one same = record { outcome = one.outcome; is = λ rest. same rest ∙ one.is rest; still = later_still one.outcome h one.still }

pub by_pure : {A : Type 0} (x : A) (f : Frame) (w : World) → Adds A (pure x) f w
by_pure x f w = record { outcome = comes x f w; is = λ rest. refl; still = still_same w }

pub by_undefined : {A : Type 0} (kind : UndefinedKind) (place : Place) (f : Frame) (w : World) → Adds A (is_undefined kind place) f w
by_undefined kind place f w = record { outcome = over (undefined kind place w); is = λ rest. refl; still = onward_same w }

pub by_end : {A : Type 0} (status : ℕ) (f : Frame) (w : World) → Adds A (λ rest f w. ends status w) f w
by_end status f w = record { outcome = over (ends status w); is = λ rest. refl; still = onward_same w }

pub by_bind : {A B : Type 0} {m : Doing Frame A} {next : A → Doing Frame B} {f : Frame} {w : World} → Adds A m f w
    → ((x : A) (g : Frame) (v : World) → Adds B (next x) g v) → Adds B (m >>= next) f w
by_bind {A} {B} {m} {next} {f} {w} one other = by_outcome one.outcome one.is one.still
  where
    by_outcome : (o : Outcome Frame A) → ((rest : Rest Frame A) → m rest f w ≡ with_rest o rest) → IsStill w o → Adds B (m >>= next) f w
    by_outcome (comes x g v) is still = from still (other x g v) (λ rest. is (λ x. next x rest))
    by_outcome (over e) is still = record { outcome = over e; is = λ rest. is (λ x. next x rest); still = still }

-- what is tested, with what is known of the result
abbrev pub Gives : {A : Type 0} → (A → Type 0) → Tested A → Type 0
Gives Q (Ok x) = Q x
Gives Q (Err kind) = Unit {0}

pub gives_bind : {A B : Type 0} (Q : B → Type 0) (r : Tested A) (next : A → Tested B) → ((x : A) → Gives Q (next x)) → Gives Q (Tests.◌>>=◌ r next)
gives_bind Q (Ok x) next h = h x
gives_bind Q (Err kind) next h = tt

pub by_test : {A B : Type 0} {next : A → Doing Frame B} {f : Frame} {w : World} (Q : A → Type 0) (place : Place) (r : Tested A) → Gives Q r
    → ((x : A) → Q x → Adds B (next x) f w) → Adds B (tested place r >>= next) f w
by_test Q place (Ok x) q other = other x q
by_test {f = f} {w = w} Q place (Err kind) q other = by_undefined kind place f w

pub by_tested : {A : Type 0} (place : Place) (r : Tested A) (f : Frame) (w : World) → Adds A (tested place r) f w
by_tested place (Ok x) f w = by_pure x f w
by_tested place (Err kind) f w = by_undefined kind place f w

pub by_memory : (f : Frame) (w : World) → Adds Memory memory_now f w
by_memory f w = record { outcome = comes w.memory f w; is = λ rest. refl; still = still_same w }

pub by_note : (e : Event) (f : Frame) (w : World) → active (e ∷ w.trace) ≡ active w.trace → Adds (Unit {0}) (note e) f w
by_note e f w h = record { outcome = comes tt f (record w { trace = e ∷ w.trace }); is = λ rest. refl; still = still_noted e w h }

-- ---- memory

-- no fewer blocks than before
abbrev pub Longer : Memory → Memory → Type 0
Longer m n = length m ≤ length n

set_longer : (m : Memory) (b : ℕ) (x : Block) → Longer m (slice_set m b x)
set_longer m b x = omega (arith, length-set m b x)

pub cells_longer : (m : Memory) (b at : ℕ) (cells : List Cell) → Longer m (with_cells m b at cells)
cells_longer m b at cells = set_longer m b (record { kind = kind m b; contents = overwritten (block m b).contents at cells })

pub end_longer : (m : Memory) (b : ℕ) → Longer m (with_end m b)
end_longer m b = set_longer m b (record { kind = kind m b; contents = ended (size m b) })

pub block_longer : (m : Memory) (size : ℕ) (kind : BlockKind) → Longer m (with_block m size kind)
block_longer m size kind = omega (arith, length-append m (record { kind = kind; contents = living (replicate size Empty) } ∷ []))

pub by_change : {A : Type 0} {m : Doing Frame A} {f : Frame} {w : World} (n : Memory) → Longer w.memory n → Adds A m f (record w { memory = n })
    → Adds A (with_memory n >> m) f w
by_change {w = w} n h one = from (still_changed w n h) one (λ rest. refl)

pub by_changed : (n : Memory) (f : Frame) (w : World) → Longer w.memory n → Adds (Unit {0}) (with_memory n) f w
by_changed n f w h = record { outcome = comes tt f (record w { memory = n }); is = λ rest. refl; still = still_changed w n h }

pub by_block_end : (b : ℕ) (f : Frame) (w : World) → Adds (Unit {0}) (end b) f w
by_block_end b f w = from (still_same w) (by_changed (with_end w.memory b) f w (end_longer w.memory b)) (λ rest. refl)

made : (limit : Bool) (size : ℕ) (kind : BlockKind) (f : Frame) (w : World)
    → ((rest : Rest Frame ℕ) → make size kind rest f w ≡ (if limit then out_of_room Live (live_bytes w.memory + size) w
    else rest (length w.memory) f (record w { memory = with_block w.memory size kind })))
    → Adds ℕ (make size kind) f w
made true size kind f w is = record { outcome = over (out_of_room Live (live_bytes w.memory + size) w); is = is; still = onward_same w }
made false size kind f w is = record {
  outcome = comes (length w.memory) f (record w { memory = with_block w.memory size kind });
  is = is;
  still = still_changed w (with_block w.memory size kind) (block_longer w.memory size kind);
}

pub by_make : (size : ℕ) (kind : BlockKind) (f : Frame) (w : World) → Adds ℕ (make size kind) f w
by_make size kind f w = made (w.is_limited && nat_lt greatest_live (live_bytes w.memory + size)) size kind f w (λ rest. refl)
