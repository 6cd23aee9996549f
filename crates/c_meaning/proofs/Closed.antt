-- A relation between two parts of a run that holds of whatever is built of parts for which it holds.
use Rattle.std.proofs.Common.{ℕ, zero, suc}
use Rattle.lay_base.specs.declared.faults.UndefinedKind.{UndefinedKind}
use Rattle.lay_base.specs.declared.place.Place.{Place}
use Rattle.block_memory.specs.declared.kinds.BlockKind.{BlockKind}
use Rattle.block_memory.specs.Blocks.{Memory}
use Rattle.block_memory.specs.RunWorlds.Doing.{Doing, ◌>>=◌, ◌>>◌, pure, is_undefined, memory_now, with_memory, note, turn, make, deeper, leave, apart}
use Rattle.block_memory.specs.RunWorlds.Events.{Event}
use Rattle.block_memory.specs.RunWorlds.Library.{getchar}
use Rattle.block_memory.specs.declared.run_worlds.value.Value.{Value}
use Rattle.block_memory.specs.RunWorlds.Worlds.{goes_on, ends}

-- the turns are used up
abbrev pub stops : {F A : Type 0} → Doing F A
stops = λ rest f w. goes_on w

pub record Relation : Type 1 where
  -- whether n and m may bound the calls and loops of two parts that are related where at most b turns are left
  pub Fuels : (b n m : ℕ) → Type 0
  pub Related : (b : ℕ) → (F A : Type 0) → Doing F A → Doing F A → Type 0
  pub on_pure : (b : ℕ) (F A : Type 0) (x : A) → Related b F A (pure x) (pure x)
  pub on_bind : (b : ℕ) (F A B : Type 0) (m m' : Doing F A) (next next' : A → Doing F B) → Related b F A m m' → ((x : A) → Related b F B (next x) (next' x))
      → Related b F B (m >>= next) (m' >>= next')
  -- ends
  pub on_end : (b : ℕ) (F A : Type 0) (status : ℕ) → Related b F A (λ rest f w. ends status w) (λ rest f w. ends status w)
  pub on_undefined : (b : ℕ) (F A : Type 0) (kind : UndefinedKind) (place : Place) → Related b F A (is_undefined kind place) (is_undefined kind place)
  -- turns
  pub on_none : (b : ℕ) (F A : Type 0) → Fuels b zero zero → Related b F A stops stops
  pub on_turn : (b n n' : ℕ) (F A : Type 0) (m m' : Doing F A) → Fuels b (suc n) (suc n') → ((c : ℕ) → Fuels c n n' → Related c F A m m')
      → Related b F A (turn >> m) (turn >> m')
  pub not_left : (b n : ℕ) → Fuels b zero (suc n) → ⊥
  pub not_right : (b n : ℕ) → Fuels b (suc n) zero → ⊥
  pub one_more : (b n n' : ℕ) → Fuels b n n' → Fuels b (suc n) (suc n')
  -- the world
  pub on_memory : (b : ℕ) (F : Type 0) → Related b F Memory memory_now memory_now
  pub on_with_memory : (b : ℕ) (F : Type 0) (m : Memory) → Related b F (Unit {0}) (with_memory m) (with_memory m)
  pub on_note : (b : ℕ) (F : Type 0) (event : Event) → Related b F (Unit {0}) (note event) (note event)
  pub on_getchar : (b : ℕ) (F : Type 0) → Related b F Value getchar getchar
  pub on_make : (b : ℕ) (F : Type 0) (size : ℕ) (kind : BlockKind) → Related b F ℕ (make size kind) (make size kind)
  pub on_deeper : (b : ℕ) (F : Type 0) → Related b F (Unit {0}) deeper deeper
  pub on_leave : (b : ℕ) (F : Type 0) → Related b F (Unit {0}) leave leave
  -- what the function that runs has of its own
  pub on_own : (b : ℕ) (F A : Type 0) (get : F → A) (set : F → F) → Related b F A (λ rest f w. rest (get f) (set f) w) (λ rest f w. rest (get f) (set f) w)
  pub on_apart : (b : ℕ) (F A : Type 0) (own : F) (m m' : Doing F A) → Related b F A m m' → Related b F A (apart own m) (apart own m')
