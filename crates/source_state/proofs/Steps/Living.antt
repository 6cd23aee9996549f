-- How many bytes live behind what is done to memory.
use Rattle.std.proofs.Common.{◌≡◌, refl, ℕ, zero, suc, ◌+◌, ◌-◌, ◌≤◌, if◌then◌else◌, List, [], ◌∷◌, ◌++◌, length, replicate, slice_set, arith}
use Rattle.std.proofs.lemmas.List.{length-append, length-take, length-drop, length-replicate}
use Rattle.memory_words.specs.declared.cell_words.cell.Cell.{Cell}
use Rattle.memory_words.specs.declared.cell_words.cell.Cell.TheVariants.{Empty}
use Rattle.block_memory.specs.declared.kinds.BlockKind.{BlockKind}
use Rattle.block_memory.specs.Blocks.{Memory, Block, Contents, living, ended, lives_in, size_in, block, kind, size, overwritten, with_cells}
use Rattle.block_memory.specs.Lifetimes.{with_block, with_end}
use Rattle.block_memory.specs.RunWorlds.Worlds.{live_in, live_bytes}
use Rattle.source_state.specs.Steps.Cores.{Core}
use Rattle.source_state.specs.Steps.Memories.{living_size, put_cells, with_memory}

-- ---- one block becomes another

lives : (c : Contents) → (if lives_in c then size_in c else 0) ≡ live_in c
lives (living cells) = refl
lives (ended n) = refl

live_set : (m : Memory) (b : ℕ) (x : Block) → live_bytes (slice_set m b x) + live_in (block m b).contents ≡ live_bytes m + live_in (block (slice_set m b x) b).contents
live_set [] b x = refl
live_set (y ∷ m) zero x = omega arith
live_set (y ∷ m) (suc b) x = let h = live_set m b x in omega (arith, h)

pub live_put : (m : Memory) (b at : ℕ) (new : List Cell) → live_bytes (with_cells m b at new) ≡ live_bytes m + living_size (with_cells m b at new) b - living_size m b
live_put m b at new =
    let one : living_size m b ≡ live_in (block m b).contents = lives (block m b).contents in
    let other : living_size (with_cells m b at new) b ≡ live_in (block (with_cells m b at new) b).contents = lives (block (with_cells m b at new) b).contents in
    let both = live_set m b (record { kind = kind m b; contents = overwritten (block m b).contents at new }) in
    omega (arith, one, other, both)

-- ---- an end

none_lives : (m : Memory) (b n : ℕ) (k : BlockKind) → live_in (block (slice_set m b (record { kind = k; contents = ended n })) b).contents ≡ 0
none_lives [] b n k = refl
none_lives (y ∷ m) zero n k = refl
none_lives (y ∷ m) (suc b) n k = none_lives m b n k

pub live_end : (m : Memory) (b : ℕ) → live_bytes (with_end m b) ≡ live_bytes m - living_size m b
live_end m b =
    let one : living_size m b ≡ live_in (block m b).contents = lives (block m b).contents in
    let none = none_lives m b (size m b) (kind m b) in
    let both = live_set m b (record { kind = kind m b; contents = ended (size m b) }) in
    omega (arith, one, none, both)

-- ---- cells that lie within a block

overwritten_lives : (c : Contents) (at : ℕ) (new : List Cell) → at + length new ≤ size_in c → live_in (overwritten c at new) ≡ live_in c
overwritten_lives (living all) at new h = simp (length-append, length-take, length-drop) (omega arith)
overwritten_lives (ended n) at new h = refl

still_lives : (m : Memory) (b : ℕ) (k : BlockKind) (c : Contents) → live_in c ≡ live_in (block m b).contents
    → live_in (block (slice_set m b (record { kind = k; contents = c })) b).contents ≡ live_in (block m b).contents
still_lives [] b k c h = refl
still_lives (y ∷ m) zero k c h = h
still_lives (y ∷ m) (suc b) k c h = still_lives m b k c h

pub within_lives : (m : Memory) (b at : ℕ) (new : List Cell) → at + length new ≤ size m b → live_in (block (with_cells m b at new) b).contents ≡ live_in (block m b).contents
within_lives m b at new h =
    still_lives m b (kind m b) (overwritten (block m b).contents at new) (overwritten_lives (block m b).contents at new h)

pub live_within : (m : Memory) (b at : ℕ) (new : List Cell) → at + length new ≤ size m b → live_bytes (with_cells m b at new) ≡ live_bytes m
live_within m b at new h =
    let same = within_lives m b at new h in
    let both = live_set m b (record { kind = kind m b; contents = overwritten (block m b).contents at new }) in
    omega (arith, same, both)

put_count : (m : Memory) (b at : ℕ) (new : List Cell) (n : ℕ) → at + length new ≤ size m b → n + living_size (with_cells m b at new) b - living_size m b ≡ n
put_count m b at new n h =
    let one : living_size m b ≡ live_in (block m b).contents = lives (block m b).contents in
    let other : living_size (with_cells m b at new) b ≡ live_in (block (with_cells m b at new) b).contents = lives (block (with_cells m b at new) b).contents in
    let same = within_lives m b at new h in
    omega (arith, one, other, same)

-- then cells are put and nothing else
pub put_within : (b at : ℕ) (new : List Cell) (c : Core) → at + length new ≤ size c.memory b → put_cells b at new c ≡ with_memory (with_cells c.memory b at new) c
put_within b at new c h = λ i. record c { memory = with_cells c.memory b at new; live = put_count c.memory b at new c.live h i }

-- ---- a new block

live_behind : (m n : Memory) → live_bytes (m ++ n) ≡ live_bytes m + live_bytes n
live_behind [] n = omega arith
live_behind (y ∷ m) n = let h = live_behind m n in omega (arith, h)

pub live_new : (m : Memory) (n : ℕ) (k : BlockKind) → live_bytes (with_block m n k) ≡ live_bytes m + n
live_new m n k =
    let more = live_behind m (record { kind = k; contents = living (replicate n Empty) } ∷ []) in
    omega (arith, more, length-replicate n Empty)
