-- Blocks that are moved together take no more words than bytes live in them.
use Rattle.std.proofs.Common.{◌≡◌, refl, ap, ◌∙◌, add-one, ℕ, zero, suc, ◌+◌, ◌*◌, ◌≤◌, List, [], ◌∷◌, take, true, arith}
use Rattle.memory_words.specs.declared.cell_words.cell.Cell.{Cell}
use Rattle.block_memory.specs.declared.slot.Slot.{Slot}
use Rattle.block_memory.specs.Blocks.{Memory, block}
use Rattle.block_memory.specs.Moves.{IsSettled}
use Rattle.block_memory.specs.RunWorlds.Worlds.{live_bytes, live_in}
use Rattle.block_memory.specs.Slots.{IsSound, holds, memory_in, slot_at, words_for}
use Rattle.block_memory.proofs.Differences.{length_range}
use Rattle.block_memory.proofs.Gathering.{gathered_none}
use Rattle.block_memory.proofs.Sound.{live_of_holds}
use Rattle.block_memory.proofs.Views as Views

none_lives : (b : ℕ) → live_bytes (take b []) ≡ 0
none_lives zero = refl
none_lives (suc b) = refl

next_lives : (m : Memory) (b : ℕ) → live_bytes (take (suc b) m) ≡ live_bytes (take b m) + live_in (block m b).contents
next_lives [] b = let none = none_lives b in omega (arith, none)
next_lives (y ∷ m) zero = omega arith
next_lives (y ∷ m) (suc b) = let h = next_lives m b in omega (arith, h)

pub live_next : (m : Memory) (b : ℕ) → live_bytes (take (b + 1) m) ≡ live_bytes (take b m) + live_in (block m b).contents
live_next m b = ap (λ k. live_bytes (take k m)) (add-one b) ∙ next_lives m b

pub live_before : (m : Memory) (b : ℕ) → live_bytes (take b m) ≤ live_bytes m
live_before [] b = let none = none_lives b in omega (arith, none)
live_before (y ∷ m) zero = omega arith
live_before (y ∷ m) (suc b) = let h = live_before m b in omega (arith, h)

pub holds_words : (slots : List Slot) (all : List Cell) (free b : ℕ) → IsSound slots all free → holds (slot_at slots b) ≡ true
    → words_for (slot_at slots b).size ≤ live_in (block (memory_in slots all) b).contents
holds_words slots all free b sound held =
    let s = slot_at slots b in
    let lives = live_of_holds s held in
    let long = length_range all (4 * s.start) s.size (sound.there b lives) in
    let is = ap (λ y. live_in y.contents) (Views.live_block slots all b lives) ∙ long in
    omega (arith, is)

-- from the first block on
pub settled_first : (slots : List Slot) (free : ℕ) → IsSettled slots free 0 0
settled_first slots free = record { gathered = gathered_none slots; known = omega arith; within = omega arith }
