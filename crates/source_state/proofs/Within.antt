-- Cells that fit into their block are put into it.
use Rattle.std.proofs.Common.{◌≡◌, refl, ap, ◌∙◌, ℕ, ◌+◌, ◌≤◌, Bool, true, false, nat_lt, if◌then◌else◌, Result, Ok, Err, List, [], ◌∷◌, ◌++◌, length, map, replicate, arith}
use Rattle.std.proofs.lemmas.List.{length-replicate, length-map}
use Rattle.memory_words.specs.declared.cell_words.cell.Cell.TheVariants.{Byte, Empty}
use Rattle.block_memory.specs.declared.kinds.BlockKind.{BlockKind}
use Rattle.block_memory.specs.Blocks.{Memory, Block, block, living, size, size_in, with_cells}
use Rattle.block_memory.specs.Lifetimes.{with_block}
use Rattle.source_state.proofs.Steps.Living.{put_within}
use Rattle.block_memory.specs.RunWorlds.Worlds.{greatest_live}
use Rattle.lay_base.specs.declared.faults.RoomKind.TheVariants.{Live}
use Rattle.source_state.specs.Steps.Cores.{Core, Does}
use Rattle.source_state.specs.declared.ends.Final.{Final}
use Rattle.source_state.specs.declared.ends.Final.TheVariants.{Room}
use Rattle.source_state.specs.Steps.Memories.{make, put_cells, with_memory, with_text, zeroed}

pub zeroed_within : (b n : ℕ) (c : Core) → n ≤ size c.memory b → zeroed true b n c ≡ with_memory (with_cells c.memory b 0 (replicate n (Byte 0))) c
zeroed_within b n c h = let count = length-replicate n (Byte 0) in put_within b 0 (replicate n (Byte 0)) c (omega (arith, count, h))

pub empty_within : (b n : ℕ) (c : Core) → n ≤ size c.memory b → put_cells b 0 (replicate n Empty) c ≡ with_memory (with_cells c.memory b 0 (replicate n Empty)) c
empty_within b n c h = let count = length-replicate n Empty in put_within b 0 (replicate n Empty) c (omega (arith, count, h))

pub text_within : (b at : ℕ) (bytes : List ℕ) (c : Core) → at + length bytes ≤ size c.memory b
    → with_text b at bytes c ≡ with_memory (with_cells c.memory b at (map Byte bytes)) c
text_within b at bytes c h = let count = length-map bytes Byte in put_within b at (map Byte bytes) c (omega (arith, count, h))

-- ---- a new block

last_block : (m : Memory) (x : Block) → block (m ++ x ∷ []) (length m) ≡ x
last_block [] x = refl
last_block (y ∷ m) x = last_block m x

pub new_size : (m : Memory) (n : ℕ) (kind : BlockKind) → size (with_block m n kind) (length m) ≡ n
new_size m n kind = ap (λ x. size_in x.contents) (last_block m (record { kind = kind; contents = living (replicate n Empty) })) ∙ length-replicate n Empty

pub made_size : (n : ℕ) (kind : BlockKind) (c d : Core) (r : Result ℕ Final) (b : ℕ) → (r, d) ≡ make n kind c → r ≡ Ok b → n ≤ size d.memory b
made_size n kind c d r b e is = by_test (nat_lt greatest_live (c.live + n)) e
  where
    by_test : (t : Bool) → (r, d) ≡ (if◌then◌else◌ {A = Does ℕ} t (Err (Room Live (c.live + n)), c)
        (Ok (length c.memory), record c { memory = with_block c.memory n kind; live = c.live + n })) → n ≤ size d.memory b
    by_test true e = let fails : r ≡ Err (Room Live (c.live + n)) = ap (λ (x : Does ℕ). x.0) e in cc
    by_test false e =
        let last : r ≡ Ok (length c.memory) = ap (λ (x : Does ℕ). x.0) e in
        let at : b ≡ length c.memory = cc in
        let memory : d.memory ≡ with_block c.memory n kind = ap (λ (x : Does ℕ). x.1.memory) e in
        rw (memory, at) (omega (arith, new_size c.memory n kind))
