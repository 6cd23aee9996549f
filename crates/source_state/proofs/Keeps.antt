-- The count of the bytes that live stays right.
use Rattle.std.proofs.Common.{◌≡◌, ap, ◌∙◌, sym, subst, ℕ, ◌+◌, ◌-◌, ◌≤◌, Bool, Result, Ok, Err, List, length, replicate, map, arith}
use Rattle.std.proofs.lemmas.List.{length-replicate, length-map}
use Rattle.lay_base.specs.declared.faults.UndefinedKind.{UndefinedKind}
use Rattle.memory_words.specs.declared.cell_words.cell.Cell.{Cell}
use Rattle.memory_words.specs.declared.cell_words.cell.Cell.TheVariants.{Byte, Empty}
use Rattle.memory_words.specs.declared.cell_words.pointer.Ptr.{Ptr}
use Rattle.c_types.specs.declared.ty.IntKind.{IntKind}
use Rattle.block_memory.specs.declared.kinds.Access.TheVariants.{Number, Pointer}
use Rattle.block_memory.specs.declared.kinds.BlockKind.{BlockKind}
use Rattle.block_memory.specs.declared.run_worlds.value.Value.TheVariants.{Word, Pointer as Address}
use Rattle.block_memory.specs.Accesses.{store_number, store_pointer}
use Rattle.block_memory.specs.Blocks.{Memory, size, with_cells}
use Rattle.block_memory.specs.Lifetimes as Lifetimes
use Rattle.block_memory.specs.Lifetimes.{with_block, with_end}
use Rattle.block_memory.specs.Ranges as Ranges
use Rattle.block_memory.specs.Stores.{Does}
use Rattle.block_memory.specs.Tested.{Tested}
use Rattle.block_memory.specs.RunWorlds.Worlds.{live_bytes}
use Rattle.source_state.specs.Steps.Memories.{freed_size, living_size}
use Rattle.source_state.proofs.Steps.Living.{live_end, live_new, live_within}
use Rattle.source_state.proofs.Steps.Memories.{LivesIn, copy_lives, fill_lives, free_lives, store_lives}

-- ---- what memory does, or is undefined

kept : (r : Result (Unit {0}) UndefinedKind) (old new : Memory) (n : ℕ) (t : Tested Memory) → n ≡ live_bytes old → LivesIn (live_bytes old) t → Does r old new t → n ≡ live_bytes new
kept (Ok u) old new n t e h d = e ∙ subst (LivesIn (live_bytes old)) d h
kept (Err kind) old new n t e h d = e ∙ ap live_bytes (sym d.1)

pub number_kept : (r : Result (Unit {0}) UndefinedKind) (old new : Memory) (n : ℕ) (q : Ptr) (kind : IntKind) (v : ℕ) → n ≡ live_bytes old
    → Does r old new (store_number old q kind v) → n ≡ live_bytes new
number_kept r old new n q kind v e d = kept r old new n (store_number old q kind v) e (store_lives old q (Number kind) (Word v)) d

pub pointer_kept : (r : Result (Unit {0}) UndefinedKind) (old new : Memory) (n : ℕ) (q : Ptr) (type : ℕ) (p : Ptr) → n ≡ live_bytes old
    → Does r old new (store_pointer old q type p) → n ≡ live_bytes new
pointer_kept r old new n q type p e d = kept r old new n (store_pointer old q type p) e (store_lives old q (Pointer type) (Address p)) d

pub copy_kept : (r : Result (Unit {0}) UndefinedKind) (old new : Memory) (n : ℕ) (to from : Ptr) (count : ℕ) (overlap : Bool) → n ≡ live_bytes old
    → Does r old new (Ranges.copy old to from count overlap) → n ≡ live_bytes new
copy_kept r old new n to from count overlap e d = kept r old new n (Ranges.copy old to from count overlap) e (copy_lives old to from count overlap) d

pub fill_kept : (r : Result (Unit {0}) UndefinedKind) (old new : Memory) (n : ℕ) (to : Ptr) (byte count : ℕ) → n ≡ live_bytes old
    → Does r old new (Ranges.fill old to byte count) → n ≡ live_bytes new
fill_kept r old new n to byte count e d = kept r old new n (Ranges.fill old to byte count) e (fill_lives old to byte count) d

-- ---- blocks begin and end

pub freed : (old new : Memory) (n : ℕ) (q : Ptr) → n ≡ live_bytes old → Lifetimes.free old q ≡ Ok new → n - freed_size old q ≡ live_bytes new
freed old new n q e d = ap (λ n. n - freed_size old q) e ∙ subst (LivesIn (live_bytes old - freed_size old q)) d (free_lives old q)

pub ended : (old new : Memory) (n b : ℕ) → n ≡ live_bytes old → new ≡ with_end old b → n - living_size old b ≡ live_bytes new
ended old new n b e is = ap (λ n. n - living_size old b) e ∙ sym (ap live_bytes is ∙ live_end old b)

pub made : (old new : Memory) (n size : ℕ) (kind : BlockKind) → n ≡ live_bytes old → new ≡ with_block old size kind → n + size ≡ live_bytes new
made old new n size kind e is = ap (λ n. n + size) e ∙ sym (ap live_bytes is ∙ live_new old size kind)

-- ---- cells that are put within a block

pub put_kept : (old new : Memory) (n b at : ℕ) (cells : List Cell) → n ≡ live_bytes old → at + length cells ≤ size old b → new ≡ with_cells old b at cells → n ≡ live_bytes new
put_kept old new n b at cells e fits is = e ∙ sym (ap live_bytes is ∙ live_within old b at cells fits)

pub zeros_kept : (old new : Memory) (n b count : ℕ) → n ≡ live_bytes old → count ≤ size old b → new ≡ with_cells old b 0 (replicate count (Byte 0)) → n ≡ live_bytes new
zeros_kept old new n b count e fits is = put_kept old new n b 0 (replicate count (Byte 0)) e (let many = length-replicate count (Byte 0) in omega (arith, many, fits)) is

pub empty_kept : (old new : Memory) (n b count : ℕ) → n ≡ live_bytes old → count ≤ size old b → new ≡ with_cells old b 0 (replicate count Empty) → n ≡ live_bytes new
empty_kept old new n b count e fits is = put_kept old new n b 0 (replicate count Empty) e (let many = length-replicate count Empty in omega (arith, many, fits)) is

pub text_kept : (old new : Memory) (n b at : ℕ) (bytes : List ℕ) → n ≡ live_bytes old → at + length bytes ≤ size old b → new ≡ with_cells old b at (map Byte bytes) → n ≡ live_bytes new
text_kept old new n b at bytes e fits is = put_kept old new n b at (map Byte bytes) e (let many = length-map bytes Byte in omega (arith, many, fits)) is
