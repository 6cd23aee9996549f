-- The last block of memory is that of an object.
use Rattle.std.proofs.Common.{◌≡◌, refl, ap, ◌∙◌, ℕ, ◌+◌, List, [], ◌∷◌, ◌++◌, length, drop, fold, replicate, arith, append-nil}
use Rattle.std.proofs.lemmas.List.{length-replicate, drop_all}
use Rattle.memory_words.specs.declared.cell_words.cell.Cell.{Cell}
use Rattle.memory_words.specs.declared.cell_words.cell.Cell.TheVariants.{Byte, Empty}
use Rattle.block_memory.specs.declared.kinds.BlockKind.{BlockKind}
use Rattle.block_memory.specs.Blocks.{Memory, Block, Contents, living, block, size, size_in, overwritten, with_cells}
use Rattle.block_memory.specs.Lifetimes.{with_block}
use Rattle.c_meaning.specs.Program.{cells_of}
use Rattle.c_typed.specs.declared.program.Initial.{Initial}
use Rattle.source_start.specs.Writing.{with_all}

-- ---- the block behind the others

pub last_block : (m : Memory) (x : Block) → block (m ++ x ∷ []) (length m) ≡ x
last_block [] x = refl
last_block (y ∷ m) x = last_block m x

with_last : (m : Memory) (x : Block) (at : ℕ) (new : List Cell)
    → with_cells (m ++ x ∷ []) (length m) at new ≡ m ++ record { kind = x.kind; contents = overwritten x.contents at new } ∷ []
with_last [] x at new = refl
with_last (y ∷ m) x at new = ap (λ r. y ∷ r) (with_last m x at new)

pub size_of_last : (m : Memory) (n : ℕ) (kind : BlockKind) → size (with_block m n kind) (length m) ≡ n
size_of_last m n kind = ap (λ x. size_in x.contents) (last_block m (record { kind = kind; contents = living (replicate n Empty) })) ∙ length-replicate n Empty

zeroed : (n : ℕ) → overwritten (living (replicate n Empty)) 0 (replicate n (Byte 0)) ≡ living (replicate n (Byte 0))
zeroed n = ap living (ap (λ rest. replicate n (Byte 0) ++ rest) none ∙ append-nil (replicate n (Byte 0)))
  where
    none : drop (0 + length (replicate n (Byte 0))) (replicate n Empty) ≡ []
    none = drop_all (0 + length (replicate n (Byte 0))) (replicate n Empty) (omega (arith, length-replicate n (Byte 0), length-replicate n Empty))

pub zeroed_last : (m : Memory) (n : ℕ) (kind : BlockKind)
    → with_cells (with_block m n kind) (length m) 0 (replicate n (Byte 0)) ≡ m ++ record { kind = kind; contents = living (replicate n (Byte 0)) } ∷ []
zeroed_last m n kind =
    with_last m (record { kind = kind; contents = living (replicate n Empty) }) 0 (replicate n (Byte 0))
    ∙ ap (λ c. m ++ record { kind = kind; contents = c } ∷ []) (zeroed n)

pub all_last : (m : Memory) (kind : BlockKind) (c : Contents) (all : List Initial)
    → with_all (length m) (m ++ record { kind = kind; contents = c } ∷ []) all
    ≡ m ++ record { kind = kind; contents = fold (λ c i. overwritten c i.offset (cells_of i.value)) c all } ∷ []
all_last m kind c [] = refl
all_last m kind c (i ∷ all) =
    ap (λ n. with_all (length m) n all) (with_last m (record { kind = kind; contents = c }) i.offset (cells_of i.value))
    ∙ all_last m kind (overwritten c i.offset (cells_of i.value)) all
