-- A pointer that is stored stands in its block.
use Rattle.std.proofs.Common.{◌≡◌, ℕ, ◌+◌, Bool, true, false, Ok}
use Rattle.memory_words.specs.declared.cell_words.pointer.Ptr.{Ptr}
use Rattle.memory_words.specs.declared.cell_words.pointer.Ptr.TheVariants as P
use Rattle.block_memory.specs.Accesses.{store_pointer, must, is_text}
use Rattle.block_memory.specs.Blocks.{Memory, is_live, kind, size, with_cells}
use Rattle.block_memory.specs.Held.{fragments_of}
use Rattle.block_memory.specs.Tested.{Tested, ◌>>=◌}
use Rattle.lay_base.specs.declared.faults.UndefinedKind.{UndefinedKind}
use Rattle.lay_base.specs.declared.faults.UndefinedKind.TheVariants as K
use Rattle.std.specs.Prelude.{◌%◌, ◌==◌, ◌&&◌, not, nat_le}

behind : {A : Type 0} (t : Bool) (k : UndefinedKind) (next : Tested A) (x : A) → (must t k >>= (λ u. next)) ≡ Ok x → next ≡ Ok x
behind true k next x e = e
behind false k next x e = cc

pub pointer_put : (m new : Memory) (b at type : ℕ) (q : Ptr) → store_pointer m (P.Block b at) type q ≡ Ok new → new ≡ with_cells m b at (fragments_of type q)
pointer_put m new b at type q = by_tests (is_live m b) (nat_le (at + 4) (size m b)) (at % 4 == 0) (not (true && is_text (kind m b)))
  where
    found : (t u v w : Bool) → Tested (ℕ × ℕ)
    found t u v w = must t K.Dead >>= (λ a. must u K.Outside >>= (λ a. must v K.Align >>= (λ a. must w K.ReadOnly >>= (λ a. Ok (b, at)))))

    by_tests : (t u v w : Bool) → (found t u v w >>= (λ at. Ok (with_cells m at.0 at.1 (fragments_of type q)))) ≡ Ok new → new ≡ with_cells m b at (fragments_of type q)
    by_tests true true true true e = cc
    by_tests true true true false e = cc
    by_tests true true false w e = cc
    by_tests true false v w e = cc
    by_tests false u v w e = cc
