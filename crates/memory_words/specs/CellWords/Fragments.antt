-- Fragments of pointers.
use Rattle.std.specs.Prelude.{ℕ, Bool, true, false, ◌+◌, ◌==◌, ◌&&◌, List, [], ◌∷◌}
use Rattle.memory_words.specs.declared.cell_words.cell.Cell.{Cell}
use Rattle.memory_words.specs.declared.cell_words.cell.Cell.TheVariants.{Fragment}
use Rattle.memory_words.specs.declared.cell_words.pointer.Ptr.{Ptr}
use Rattle.memory_words.specs.declared.cell_words.pointer.Ptr.TheVariants as P

abbrev pub is_same : Ptr → Ptr → Bool
is_same P.Null P.Null = true
is_same (P.Block b at) (P.Block c other) = b == c && at == other
is_same (P.Function f) (P.Function g) = f == g
is_same p q = false

-- a pointer's k-th fragment
abbrev pub is_fragment : (type : ℕ) → Ptr → (k : ℕ) → Cell → Bool
is_fragment type p k (Fragment t q j) = t == type && is_same q p && j == k
is_fragment type p k c = false

-- its k-th fragment and those after it, in their order
abbrev pub are_fragments : (type : ℕ) → Ptr → (k : ℕ) → List Cell → Bool
are_fragments type p k [] = true
are_fragments type p k (c ∷ more) = is_fragment type p k c && are_fragments type p (k + 1) more
