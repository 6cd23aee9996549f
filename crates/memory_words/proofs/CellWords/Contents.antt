-- Words that stand in no table.
use Rattle.std.proofs.Common.{◌≡◌, ℕ, ◌+◌, ◌*◌, true, false, [], ◌∷◌, refl, ap}
use Rattle.std.specs.Prelude.{◌&&◌, ◌==◌}
use Rattle.std.proofs.lemmas.Bool.{and_parts, eqb-true}
use Rattle.memory_words.specs.declared.cell_words.cell.Cell.{Cell}
use Rattle.memory_words.specs.declared.cell_words.cell.Cell.TheVariants.{Fragment}
use Rattle.memory_words.specs.declared.cell_words.pointer.Ptr.{Ptr}
use Rattle.memory_words.specs.declared.cell_words.pointer.Ptr.TheVariants as P
use Rattle.memory_words.specs.declared.cell_words.word.Content.{Content}
use Rattle.memory_words.specs.declared.cell_words.word.Content.TheVariants as C
use Rattle.memory_words.specs.declared.cell_words.word.Four.{Four}
use Rattle.memory_words.specs.declared.cell_words.word.Word.TheVariants as W
use Rattle.memory_words.specs.CellWords.Fragments.{are_fragments, is_fragment, is_same}
use Rattle.memory_words.specs.CellWords.Words.{byte_of, cell_of, cells_of, four_pointer, gap_of, whole}

-- ---- words with gaps

pub whole_gaps : (a b c d : Content) → whole (W.Bytes (gap_of a + 2 * gap_of b + 4 * gap_of c + 8 * gap_of d) (byte_of a) (byte_of b) (byte_of c) (byte_of d)) ≡ record { a = cell_of a; b = cell_of b; c = cell_of c; d = cell_of d }
whole_gaps (C.Byte a) (C.Byte b) (C.Byte c) (C.Byte d) = refl
whole_gaps C.Empty (C.Byte b) (C.Byte c) (C.Byte d) = refl
whole_gaps (C.Byte a) C.Empty (C.Byte c) (C.Byte d) = refl
whole_gaps C.Empty C.Empty (C.Byte c) (C.Byte d) = refl
whole_gaps (C.Byte a) (C.Byte b) C.Empty (C.Byte d) = refl
whole_gaps C.Empty (C.Byte b) C.Empty (C.Byte d) = refl
whole_gaps (C.Byte a) C.Empty C.Empty (C.Byte d) = refl
whole_gaps C.Empty C.Empty C.Empty (C.Byte d) = refl
whole_gaps (C.Byte a) (C.Byte b) (C.Byte c) C.Empty = refl
whole_gaps C.Empty (C.Byte b) (C.Byte c) C.Empty = refl
whole_gaps (C.Byte a) C.Empty (C.Byte c) C.Empty = refl
whole_gaps C.Empty C.Empty (C.Byte c) C.Empty = refl
whole_gaps (C.Byte a) (C.Byte b) C.Empty C.Empty = refl
whole_gaps C.Empty (C.Byte b) C.Empty C.Empty = refl
whole_gaps (C.Byte a) C.Empty C.Empty C.Empty = refl
whole_gaps C.Empty C.Empty C.Empty C.Empty = refl

-- ---- four fragments

same_pointer : (p q : Ptr) → is_same p q ≡ true → p ≡ q
same_pointer P.Null P.Null e = refl
same_pointer (P.Block b at) (P.Block c other) e =
    let parts = and_parts (b == c) (at == other) e in
    let block = eqb-true b c parts.0 in let offset = eqb-true at other parts.1 in cc
same_pointer (P.Function f) (P.Function g) e = ap P.Function (eqb-true f g e)
same_pointer p q e = let wrong : false ≡ true = e in cc

same_fragment : (type : ℕ) (p : Ptr) (k : ℕ) (c : Cell) → is_fragment type p k c ≡ true → c ≡ Fragment type p k
same_fragment type p k (Fragment t q j) e =
    let parts = and_parts (t == type && is_same q p) (j == k) e in
    let more = and_parts (t == type) (is_same q p) parts.0 in
    let one = eqb-true t type more.0 in let pointer = same_pointer q p more.1 in let place = eqb-true j k parts.1 in cc
same_fragment type p k c e = let wrong : false ≡ true = e in cc

pub fragments_are : (four : Four) (type : ℕ) (p : Ptr) → are_fragments type p 0 (cells_of four) ≡ true → four_pointer type p ≡ four
fragments_are four type p e =
    let first = and_parts (is_fragment type p 0 four.a) (are_fragments type p 1 (four.b ∷ four.c ∷ four.d ∷ [])) e in
    let second = and_parts (is_fragment type p 1 four.b) (are_fragments type p 2 (four.c ∷ four.d ∷ [])) first.1 in
    let third = and_parts (is_fragment type p 2 four.c) (are_fragments type p 3 (four.d ∷ [])) second.1 in
    let fourth = and_parts (is_fragment type p 3 four.d) true third.1 in
    let a = same_fragment type p 0 four.a first.0 in
    let b = same_fragment type p 1 four.b second.0 in
    let c = same_fragment type p 2 four.c third.0 in
    let d = same_fragment type p 3 four.d fourth.0 in rw (a, b, c, d) refl
