-- What is held in one word.
use Rattle.std.proofs.Common.{◌≡◌, ℕ, ◌+◌, ◌*◌, ◌/◌, ◌%◌, ◌^◌, ◌<◌, ◌≤◌, List, [], ◌∷◌, length, take, drop, Bool, true, false, Ok, refl, sym, ap, ◌∙◌, arith}
use Rattle.std.specs.Prelude.{◌==◌, nat_le, if◌then◌else◌}
use Rattle.std.proofs.lemmas.Bool.{eq-eqb}
use Rattle.c_types.specs.declared.ty.IntKind.{IntKind}
use Rattle.c_types.specs.declared.ty.IntKind.TheVariants as I
use Rattle.c_types.specs.IntKinds.{greatest, width}
use Rattle.memory_words.specs.declared.cell_words.cell.Cell.{Cell}
use Rattle.memory_words.specs.declared.cell_words.cell.Cell.TheVariants.{Byte, Fragment}
use Rattle.memory_words.specs.declared.cell_words.pointer.Ptr.{Ptr}
use Rattle.memory_words.specs.declared.cell_words.pointer.Ptr.TheVariants as P
use Rattle.memory_words.specs.declared.cell_words.word.Four.{Four}
use Rattle.block_memory.specs.Digits.{digit_before, number_at, pointer_at, valued}
use Rattle.block_memory.specs.Held.{held, pointer_in, word_of}
use Rattle.memory_words.specs.CellWords.Fragments.{are_fragments, is_same}
use Rattle.memory_words.specs.CellWords.Words.{cell_in, four_at, four_bytes, four_pointer}
use Rattle.block_memory.specs.Cells.{cell_at, flat}
use Rattle.block_memory.proofs.CellsHold.{four_at as four_at_is, take_four}
use Rattle.block_memory.proofs.Flat.{flat_get, length_flat}

-- the cells of a word
at_k : (fours : List Four) (at k n : ℕ) → at % 4 ≡ 0 → n ≡ at + k → k < 4 → at + 4 ≤ length (flat fours) → cell_at (flat fours) n ≡ cell_in (four_at fours (at / 4)) k
at_k fours at k n aligned en small le =
    let same : n ≡ 4 * (at / 4) + k = omega arith in
    ap (λ n. cell_at (flat fours) n) same ∙ flat_get fours (at / 4) k (omega (arith, le, length_flat fours)) small

digits : (v : ℕ) → v < 2 ^ 32 → v % 256 + 256 * (v / 256 % 256 + 256 * (v / 256 / 256 % 256 + 256 * (v / 256 / 256 / 256 % 256 + 256 * 0))) ≡ v
digits v lt = omega arith

either_way : (b : Bool) (v : ℕ) → v ≡ (if b then v else v + 0)
either_way true v = refl
either_way false v = omega arith

as_it_is : (kind : IntKind) (v : ℕ) → width kind ≡ 4 → v ≡ word_of kind v
as_it_is I.Char v e = absurd (omega arith)
as_it_is I.SChar v e = absurd (omega arith)
as_it_is I.UChar v e = absurd (omega arith)
as_it_is I.Short v e = absurd (omega arith)
as_it_is I.UShort v e = absurd (omega arith)
as_it_is I.Int v e = either_way (nat_le v (greatest I.Int)) v
as_it_is I.UInt v e = either_way (nat_le v (greatest I.UInt)) v
as_it_is I.Long v e = either_way (nat_le v (greatest I.Long)) v
as_it_is I.ULong v e = either_way (nat_le v (greatest I.ULong)) v

pub number_of_word : (fours : List Four) (at v : ℕ) (kind : IntKind) → width kind ≡ 4 → at % 4 ≡ 0 → at + width kind ≤ length (flat fours) → v < 2 ^ 32
    → four_at fours (at / 4) ≡ four_bytes v → Ok v ≡ number_at (flat fours) at kind
number_of_word fours at v kind four aligned le small is =
    let fits : at + 4 ≤ length (flat fours) = omega (arith, four, le) in
    let a : cell_at (flat fours) at ≡ Byte (v % 256) = at_k fours at 0 at aligned (omega arith) (omega arith) fits ∙ ap (λ f. cell_in f 0) is in
    let b : cell_at (flat fours) (at + 1) ≡ Byte (v / 256 % 256) = at_k fours at 1 (at + 1) aligned refl (omega arith) fits ∙ ap (λ f. cell_in f 1) is in
    let c : cell_at (flat fours) (at + 2) ≡ Byte (v / 256 / 256 % 256) = at_k fours at 2 (at + 2) aligned refl (omega arith) fits ∙ ap (λ f. cell_in f 2) is in
    let d : cell_at (flat fours) (at + 3) ≡ Byte (v / 256 / 256 / 256 % 256) = at_k fours at 3 (at + 3) aligned refl (omega arith) fits ∙ ap (λ f. cell_in f 3) is in
    let read : digit_before (cell_at (flat fours) at) (digit_before (cell_at (flat fours) (at + 1)) (digit_before (cell_at (flat fours) (at + 2)) (digit_before (cell_at (flat fours) (at + 3)) (Ok 0)))) ≡ Ok v =
    rw (a, b, c, d) (ap (λ v. Ok v) (digits v small)) in
    ap (λ v. Ok v) (as_it_is kind v four) ∙ sym (ap (valued kind) read) ∙ four_at_is (flat fours) at kind four fits

same_number : (n : ℕ) → (n == n) ≡ true
same_number n = eq-eqb n n refl

same_pointer : (p : Ptr) → is_same p p ≡ true
same_pointer P.Null = refl
same_pointer (P.Block b at) = rw (same_number b, same_number at) refl
same_pointer (P.Function f) = same_number f

pub pointer_of_word : (fours : List Four) (at type : ℕ) (p : Ptr) → at % 4 ≡ 0 → at + 4 ≤ length (flat fours)
    → four_at fours (at / 4) ≡ four_pointer type p → Ok p ≡ pointer_at (flat fours) at type
pointer_of_word fours at type p aligned fits is =
    let a : cell_at (flat fours) at ≡ Fragment type p 0 = at_k fours at 0 at aligned (omega arith) (omega arith) fits ∙ ap (λ f. cell_in f 0) is in
    let b : cell_at (flat fours) (at + 1) ≡ Fragment type p 1 = at_k fours at 1 (at + 1) aligned refl (omega arith) fits ∙ ap (λ f. cell_in f 1) is in
    let c : cell_at (flat fours) (at + 2) ≡ Fragment type p 2 = at_k fours at 2 (at + 2) aligned refl (omega arith) fits ∙ ap (λ f. cell_in f 2) is in
    let d : cell_at (flat fours) (at + 3) ≡ Fragment type p 3 = at_k fours at 3 (at + 3) aligned refl (omega arith) fits ∙ ap (λ f. cell_in f 3) is in
    let cells : List Cell = Fragment type p 0 ∷ Fragment type p 1 ∷ Fragment type p 2 ∷ Fragment type p 3 ∷ [] in
    let all_four : take 4 (drop at (flat fours)) ≡ cells = take_four (flat fours) at fits ∙ rw (a, b, c, d) refl in
    let fragments : are_fragments type p 0 cells ≡ true = rw (same_number type, same_pointer p) refl in
    sym (ap (λ cells. held cells (pointer_in type cells)) all_four ∙ rw fragments refl)
