-- The cells of words.
use Rattle.std.proofs.Common.{◌≡◌, ℕ, zero, suc, ◌+◌, ◌*◌, ◌/◌, ◌%◌, ◌<◌, ◌≤◌, List, [], ◌∷◌, ◌++◌, length, get_or, replicate, refl, sym, ap, ◌∙◌, arith}
use Rattle.std.proofs.Math.ListN.{set}
use Rattle.memory_words.specs.declared.cell_words.cell.Cell.{Cell}
use Rattle.memory_words.specs.declared.cell_words.cell.Cell.TheVariants.{Empty}
use Rattle.memory_words.specs.declared.cell_words.word.Four.{Four}
use Rattle.memory_words.specs.CellWords.Words.{cell_in, four_at, nothing, with_cell_in}
use Rattle.block_memory.specs.Cells.{cell_at, flat, over}
use Rattle.block_memory.proofs.Overs.{four_over, one_over}

four_on : (i k : ℕ) → 4 * suc i + k ≡ suc (suc (suc (suc (4 * i + k))))
four_on i k = omega arith

pub length_flat : (fours : List Four) → length (flat fours) ≡ 4 * length fours
length_flat [] = refl
length_flat (f ∷ fours) = let more = length_flat fours in omega (arith, more)

pub flat_get : (fours : List Four) (i k : ℕ) → i < length fours → k < 4 → get_or (flat fours) (4 * i + k) Empty ≡ cell_in (four_at fours i) k
flat_get [] i k lt small = absurd (omega arith)
flat_get (f ∷ fours) zero zero lt small = refl
flat_get (f ∷ fours) zero (suc zero) lt small = refl
flat_get (f ∷ fours) zero (suc (suc zero)) lt small = refl
flat_get (f ∷ fours) zero (suc (suc (suc zero))) lt small = refl
flat_get (f ∷ fours) zero (suc (suc (suc (suc k)))) lt small = absurd (omega arith)
flat_get (f ∷ fours) (suc i) k lt small = ap (λ n. get_or (flat (f ∷ fours)) n Empty) (four_on i k) ∙ flat_get fours i k (omega arith) small

flat_set : (fours : List Four) (i k : ℕ) (c : Cell) → i < length fours → k < 4
    → set (flat fours) (4 * i + k) c ≡ flat (set fours i (with_cell_in (four_at fours i) k c))
flat_set [] i k c lt small = absurd (omega arith)
flat_set (f ∷ fours) zero zero c lt small = refl
flat_set (f ∷ fours) zero (suc zero) c lt small = refl
flat_set (f ∷ fours) zero (suc (suc zero)) c lt small = refl
flat_set (f ∷ fours) zero (suc (suc (suc zero))) c lt small = refl
flat_set (f ∷ fours) zero (suc (suc (suc (suc k)))) c lt small = absurd (omega arith)
flat_set (f ∷ fours) (suc i) k c lt small =
    ap (λ n. set (flat (f ∷ fours)) n c) (four_on i k) ∙ ap (λ r. f.a ∷ f.b ∷ f.c ∷ f.d ∷ r) (flat_set fours i k c (omega arith) small)

flat_four : (fours : List Four) (i : ℕ) (g : Four) → i < length fours
    → set (set (set (set (flat fours) (4 * i + 0) g.a) (4 * i + 1) g.b) (4 * i + 2) g.c) (4 * i + 3) g.d ≡ flat (set fours i g)
flat_four [] i g lt = absurd (omega arith)
flat_four (f ∷ fours) zero g lt = refl
flat_four (f ∷ fours) (suc i) g lt =
    ap (λ n. set (set (set (set (flat (f ∷ fours)) n g.a) (4 * suc i + 1) g.b) (4 * suc i + 2) g.c) (4 * suc i + 3) g.d) (four_on i 0)
    ∙ ap (λ n. set (set (set (set (flat (f ∷ fours)) (suc (suc (suc (suc (4 * i + 0))))) g.a) n g.b) (4 * suc i + 2) g.c) (4 * suc i + 3) g.d) (four_on i 1)
    ∙ ap (λ n. set (set (set (set (flat (f ∷ fours)) (suc (suc (suc (suc (4 * i + 0))))) g.a) (suc (suc (suc (suc (4 * i + 1))))) g.b) n g.c) (4 * suc i + 3) g.d) (four_on i 2)
    ∙ ap (λ n. set (set (set (set (flat (f ∷ fours)) (suc (suc (suc (suc (4 * i + 0))))) g.a) (suc (suc (suc (suc (4 * i + 1))))) g.b) (suc (suc (suc (suc (4 * i + 2))))) g.c) n g.d) (four_on i 3)
    ∙ ap (λ r. f.a ∷ f.b ∷ f.c ∷ f.d ∷ r) (flat_four fours i g (omega arith))

in_four : (at : ℕ) → at ≡ 4 * (at / 4) + at % 4
in_four at = omega arith

-- ---- one cell

pub within : (fours : List Four) (at : ℕ) → at < length (flat fours) → at / 4 < length fours
within fours at lt = omega (arith, lt, length_flat fours)

pub read : (fours : List Four) (at : ℕ) → at < length (flat fours) → cell_in (four_at fours (at / 4)) (at % 4) ≡ cell_at (flat fours) at
read fours at lt = sym (ap (λ n. get_or (flat fours) n Empty) (in_four at) ∙ flat_get fours (at / 4) (at % 4) (within fours at lt) (omega arith))

pub put : (fours : List Four) (at : ℕ) (c : Cell) → at < length (flat fours)
    → flat (set fours (at / 4) (with_cell_in (four_at fours (at / 4)) (at % 4) c)) ≡ over (flat fours) at (c ∷ [])
put fours at c lt =
    sym (ap (λ n. set (flat fours) n c) (in_four at) ∙ flat_set fours (at / 4) (at % 4) c (within fours at lt) (omega arith)) ∙ one_over (flat fours) at c (omega (arith, lt))

-- ---- a whole word

flat_four_at : (fours : List Four) (at i : ℕ) (g : Four) → at ≡ 4 * i + 0 → i < length fours
    → set (set (set (set (flat fours) at g.a) (at + 1) g.b) (at + 2) g.c) (at + 3) g.d ≡ flat (set fours i g)
flat_four_at fours at i g e lt =
    let one : at + 1 ≡ 4 * i + 1 = omega arith in
    let two : at + 2 ≡ 4 * i + 2 = omega arith in
    let three : at + 3 ≡ 4 * i + 3 = omega arith in
    ap (λ n. set (set (set (set (flat fours) n g.a) (at + 1) g.b) (at + 2) g.c) (at + 3) g.d) e
    ∙ ap (λ n. set (set (set (set (flat fours) (4 * i + 0) g.a) n g.b) (at + 2) g.c) (at + 3) g.d) one
    ∙ ap (λ n. set (set (set (set (flat fours) (4 * i + 0) g.a) (4 * i + 1) g.b) n g.c) (at + 3) g.d) two
    ∙ ap (λ n. set (set (set (set (flat fours) (4 * i + 0) g.a) (4 * i + 1) g.b) (4 * i + 2) g.c) n g.d) three
    ∙ flat_four fours i g lt

pub four_put : (fours : List Four) (at : ℕ) (g : Four) → at + 4 ≤ length (flat fours) → at % 4 ≡ 0
    → flat (set fours (at / 4) g) ≡ over (flat fours) at (g.a ∷ g.b ∷ g.c ∷ g.d ∷ [])
four_put fours at g le aligned =
    let whole_at : at ≡ 4 * (at / 4) + 0 = omega arith in
    sym (flat_four_at fours at (at / 4) g whole_at (omega (arith, le, length_flat fours))) ∙ four_over (flat fours) at g.a g.b g.c g.d le

-- ---- more words

flat_append : (fours more : List Four) → flat (fours ++ more) ≡ flat fours ++ flat more
flat_append [] more = refl
flat_append (f ∷ fours) more = ap (λ r. f.a ∷ f.b ∷ f.c ∷ f.d ∷ r) (flat_append fours more)

flat_new : (count : ℕ) → flat (replicate count nothing) ≡ replicate (4 * count) Empty
flat_new zero = refl
flat_new (suc n) =
    let four : suc (suc (suc (suc (4 * n)))) ≡ 4 * suc n = omega arith in
    ap (λ r. Empty ∷ Empty ∷ Empty ∷ Empty ∷ r) (flat_new n) ∙ ap (λ n. replicate n Empty) four

pub grown : (fours other : List Four) (count : ℕ) → other ≡ fours ++ replicate count nothing → flat other ≡ flat fours ++ replicate (4 * count) Empty
grown fours other count e = ap flat e ∙ flat_append fours (replicate count nothing) ∙ ap (λ r. flat fours ++ r) (flat_new count)
