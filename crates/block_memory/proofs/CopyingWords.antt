-- Cells that are copied word by word.
use Rattle.std.proofs.Common.{◌≡◌, ℕ, ◌+◌, ◌-◌, ◌*◌, ◌/◌, ◌<◌, ◌≤◌, List, ◌++◌, length, take, drop, refl, sym, ap, ◌∙◌, arith, inl, inr}
use Rattle.std.specs.Prelude.{◌⊎◌}
use Rattle.std.proofs.Math.ListN.{set}
use Rattle.std.proofs.lemmas.Bool.{cases_lt}
use Rattle.std.proofs.lemmas.List.{drop-drop, ext_get_or, get_or-append_right, get_or_append_left, length-append, length-drop, length-take-le, take_all}
use Rattle.std.proofs.lemmas.List.{take-append-drop}
use Rattle.memory_words.specs.declared.cell_words.cell.Cell.{Cell}
use Rattle.memory_words.specs.declared.cell_words.cell.Cell.TheVariants.{Empty}
use Rattle.memory_words.specs.declared.cell_words.word.Four.{Four}
use Rattle.memory_words.specs.CellWords.Words.{cells_of, four_at}
use Rattle.block_memory.specs.Cells.{cell_at, flat, over, range}
use Rattle.block_memory.proofs.CellsHold.{take_four}
use Rattle.block_memory.proofs.Copying.{Copies}
use Rattle.block_memory.proofs.Differences.{length_range}
use Rattle.block_memory.proofs.Flat.{flat_get, four_put, length_flat}
use Rattle.block_memory.proofs.Overs.{before, behind, length_over, over_over}
use Rattle.block_memory.proofs.RangesHold.{inside, range_at, range_in, range_same}

-- ---- a word

-- the cells of a word among all
four_range : (fours : List Four) (i : ℕ) → i < length fours → cells_of (four_at fours i) ≡ range (flat fours) (4 * i) 4
four_range fours i lt =
    let first : 4 * i + 0 ≡ 4 * i = omega arith in
    let a : cell_at (flat fours) (4 * i) ≡ (four_at fours i).a = ap (λ n. cell_at (flat fours) n) (sym first) ∙ flat_get fours i 0 lt (omega arith) in
    let b : cell_at (flat fours) (4 * i + 1) ≡ (four_at fours i).b = flat_get fours i 1 lt (omega arith) in
    let c : cell_at (flat fours) (4 * i + 2) ≡ (four_at fours i).c = flat_get fours i 2 lt (omega arith) in
    let d : cell_at (flat fours) (4 * i + 3) ≡ (four_at fours i).d = flat_get fours i 3 lt (omega arith) in
    sym (take_four (flat fours) (4 * i) (omega (arith, lt, length_flat fours)) ∙ rw (a, b, c, d) refl)

pub word_copied : (fours other : List Four) (to from : ℕ) → to < length fours → from < length fours → other ≡ set fours to (four_at fours from)
    → flat other ≡ over (flat fours) (4 * to) (range (flat fours) (4 * from) 4)
word_copied fours other to from lt lt2 e =
    let at : 4 * to / 4 ≡ to = omega arith in
    ap flat e ∙ ap (λ n. flat (set fours n (four_at fours from))) (sym at)
    ∙ four_put fours (4 * to) (four_at fours from) (omega (arith, lt, length_flat fours)) (omega arith)
    ∙ ap (λ r. over (flat fours) (4 * to) r) (four_range fours from lt2)

-- ---- from the first on

take_more_of : (all : List Cell) (i k : ℕ) → i + k ≤ length all → take i all ++ range all i k ≡ take (i + k) all
take_more_of all i k le =
    let front : length (take i all) ≡ i = length-take-le i all (omega (arith, le)) in
    let back : length (range all i k) ≡ k = length_range all i k le in
    ext_get_or Empty (take i all ++ range all i k) (take (i + k) all)
    (omega (arith, length-append (take i all) (range all i k), front, back, length-take-le (i + k) all le))
    (λ n less. let lt : n < i + k = omega (arith, less, length-append (take i all) (range all i k), front, back) in
    at_n n lt front (cases_lt n i) ∙ sym (range_at all 0 (i + k) n lt)) where
      at_n : (n : ℕ) → n < i + k → length (take i all) ≡ i → (n < i) ⊎ (i ≤ n) → cell_at (take i all ++ range all i k) n ≡ cell_at all (0 + n)
      at_n n lt front (inl here) =
          get_or_append_left (take i all) (range all i k) Empty n (omega (arith, front, here)) ∙ range_at all 0 i n here
      at_n n lt front (inr past) =
          let same : i + (n - i) ≡ 0 + n = omega (arith, past) in
          get_or-append_right (take i all) (range all i k) i n Empty front past ∙ range_at all i k (n - i) (omega (arith, lt, past)) ∙ ap (λ n. cell_at all n) same

pub down_chunk : (all with new : List Cell) (to from count i k : ℕ) → Copies all to from count → i + k ≤ count → to ≤ from
    → with ≡ over all to (take i (range all from count)) → new ≡ over with (to + i) (range with (from + i) k)
    → new ≡ over all to (take (i + k) (range all from count))
down_chunk all with new to from count i k known le down ew en =
    let copied : List Cell = range all from count in
    let many = length_range all from count known.from_within in
    let front : length (take i copied) ≡ i = length-take-le i copied (omega (arith, many, le)) in
    let within : to + length (take i copied) ≤ length all = omega (arith, front, known.to_within, le) in
    let long : length with ≡ length all = ap length ew ∙ length_over all (take i copied) to within in
    let read : range with (from + i) k ≡ range copied i k =
    range_same with all (from + i) (from + i) k (omega (arith, long, known.from_within, le)) (omega (arith, known.from_within, le))
    (λ n lt. ap (λ w. cell_at w (from + i + n)) ew ∙ behind all (take i copied) to (from + i + n) within (omega (arith, front, down)))
    ∙ sym (range_in all from count i k known.from_within le) in
    let back : length (range copied i k) ≡ k = length_range copied i k (omega (arith, many, le)) in
    en ∙ ap (λ r. over with (to + i) r) read ∙ ap (λ w. over w (to + i) (range copied i k)) ew
    ∙ ap (λ n. over (over all to (take i copied)) (to + n) (range copied i k)) (sym front)
    ∙ over_over all (take i copied) (range copied i k) to (omega (arith, front, back, known.to_within, le))
    ∙ ap (λ r. over all to r) (take_more_of copied i k (omega (arith, many, le)))

-- ---- from the last back

over_before : (all x y : List Cell) (at : ℕ) → at + length x + length y ≤ length all → over (over all (at + length x) y) at x ≡ over all at (x ++ y)
over_before all x y at le =
    let sum = length-append x y in
    let long = length_over all y (at + length x) (omega (arith, le)) in
    let left : length (over (over all (at + length x) y) at x) ≡ length all = length_over (over all (at + length x) y) x at (omega (arith, le, long)) ∙ long in
    ext_get_or Empty (over (over all (at + length x) y) at x) (over all at (x ++ y)) (left ∙ sym (length_over all (x ++ y) at (omega (arith, le, sum))))
    (λ n less. at_n n (cases_lt n at) (cases_lt n (at + length x)) (cases_lt n (at + length x + length y))) where
      inner : List Cell
      inner = over all (at + length x) y

      at_n : (n : ℕ) → (n < at) ⊎ (at ≤ n) → (n < at + length x) ⊎ (at + length x ≤ n) → (n < at + length x + length y) ⊎ (at + length x + length y ≤ n)
          → cell_at (over (over all (at + length x) y) at x) n ≡ cell_at (over all at (x ++ y)) n
      at_n n (inl front) other more =
          let long = length_over all y (at + length x) (omega (arith, le)) in
          before (over all (at + length x) y) x at n (omega (arith, le, long)) front ∙ before all y (at + length x) n (omega (arith, le)) (omega (arith, front))
          ∙ sym (before all (x ++ y) at n (omega (arith, le, length-append x y)) front)
      at_n n (inr here) (inl among) more =
          let long = length_over all y (at + length x) (omega (arith, le)) in
          let same : at + (n - at) ≡ n = omega (arith, here) in
          ap (λ n. cell_at (over (over all (at + length x) y) at x) n) (sym same)
          ∙ inside (over all (at + length x) y) x at (n - at) (omega (arith, le, long)) (omega (arith, here, among))
          ∙ sym (inside all (x ++ y) at (n - at) (omega (arith, le, length-append x y)) (omega (arith, here, among, length-append x y))
          ∙ get_or_append_left x y Empty (n - at) (omega (arith, here, among)))
          ∙ ap (λ n. cell_at (over all at (x ++ y)) n) same
      at_n n (inr here) (inr past) (inl among) =
          let long = length_over all y (at + length x) (omega (arith, le)) in
          let same : at + length x + (n - (at + length x)) ≡ n = omega (arith, past) in
          let back : at + (n - at) ≡ n = omega (arith, here) in
          let rest : n - at - length x ≡ n - (at + length x) = omega (arith, past) in
          behind (over all (at + length x) y) x at n (omega (arith, le, long)) past
          ∙ ap (λ n. cell_at (over all (at + length x) y) n) (sym same)
          ∙ inside all y (at + length x) (n - (at + length x)) (omega (arith, le)) (omega (arith, past, among))
          ∙ sym (inside all (x ++ y) at (n - at) (omega (arith, le, length-append x y)) (omega (arith, here, among, length-append x y))
          ∙ get_or-append_right x y (length x) (n - at) Empty refl (omega (arith, past)) ∙ ap (λ n. cell_at y n) rest)
          ∙ ap (λ n. cell_at (over all at (x ++ y)) n) back
      at_n n (inr here) (inr past) (inr end) =
          let long = length_over all y (at + length x) (omega (arith, le)) in
          behind (over all (at + length x) y) x at n (omega (arith, le, long)) past ∙ behind all y (at + length x) n (omega (arith, le)) end
          ∙ sym (behind all (x ++ y) at n (omega (arith, le, length-append x y)) (omega (arith, end, length-append x y)))

pub drop_is : (all : List Cell) (from count i : ℕ) → from + count ≤ length all → i ≤ count → drop i (range all from count) ≡ range all (from + i) (count - i)
drop_is all from count i within le =
    let many = length_range all from count within in
    sym (take_all (count - i) (drop i (range all from count)) (omega (arith, length-drop i (range all from count), many)))
    ∙ range_in all from count i (count - i) within (omega (arith, le))

pub up_chunk : (all with new : List Cell) (to from count i k : ℕ) → Copies all to from count → i + k ≤ count → from ≤ to
    → with ≡ over all (to + (i + k)) (drop (i + k) (range all from count)) → new ≡ over with (to + i) (range with (from + i) k)
    → new ≡ over all (to + i) (drop i (range all from count))
up_chunk all with new to from count i k known le up ew en =
    let copied : List Cell = range all from count in
    let many = length_range all from count known.from_within in
    let rest : length (drop (i + k) copied) ≡ count - (i + k) = length-drop (i + k) copied ∙ ap (λ n. n - (i + k)) many in
    let within : to + (i + k) + length (drop (i + k) copied) ≤ length all = omega (arith, rest, known.to_within, le) in
    let long : length with ≡ length all = ap length ew ∙ length_over all (drop (i + k) copied) (to + (i + k)) within in
    let read : range with (from + i) k ≡ range copied i k =
    range_same with all (from + i) (from + i) k (omega (arith, long, known.from_within, le)) (omega (arith, known.from_within, le))
    (λ n lt. ap (λ w. cell_at w (from + i + n)) ew ∙ before all (drop (i + k) copied) (to + (i + k)) (from + i + n) within (omega (arith, up, lt)))
    ∙ sym (range_in all from count i k known.from_within le) in
    let some : length (range copied i k) ≡ k = length_range copied i k (omega (arith, many, le)) in
    let sum : to + (i + k) ≡ to + i + length (range copied i k) = omega (arith, some) in
    en ∙ ap (λ r. over with (to + i) r) read ∙ ap (λ w. over w (to + i) (range copied i k)) ew
    ∙ ap (λ n. over (over all n (drop (i + k) copied)) (to + i) (range copied i k)) sum
    ∙ over_before all (range copied i k) (drop (i + k) copied) (to + i) (omega (arith, some, rest, known.to_within, le))
    ∙ ap (λ r. over all (to + i) r) (split copied i k (omega (arith, many, le))) where
      split : (all : List Cell) (i k : ℕ) → i + k ≤ length all → range all i k ++ drop (i + k) all ≡ drop i all
      split all i k le =
          ap (λ r. range all i k ++ r) (sym (drop-drop k i all)) ∙ take-append-drop k (drop i all)
