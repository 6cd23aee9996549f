-- Ranges of cells, cell by cell.
use Rattle.std.proofs.Common.{◌≡◌, ℕ, ◌+◌, ◌-◌, ◌<◌, ◌≤◌, List, ◌++◌, length, take, drop, sym, ap, ◌∙◌, arith, inl, inr}
use Rattle.std.specs.Prelude.{◌⊎◌}
use Rattle.std.proofs.lemmas.Bool.{cases_lt}
use Rattle.std.proofs.lemmas.List.{ext_get_or, get_or-append_right, get_or_append_left, get_or-drop, get_or-take, length-append, length-take-le}
use Rattle.memory_words.specs.declared.cell_words.cell.Cell.{Cell}
use Rattle.memory_words.specs.declared.cell_words.cell.Cell.TheVariants.{Empty}
use Rattle.block_memory.specs.Cells.{cell_at, over, range}
use Rattle.block_memory.proofs.Differences.{length_range}
use Rattle.block_memory.proofs.Overs.{before, behind, length_over}

pub range_at : (all : List Cell) (at count i : ℕ) → i < count → cell_at (range all at count) i ≡ cell_at all (at + i)
range_at all at count i lt = get_or-take count (drop at all) i Empty lt ∙ get_or-drop at all i Empty

pub range_same : (all other : List Cell) (at to count : ℕ) → at + count ≤ length all → to + count ≤ length other
    → ((n : ℕ) → n < count → cell_at all (at + n) ≡ cell_at other (to + n)) → range all at count ≡ range other to count
range_same all other at to count le le2 same =
    ext_get_or Empty (range all at count) (range other to count) (length_range all at count le ∙ sym (length_range other to count le2))
    (λ n within. let lt : n < count = omega (arith, within, length_range all at count le) in range_at all at count n lt ∙ same n lt ∙ sym (range_at other to count n lt))

-- a range in a range
pub range_in : (all : List Cell) (s size at count : ℕ) → s + size ≤ length all → at + count ≤ size → range (range all s size) at count ≡ range all (s + at) count
range_in all s size at count le fits =
    range_same (range all s size) all at (s + at) count (omega (arith, length_range all s size le)) (omega (arith, le, fits))
    (λ n lt. let sum : s + (at + n) ≡ s + at + n = omega arith in range_at all s size (at + n) (omega (arith, fits, lt)) ∙ ap (λ n. cell_at all n) sum)

-- among cells that were put over others
pub inside : (all new : List Cell) (at n : ℕ) → at + length new ≤ length all → n < length new → cell_at (over all at new) (at + n) ≡ cell_at new n
inside all new at n le lt =
    let front : length (take at all) ≡ at = length-take-le at all (omega (arith, le)) in
    let there : at + n < length (take at all ++ new) = omega (arith, front, lt, length-append (take at all) new) in
    let back : at + n - at ≡ n = omega arith in
    get_or_append_left (take at all ++ new) (drop (at + length new) all) Empty (at + n) there
    ∙ get_or-append_right (take at all) new at (at + n) Empty front (omega arith) ∙ ap (λ n. cell_at new n) back

-- a range that lies apart from them
pub range_apart : (all new : List Cell) (cell at count : ℕ) → cell + length new ≤ length all → at + count ≤ length all
    → (at + count ≤ cell) ⊎ (cell + length new ≤ at) → range (over all cell new) at count ≡ range all at count
range_apart all new cell at count le fits apart =
    range_same (over all cell new) all at at count (omega (arith, fits, length_over all new cell le)) fits (λ n lt. at_n n lt apart) where
      at_n : (n : ℕ) → n < count → (at + count ≤ cell) ⊎ (cell + length new ≤ at) → cell_at (over all cell new) (at + n) ≡ cell_at all (at + n)
      at_n n lt (inl front) = before all new cell (at + n) le (omega (arith, front, lt))
      at_n n lt (inr back) = behind all new cell (at + n) le (omega (arith, back, lt))

-- and one that has them in it
pub range_over : (all new : List Cell) (s size at : ℕ) → s + size ≤ length all → at + length new ≤ size
    → range (over all (s + at) new) s size ≡ over (range all s size) at new
range_over all new s size at le fits =
    let many = length_range all s size le in
    let within : s + at + length new ≤ length all = omega (arith, le, fits) in
    let long = length_over all new (s + at) within in
    let short : length (over (range all s size) at new) ≡ size = length_over (range all s size) new at (omega (arith, many, fits)) ∙ many in
    ext_get_or Empty (range (over all (s + at) new) s size) (over (range all s size) at new)
    (length_range (over all (s + at) new) s size (omega (arith, le, long)) ∙ sym short)
    (λ n less. let lt : n < size = omega (arith, less, length_range (over all (s + at) new) s size (omega (arith, le, long))) in
    range_at (over all (s + at) new) s size n lt ∙ at_n n lt (cases_lt n at) (cases_lt n (at + length new))) where
      at_n : (n : ℕ) → n < size → (n < at) ⊎ (at ≤ n) → (n < at + length new) ⊎ (at + length new ≤ n)
          → cell_at (over all (s + at) new) (s + n) ≡ cell_at (over (range all s size) at new) n
      at_n n lt (inl front) other =
          before all new (s + at) (s + n) (omega (arith, le, fits)) (omega (arith, front)) ∙ sym (range_at all s size n lt)
          ∙ sym (before (range all s size) new at n (omega (arith, length_range all s size le, fits)) front)
      at_n n lt (inr here) (inl among) =
          let sum : s + n ≡ s + at + (n - at) = omega (arith, here) in
          let back : at + (n - at) ≡ n = omega (arith, here) in
          ap (λ n. cell_at (over all (s + at) new) n) sum ∙ inside all new (s + at) (n - at) (omega (arith, le, fits)) (omega (arith, here, among))
          ∙ sym (inside (range all s size) new at (n - at) (omega (arith, length_range all s size le, fits)) (omega (arith, here, among)))
          ∙ ap (λ n. cell_at (over (range all s size) at new) n) back
      at_n n lt (inr here) (inr past) =
          behind all new (s + at) (s + n) (omega (arith, le, fits)) (omega (arith, past)) ∙ sym (range_at all s size n lt)
          ∙ sym (behind (range all s size) new at n (omega (arith, length_range all s size le, fits)) past)

pub range_put : (all new : List Cell) (at : ℕ) → at + length new ≤ length all → range (over all at new) at (length new) ≡ new
range_put all new at le =
    let long = length_over all new at le in
    let many : length (range (over all at new) at (length new)) ≡ length new = length_range (over all at new) at (length new) (omega (arith, le, long)) in
    ext_get_or Empty (range (over all at new) at (length new)) new many
    (λ n less. let lt : n < length new = omega (arith, less, many) in range_at (over all at new) at (length new) n lt ∙ inside all new at n le lt)
