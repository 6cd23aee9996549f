-- Cells that are copied one by one.
use Rattle.std.proofs.Common.{◌≡◌, ℕ, ◌+◌, ◌-◌, ◌<◌, ◌≤◌, List, [], ◌∷◌, ◌++◌, length, take, drop, get_or, sym, ap, ◌∙◌, arith}
use Rattle.std.proofs.Math.ListN.{set}
use Rattle.std.proofs.lemmas.List.{append_assoc, drop_all, drop_more, get_or-drop, get_or-take, length-append, length-drop, length-take-le, set_at, take_all}
use Rattle.std.proofs.lemmas.List.{take_more}
use Rattle.memory_words.specs.declared.cell_words.cell.Cell.{Cell}
use Rattle.memory_words.specs.declared.cell_words.cell.Cell.TheVariants.{Empty}
use Rattle.block_memory.specs.Cells.{cell_at, over, range}
use Rattle.block_memory.proofs.Differences.{length_range, range_more}
use Rattle.block_memory.proofs.Overs.{before, behind, length_over, one_over, over_none}

-- ---- one more

-- one more at their end
over_next : (all new : List Cell) (at i : ℕ) (c : Cell) → length new ≡ i → at + i < length all → set (over all at new) (at + i) c ≡ over all at (new ++ c ∷ [])
over_next all new at i c is lt =
    let front : length (take at all ++ new) ≡ at + i = omega (arith, length-append (take at all) new, length-take-le at all) in
    let longer : length (new ++ c ∷ []) ≡ i + 1 = omega (arith, length-append new (c ∷ [])) in
    let sum : at + i + 1 ≡ at + (i + 1) = omega arith in
    ap (λ n. set (take at all ++ new ++ drop (at + n) all) (at + i) c) is
    ∙ ap (λ r. set (take at all ++ new ++ r) (at + i) c) (drop_more all (at + i) Empty lt)
    ∙ set_at (take at all ++ new) (get_or all (at + i) Empty) (drop (at + i + 1) all) c (at + i) front
    ∙ ap (λ n. take at all ++ new ++ c ∷ drop n all) (sum ∙ ap (λ n. at + n) (sym longer))
    ∙ sym (append_assoc (take at all ++ new) (c ∷ []) (drop (at + length (new ++ c ∷ [])) all))
    ∙ ap (λ r. r ++ drop (at + length (new ++ c ∷ [])) all) (append_assoc (take at all) new (c ∷ []))

-- one more before them
over_first : (all new : List Cell) (at : ℕ) (c : Cell) → at + 1 + length new ≤ length all → set (over all (at + 1) new) at c ≡ over all at (c ∷ new)
over_first all new at c le =
    let front : length (take at all) ≡ at = length-take-le at all (omega arith) in
    let rest : List Cell = drop (at + 1 + length new) all in
    let sum : at + 1 + length new ≡ at + length (c ∷ new) = omega arith in
    ap (λ r. set (r ++ new ++ rest) at c) (take_more all at Empty (omega arith))
    ∙ ap (λ r. set r at c) (append_assoc (take at all ++ get_or all at Empty ∷ []) new rest ∙ append_assoc (take at all) (get_or all at Empty ∷ []) (new ++ rest))
    ∙ set_at (take at all) (get_or all at Empty) (new ++ rest) c at front
    ∙ sym (append_assoc (take at all) (c ∷ new) rest)
    ∙ ap (λ n. take at all ++ (c ∷ new) ++ drop n all) sum

-- ---- what is known of a copy

pub record Copies (all : List Cell) (to from count : ℕ) : Type 0 where
  pub to_within : to + count ≤ length all
  pub from_within : from + count ≤ length all

get_or-range : (all : List Cell) (at count i : ℕ) → i < count → cell_at (range all at count) i ≡ cell_at all (at + i)
get_or-range all at count i lt = get_or-take count (drop at all) i Empty lt ∙ get_or-drop at all i Empty

-- ---- from the first on

length_front : (all : List Cell) (to from count i : ℕ) → Copies all to from count → i ≤ count → length (take i (range all from count)) ≡ i
length_front all to from count i known le = length-take-le i (range all from count) (omega (arith, length_range all from count known.from_within))

pub down_long : (all new : List Cell) (to from count i : ℕ) → Copies all to from count → i ≤ count → new ≡ over all to (take i (range all from count)) → length new ≡ length all
down_long all new to from count i known le en =
    ap length en ∙ length_over all (take i (range all from count)) to (omega (arith, length_front all to from count i known le, known.to_within))

pub down_more : (all with new : List Cell) (to from count i : ℕ) (c : Cell) → Copies all to from count → i < count → to ≤ from
    → with ≡ over all to (take i (range all from count)) → c ≡ cell_at with (from + i) → new ≡ over with (to + i) (c ∷ [])
    → new ≡ over all to (take (i + 1) (range all from count))
down_more all with new to from count i c known lt le ew ec en =
    let copied : List Cell = range all from count in
    let front : length (take i copied) ≡ i = length_front all to from count i known (omega arith) in
    let long : length with ≡ length all = down_long all with to from count i known (omega arith) ew in
    let read : c ≡ cell_at copied i =
    ec ∙ ap (λ w. cell_at w (from + i)) ew ∙ behind all (take i copied) to (from + i) (omega (arith, front, known.to_within)) (omega (arith, front, le))
    ∙ sym (get_or-range all from count i lt) in
    en ∙ sym (one_over with (to + i) c (omega (arith, long, known.to_within))) ∙ ap (λ w. set w (to + i) c) ew
    ∙ over_next all (take i copied) to i c front (omega (arith, known.to_within))
    ∙ ap (λ c. over all to (take i copied ++ c ∷ [])) read
    ∙ ap (λ r. over all to r) (sym (take_more copied i Empty (omega (arith, length_range all from count known.from_within))))

pub down_all : (all new : List Cell) (to from count : ℕ) → Copies all to from count
    → new ≡ over all to (take count (range all from count)) → new ≡ over all to (range all from count)
down_all all new to from count known en =
    en ∙ ap (λ r. over all to r) (take_all count (range all from count) (omega (arith, length_range all from count known.from_within)))

-- ---- from the last back

length_back : (all : List Cell) (to from count i : ℕ) → Copies all to from count → length (drop i (range all from count)) ≡ count - i
length_back all to from count i known = length-drop i (range all from count) ∙ ap (λ n. n - i) (length_range all from count known.from_within)

pub up_long : (all new : List Cell) (to from count i : ℕ) → Copies all to from count → i ≤ count → new ≡ over all (to + i) (drop i (range all from count)) → length new ≡ length all
up_long all new to from count i known le en =
    ap length en ∙ length_over all (drop i (range all from count)) (to + i) (omega (arith, length_back all to from count i known, known.to_within))

pub up_more : (all with new : List Cell) (to from count i : ℕ) (c : Cell) → Copies all to from count → i < count → from ≤ to
    → with ≡ over all (to + (i + 1)) (drop (i + 1) (range all from count)) → c ≡ cell_at with (from + i) → new ≡ over with (to + i) (c ∷ [])
    → new ≡ over all (to + i) (drop i (range all from count))
up_more all with new to from count i c known lt le ew ec en =
    let copied : List Cell = range all from count in
    let back : length (drop (i + 1) copied) ≡ count - (i + 1) = length_back all to from count (i + 1) known in
    let long : length with ≡ length all = up_long all with to from count (i + 1) known (omega arith) ew in
    let read : c ≡ cell_at all (from + i) =
    ec ∙ ap (λ w. cell_at w (from + i)) ew ∙ before all (drop (i + 1) copied) (to + (i + 1)) (from + i) (omega (arith, back, known.to_within)) (omega (arith, le)) in
    let sum : to + (i + 1) ≡ to + i + 1 = omega arith in
    en ∙ sym (one_over with (to + i) c (omega (arith, long, known.to_within))) ∙ ap (λ w. set w (to + i) c) ew
    ∙ ap (λ n. set (over all n (drop (i + 1) copied)) (to + i) c) sum
    ∙ over_first all (drop (i + 1) copied) (to + i) c (omega (arith, back, known.to_within))
    ∙ ap (λ r. over all (to + i) r) (ap (λ c. c ∷ drop (i + 1) copied) read ∙ sym (range_more all from count i known.from_within lt))

pub up_none : (all : List Cell) (to from count : ℕ) → Copies all to from count → all ≡ over all (to + count) (drop count (range all from count))
up_none all to from count known =
    over_none all (to + count) ∙ ap (λ r. over all (to + count) r) (sym (drop_all count (range all from count) (omega (arith, length_range all from count known.from_within))))

pub up_all : (all new : List Cell) (to from count : ℕ) → new ≡ over all (to + 0) (drop 0 (range all from count)) → new ≡ over all to (range all from count)
up_all all new to from count en = let sum : to + 0 ≡ to = omega arith in en ∙ ap (λ n. over all n (range all from count)) sum
