-- Cells that are put over others.
use Rattle.std.proofs.Common.{◌≡◌, ℕ, suc, ◌+◌, ◌-◌, ◌<◌, ◌≤◌, List, [], ◌∷◌, ◌++◌, length, take, drop, get_or, sym, ap, ◌∙◌, arith}
use Rattle.std.proofs.lemmas.Slice.{drop-append-drop}
use Rattle.std.proofs.Math.ListN.{set}
use Rattle.std.proofs.lemmas.List.{append-nil, append_assoc, drop_all, get_or-append_right, get_or_append_left, get_or-drop, get_or-take, length-append}
use Rattle.std.proofs.lemmas.List.{length-drop, length-take, length-take-le, take-append-drop, take_at}
use Rattle.std.proofs.lemmas.List.Edits.{sets-eq}
use Rattle.memory_words.specs.declared.cell_words.cell.Cell.{Cell}
use Rattle.memory_words.specs.declared.cell_words.cell.Cell.TheVariants.{Empty}
use Rattle.block_memory.specs.Cells.{over}

pub one_over : (all : List Cell) (at : ℕ) (a : Cell) → at + 1 ≤ length all → set all at a ≡ over all at (a ∷ [])
one_over all at a le = sets-eq (a ∷ []) all at le

pub four_over : (all : List Cell) (at : ℕ) (a b c d : Cell) → at + 4 ≤ length all
    → set (set (set (set all at a) (at + 1) b) (at + 2) c) (at + 3) d ≡ over all at (a ∷ b ∷ c ∷ d ∷ [])
four_over all at a b c d le =
    let one : at + 1 ≡ suc at = omega arith in
    let two : at + 2 ≡ suc (suc at) = omega arith in
    let three : at + 3 ≡ suc (suc (suc at)) = omega arith in
    ap (λ n. set (set (set (set all at a) n b) (at + 2) c) (at + 3) d) one
    ∙ ap (λ n. set (set (set (set all at a) (suc at) b) n c) (at + 3) d) two
    ∙ ap (λ n. set (set (set (set all at a) (suc at) b) (suc (suc at)) c) n d) three
    ∙ sets-eq (a ∷ b ∷ c ∷ d ∷ []) all at le

pub over_over : (all x y : List Cell) (at : ℕ) → at + length x + length y ≤ length all → over (over all at x) (at + length x) y ≡ over all at (x ++ y)
over_over all x y at le =
    let front : length (take at all ++ x) ≡ at + length x = omega (arith, length-append (take at all) x, length-take-le at all) in
    let rest : List Cell = drop (at + length x) all in
    let sum : at + length x + length y ≡ at + length (x ++ y) = omega (arith, length-append x y) in
    ap (λ r. r ++ y ++ drop (at + length x + length y) (over all at x)) (take_at (take at all ++ x) rest (at + length x) front)
    ∙ ap (λ r. take at all ++ x ++ y ++ r) (drop-append-drop (at + length x) all (take at all ++ x) (at + length x + length y) (omega arith) front)
    ∙ ap (λ n. take at all ++ x ++ y ++ drop n all) sum
    ∙ ap (λ r. r ++ drop (at + length (x ++ y)) all) (append_assoc (take at all) x y)

pub length_over : (all new : List Cell) (at : ℕ) → at + length new ≤ length all → length (over all at new) ≡ length all
length_over all new at le =
    length-append (take at all ++ new) (drop (at + length new) all) ∙ omega (arith, length-append (take at all) new, length-take-le at all, length-drop (at + length new) all)

pub no_shorter : (all new : List Cell) (at : ℕ) → length all ≤ length (over all at new)
no_shorter all new at = omega (arith, length-append (take at all ++ new) (drop (at + length new) all), length-append (take at all) new, length-take at all, length-drop (at + length new) all)

-- behind them nothing has changed
pub behind : (all new : List Cell) (at k : ℕ) → at + length new ≤ length all → at + length new ≤ k → get_or (over all at new) k Empty ≡ get_or all k Empty
behind all new at k le past =
    let front : length (take at all ++ new) ≡ at + length new = omega (arith, length-append (take at all) new, length-take-le at all) in
    let same : at + length new + (k - (at + length new)) ≡ k = omega arith in
    get_or-append_right (take at all ++ new) (drop (at + length new) all) (at + length new) k Empty front past
    ∙ get_or-drop (at + length new) all (k - (at + length new)) Empty ∙ ap (λ k. get_or all k Empty) same

-- and before them
pub before : (all new : List Cell) (at k : ℕ) → at + length new ≤ length all → k < at → get_or (over all at new) k Empty ≡ get_or all k Empty
before all new at k le lt =
    let here : k < length (take at all) = omega (arith, length-take-le at all) in
    let there : k < length (take at all ++ new) = omega (arith, length-append (take at all) new) in
    get_or_append_left (take at all ++ new) (drop (at + length new) all) Empty k there ∙ get_or_append_left (take at all) new Empty k here ∙ get_or-take at all k Empty lt

pub over_none : (all : List Cell) (at : ℕ) → all ≡ over all at []
over_none all at =
    let sum : at + 0 ≡ at = omega arith in
    sym (ap (λ n. take at all ++ [] ++ drop n all) sum ∙ ap (λ r. r ++ drop at all) (append-nil (take at all)) ∙ take-append-drop at all)

pub over_all : (all new : List Cell) → length all ≡ length new → over all 0 new ≡ new
over_all all new same = ap (λ r. new ++ r) (drop_all (0 + length new) all (omega (arith, same))) ∙ append-nil new
