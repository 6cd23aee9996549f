-- Ranges that are compared cell by cell.
use Rattle.std.proofs.Common.{◌≡◌, ℕ, ◌+◌, ◌<◌, ◌≤◌, List, ◌∷◌, length, drop, Bool, true, false, Ok, refl, sym, ap, ◌∙◌, arith}
use Rattle.std.specs.Prelude.{ℤ, pos, negsuc, nat_lt, if◌then◌else◌}
use Rattle.std.proofs.lemmas.List.{drop_all, drop_more, get_or-take, get_or-drop, length-take-le, length-drop}
use Rattle.memory_words.specs.declared.cell_words.cell.Cell.{Cell}
use Rattle.memory_words.specs.declared.cell_words.cell.Cell.TheVariants.{Empty, Byte, Fragment}
use Rattle.block_memory.specs.Digits.{compared, is_zero}
use Rattle.block_memory.specs.Ranges.{first_difference}
use Rattle.block_memory.specs.Cells.{cell_at, range}
use Rattle.block_memory.specs.Tested.{Tested}

by_two : (r : Tested ℤ) (less more : Bool) (rest : Tested ℤ) → r ≡ (if less then Ok (negsuc 0) else if more then Ok (pos 1) else Ok (pos 0)) → is_zero r ≡ true
    → (if less then Ok (negsuc 0) else if more then Ok (pos 1) else rest) ≡ rest
by_two r true more rest e z = let wrong : false ≡ true = sym (ap is_zero e) ∙ z in cc
by_two r false true rest e z = let wrong : false ≡ true = sym (ap is_zero e) ∙ z in cc
by_two r false false rest e z = refl

by_one : (less more : Bool) (rest : Tested ℤ) → is_zero (if less then Ok (negsuc 0) else if more then Ok (pos 1) else Ok (pos 0)) ≡ false
    → (if less then Ok (negsuc 0) else if more then Ok (pos 1) else rest) ≡ (if less then Ok (negsuc 0) else if more then Ok (pos 1) else Ok (pos 0))
by_one true more rest z = refl
by_one false true rest z = refl
by_one false false rest z = let wrong : true ≡ false = z in cc

same_here : (c d : Cell) (all others : List Cell) → is_zero (compared c d) ≡ true → first_difference (c ∷ all) (d ∷ others) ≡ first_difference all others
same_here Empty d all others z = let wrong : false ≡ true = z in cc
same_here (Fragment t p k) d all others z = let wrong : false ≡ true = z in cc
same_here (Byte x) Empty all others z = let wrong : false ≡ true = z in cc
same_here (Byte x) (Fragment t p k) all others z = let wrong : false ≡ true = z in cc
same_here (Byte x) (Byte y) all others z = by_two (compared (Byte x) (Byte y)) (nat_lt x y) (nat_lt y x) (first_difference all others) refl z

other_here : (c d : Cell) (all others : List Cell) → is_zero (compared c d) ≡ false → first_difference (c ∷ all) (d ∷ others) ≡ compared c d
other_here Empty d all others z = refl
other_here (Fragment t p k) d all others z = refl
other_here (Byte x) Empty all others z = refl
other_here (Byte x) (Fragment t p k) all others z = refl
other_here (Byte x) (Byte y) all others z = by_one (nat_lt x y) (nat_lt y x) (first_difference all others) z

pub length_range : (all : List Cell) (at count : ℕ) → at + count ≤ length all → length (range all at count) ≡ count
length_range all at count le = length-take-le count (drop at all) (omega (arith, length-drop at all))

pub range_more : (all : List Cell) (at count i : ℕ) → at + count ≤ length all → i < count
    → drop i (range all at count) ≡ cell_at all (at + i) ∷ drop (i + 1) (range all at count)
range_more all at count i le lt =
    drop_more (range all at count) i Empty (omega (arith, length_range all at count le))
    ∙ ap (λ c. c ∷ drop (i + 1) (range all at count)) (get_or-take count (drop at all) i Empty lt ∙ get_or-drop at all i Empty)

pub compared_more : (all : List Cell) (at other count i : ℕ) (c d : Cell) (r : Tested ℤ) → at + count ≤ length all
    → other + count ≤ length all → i < count
    → first_difference (drop i (range all at count)) (drop i (range all other count)) ≡ first_difference (range all at count) (range all other count)
    → c ≡ cell_at all (at + i) → d ≡ cell_at all (other + i) → r ≡ compared c d → is_zero r ≡ true
    → first_difference (drop (i + 1) (range all at count)) (drop (i + 1) (range all other count)) ≡ first_difference (range all at count) (range all other count)
compared_more all at other count i c d r le le2 lt before ec ed er z =
    let zero_is : is_zero (compared c d) ≡ true = ap is_zero (sym er) ∙ z in
    sym (same_here c d (drop (i + 1) (range all at count)) (drop (i + 1) (range all other count)) zero_is)
    ∙ ap (λ c. first_difference (c ∷ drop (i + 1) (range all at count)) (d ∷ drop (i + 1) (range all other count))) ec
    ∙ ap (λ r. first_difference r (d ∷ drop (i + 1) (range all other count))) (sym (range_more all at count i le lt))
    ∙ ap (λ d. first_difference (drop i (range all at count)) (d ∷ drop (i + 1) (range all other count))) ed
    ∙ ap (λ r. first_difference (drop i (range all at count)) r) (sym (range_more all other count i le2 lt)) ∙ before

pub compared_here : (all : List Cell) (at other count i : ℕ) (c d : Cell) (r : Tested ℤ) → at + count ≤ length all
    → other + count ≤ length all → i < count
    → first_difference (drop i (range all at count)) (drop i (range all other count)) ≡ first_difference (range all at count) (range all other count)
    → c ≡ cell_at all (at + i) → d ≡ cell_at all (other + i) → r ≡ compared c d → is_zero r ≡ false
    → r ≡ first_difference (range all at count) (range all other count)
compared_here all at other count i c d r le le2 lt before ec ed er z =
    let other_is : is_zero (compared c d) ≡ false = ap is_zero (sym er) ∙ z in
    er ∙ sym (other_here c d (drop (i + 1) (range all at count)) (drop (i + 1) (range all other count)) other_is)
    ∙ ap (λ c. first_difference (c ∷ drop (i + 1) (range all at count)) (d ∷ drop (i + 1) (range all other count))) ec
    ∙ ap (λ r. first_difference r (d ∷ drop (i + 1) (range all other count))) (sym (range_more all at count i le lt))
    ∙ ap (λ d. first_difference (drop i (range all at count)) (d ∷ drop (i + 1) (range all other count))) ed
    ∙ ap (λ r. first_difference (drop i (range all at count)) r) (sym (range_more all other count i le2 lt)) ∙ before

pub compared_all : (all : List Cell) (at other count : ℕ) → at + count ≤ length all
    → first_difference (drop count (range all at count)) (drop count (range all other count)) ≡ first_difference (range all at count) (range all other count)
    → Ok (pos 0) ≡ first_difference (range all at count) (range all other count)
compared_all all at other count le before =
    ap (λ r. first_difference r (drop count (range all other count)))
    (sym (drop_all count (range all at count) (omega (arith, length_range all at count le)))) ∙ before
