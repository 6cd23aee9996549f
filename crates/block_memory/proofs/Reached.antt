-- Accesses, by what is known of their place.
use Rattle.std.proofs.Common.{◌≡◌, ℕ, ◌+◌, ◌/◌, ◌≤◌, arith, length, List, Bool, true, false, Ok, Err, refl, sym, ap, ◌∙◌, option_map, replicate, zero, suc}
use Rattle.std.proofs.Common.{subst, Result}
use Rattle.std.specs.Prelude.{◌&&◌, ◌||◌, not, ℤ}
use Rattle.std.proofs.lemmas.List.{length-replicate}
use Rattle.lay_base.specs.declared.faults.UndefinedKind.TheVariants as K
use Rattle.memory_words.specs.declared.cell_words.cell.Cell.TheVariants.{Byte}
use Rattle.lay_base.specs.declared.faults.UndefinedKind.{UndefinedKind}
use Rattle.c_types.specs.declared.ty.IntKind.{IntKind}
use Rattle.c_types.specs.IntKinds.{width}
use Rattle.memory_words.specs.declared.cell_words.cell.Cell.{Cell}
use Rattle.block_memory.specs.declared.place.Place.{Place}
use Rattle.memory_words.specs.declared.cell_words.pointer.Ptr.{Ptr}
use Rattle.block_memory.specs.declared.slot.Slot.{Slot}
use Rattle.block_memory.specs.Accesses.{load_number, load_pointer, must, place, store_number, store_pointer}
use Rattle.block_memory.specs.Blocks.{Memory, cells, with_cells}
use Rattle.block_memory.specs.Digits.{number_at, pointer_at}
use Rattle.block_memory.specs.Held.{bytes_of, fragments_of, held, number_in, pointer_in, word_of}
use Rattle.block_memory.specs.Places.{CopyGives, IsPlaceOf, PlaceGives, copied}
use Rattle.block_memory.specs.Ranges.{compare, copy, do_overlap, fill, first_difference}
use Rattle.block_memory.specs.Cells.{over, range}
use Rattle.block_memory.specs.Slots.{IsSound, memory_in}
use Rattle.block_memory.specs.Stores.{Does, IsPlace}
use Rattle.block_memory.specs.Tested.{Tested, ◌>>=◌}
use Rattle.block_memory.proofs.Differences.{length_range}
use Rattle.block_memory.proofs.Views.{cells_found, changed_found}

then_ok : {A B : Type 0} (r : Tested A) (x : A) (f : A → Tested B) → r ≡ Ok x → (r >>= f) ≡ f x
then_ok r x f e = ap (λ r. r >>= f) e

then_err : {A B : Type 0} (r : Tested A) (fault : UndefinedKind) (f : A → Tested B) → r ≡ Err fault → (r >>= f) ≡ Err fault
then_err r fault f e = ap (λ r. r >>= f) e

length_bytes : (count v : ℕ) → length (bytes_of count v) ≡ count
length_bytes zero v = refl
length_bytes (suc count) v = ap suc (length_bytes count (v / 256))

pub place_within : (slots : List Slot) (all : List Cell) (free : ℕ) (at : Place) (count : ℕ) → IsSound slots all free → IsPlaceOf slots at count → at.cell + count ≤ length all
place_within slots all free at count sound found =
    let there = sound.there at.block found.lives in let lies = found.lies in let fits = found.fits in omega (arith, there, lies, fits)

pub load_number_ok : (slots : List Slot) (all : List Cell) (free : ℕ) (p : Ptr) (kind : IntKind) (w : ℕ) (at : Place) (r : Tested ℕ) → IsSound slots all free → w ≡ width kind
    → PlaceGives slots all p w w false (Ok at) → r ≡ number_at all at.cell kind → r ≡ load_number (memory_in slots all) p kind
load_number_ok slots all free p kind w at r sound we found er =
    let m = memory_in slots all in
    let here : place m p (width kind) (width kind) false ≡ Ok (at.block, at.at) = ap (λ w. place m p w w false) (sym we) ∙ found.0 in
    let place_is : IsPlace slots at.block at.cell at.at (width kind) = record { lives = found.1.lives; lies = found.1.lies; fits = let fits = found.1.fits in omega (arith, fits, we); small = found.1.small } in
    let same = cells_found slots all free at.block at.cell at.at (width kind) sound place_is in
    er ∙ ap (λ all. held all (option_map (word_of kind) (number_in all))) (sym same)
    ∙ sym (then_ok (place m p (width kind) (width kind) false) (at.block, at.at)
    (λ x. held (cells m x.0 x.1 (width kind)) (option_map (word_of kind) (number_in (cells m x.0 x.1 (width kind))))) here)

pub load_number_err : (slots : List Slot) (all : List Cell) (p : Ptr) (kind : IntKind) (w : ℕ) (fault : UndefinedKind) → w ≡ width kind
    → PlaceGives slots all p w w false (Err fault) → Err fault ≡ load_number (memory_in slots all) p kind
load_number_err slots all p kind w fault we found =
    let m = memory_in slots all in
    sym (then_err (place m p (width kind) (width kind) false) fault
    (λ x. held (cells m x.0 x.1 (width kind)) (option_map (word_of kind) (number_in (cells m x.0 x.1 (width kind))))) (ap (λ w. place m p w w false) (sym we) ∙ found))

pub load_pointer_ok : (slots : List Slot) (all : List Cell) (free : ℕ) (p : Ptr) (type : ℕ) (at : Place) (r : Tested Ptr)
    → IsSound slots all free → PlaceGives slots all p 4 4 false (Ok at) → r ≡ pointer_at all at.cell type → r ≡ load_pointer (memory_in slots all) p type
load_pointer_ok slots all free p type at r sound found er =
    let m = memory_in slots all in
    let same = cells_found slots all free at.block at.cell at.at 4 sound found.1 in
    er ∙ ap (λ all. held all (pointer_in type all)) (sym same)
    ∙ sym (then_ok (place m p 4 4 false) (at.block, at.at) (λ x. held (cells m x.0 x.1 4) (pointer_in type (cells m x.0 x.1 4))) found.0)

pub load_pointer_err : (slots : List Slot) (all : List Cell) (p : Ptr) (type : ℕ) (fault : UndefinedKind)
    → PlaceGives slots all p 4 4 false (Err fault) → Err fault ≡ load_pointer (memory_in slots all) p type
load_pointer_err slots all p type fault found =
    let m = memory_in slots all in
    sym (then_err (place m p 4 4 false) fault (λ x. held (cells m x.0 x.1 4) (pointer_in type (cells m x.0 x.1 4))) found)

-- what a store leaves that found its place
stored : (slots : List Slot) (all new : List Cell) (free : ℕ) (r : Tested (ℕ × ℕ)) (b cell at count : ℕ) (put : List Cell) → IsSound slots all free
    → r ≡ Ok (b, at) → IsPlace slots b cell at count → length put ≤ count → new ≡ over all cell put
    → (r >>= λ x. Ok (with_cells (memory_in slots all) x.0 x.1 put)) ≡ Ok (memory_in slots new)
stored slots all new free r b cell at count put sound is found le en =
    then_ok r (b, at) (λ x. Ok (with_cells (memory_in slots all) x.0 x.1 put)) is
    ∙ ap (λ m. Ok m) (sym (ap (λ cells. memory_in slots cells) en ∙ changed_found slots all free b cell at count put sound found le))

pub store_number_ok : (slots : List Slot) (all new : List Cell) (free : ℕ) (p : Ptr) (kind : IntKind) (w v : ℕ) (at : Place) → IsSound slots all free → w ≡ width kind
    → PlaceGives slots all p w w true (Ok at) → new ≡ over all at.cell (bytes_of (width kind) v)
    → store_number (memory_in slots all) p kind v ≡ Ok (memory_in slots new)
store_number_ok slots all new free p kind w v at sound we found en =
    let m = memory_in slots all in
    let here : place m p (width kind) (width kind) true ≡ Ok (at.block, at.at) = ap (λ w. place m p w w true) (sym we) ∙ found.0 in
    stored slots all new free (place m p (width kind) (width kind) true) at.block at.cell at.at w (bytes_of (width kind) v) sound here found.1 (omega (arith, length_bytes (width kind) v, we)) en

pub store_number_err : (slots : List Slot) (all : List Cell) (p : Ptr) (kind : IntKind) (w v : ℕ) (fault : UndefinedKind) → w ≡ width kind
    → PlaceGives slots all p w w true (Err fault) → store_number (memory_in slots all) p kind v ≡ Err fault
store_number_err slots all p kind w v fault we found =
    let m = memory_in slots all in
    then_err (place m p (width kind) (width kind) true) fault (λ x. Ok (with_cells m x.0 x.1 (bytes_of (width kind) v))) (ap (λ w. place m p w w true) (sym we) ∙ found)

pub store_pointer_ok : (slots : List Slot) (all new : List Cell) (free : ℕ) (p : Ptr) (type : ℕ) (q : Ptr) (at : Place) → IsSound slots all free
    → PlaceGives slots all p 4 4 true (Ok at) → new ≡ over all at.cell (fragments_of type q)
    → store_pointer (memory_in slots all) p type q ≡ Ok (memory_in slots new)
store_pointer_ok slots all new free p type q at sound found en =
    stored slots all new free (place (memory_in slots all) p 4 4 true) at.block at.cell at.at 4 (fragments_of type q) sound found.0 found.1 (omega arith) en

pub store_pointer_err : (slots : List Slot) (all : List Cell) (p : Ptr) (type : ℕ) (q : Ptr) (fault : UndefinedKind)
    → PlaceGives slots all p 4 4 true (Err fault) → store_pointer (memory_in slots all) p type q ≡ Err fault
store_pointer_err slots all p type q fault found =
    let m = memory_in slots all in
    then_err (place m p 4 4 true) fault (λ x. Ok (with_cells m x.0 x.1 (fragments_of type q))) found

-- ---- ranges

pub fill_ok : (slots : List Slot) (all new : List Cell) (free : ℕ) (p : Ptr) (byte count : ℕ) (at : Place) → IsSound slots all free → (count ≡ 0 → ⊥)
    → PlaceGives slots all p count 1 true (Ok at) → new ≡ over all at.cell (replicate count (Byte byte))
    → fill (memory_in slots all) p byte count ≡ Ok (memory_in slots new)
fill_ok slots all new free p byte zero at sound some found en = absurd (some refl)
fill_ok slots all new free p byte (suc n) at sound some found en =
    stored slots all new free (place (memory_in slots all) p (suc n) 1 true) at.block at.cell at.at (suc n) (replicate (suc n) (Byte byte)) sound found.0 found.1 (omega (arith, length-replicate (suc n) (Byte byte))) en

pub fill_err : (slots : List Slot) (all : List Cell) (p : Ptr) (byte count : ℕ) (fault : UndefinedKind) → (count ≡ 0 → ⊥)
    → PlaceGives slots all p count 1 true (Err fault) → fill (memory_in slots all) p byte count ≡ Err fault
fill_err slots all p byte zero fault some found = absurd (some refl)
fill_err slots all p byte (suc n) fault some found =
    let m = memory_in slots all in
    then_err (place m p (suc n) 1 true) fault (λ x. Ok (with_cells m x.0 x.1 (replicate (suc n) (Byte byte)))) found

-- a comparison after its first place
abbrev second : Memory → Ptr → (n : ℕ) → (ℕ × ℕ) → Tested ℤ
second m q n a = do
  b ← place m q (suc n) 1 false
  first_difference (cells m a.0 a.1 (suc n)) (cells m b.0 b.1 (suc n))

pub compare_ok : (slots : List Slot) (all : List Cell) (free : ℕ) (p q : Ptr) (count : ℕ) (a b : Place) (r : Tested ℤ) → IsSound slots all free → (count ≡ 0 → ⊥)
    → PlaceGives slots all p count 1 false (Ok a) → PlaceGives slots all q count 1 false (Ok b)
    → r ≡ first_difference (range all a.cell count) (range all b.cell count) → r ≡ compare (memory_in slots all) p q count
compare_ok slots all free p q zero a b r sound some fa fb er = absurd (some refl)
compare_ok slots all free p q (suc n) a b r sound some fa fb er =
    let m = memory_in slots all in
    er ∙ ap (λ r. first_difference r (range all b.cell (suc n))) (sym (cells_found slots all free a.block a.cell a.at (suc n) sound fa.1))
    ∙ ap (λ r. first_difference (cells m a.block a.at (suc n)) r) (sym (cells_found slots all free b.block b.cell b.at (suc n) sound fb.1))
    ∙ sym (then_ok (place m p (suc n) 1 false) (a.block, a.at) (second m q n) fa.0
    ∙ then_ok (place m q (suc n) 1 false) (b.block, b.at) (λ x. first_difference (cells m a.block a.at (suc n)) (cells m x.0 x.1 (suc n))) fb.0)

pub compare_second_err : (slots : List Slot) (all : List Cell) (p q : Ptr) (count : ℕ) (a : Place) (fault : UndefinedKind) → (count ≡ 0 → ⊥)
    → PlaceGives slots all p count 1 false (Ok a) → PlaceGives slots all q count 1 false (Err fault) → Err fault ≡ compare (memory_in slots all) p q count
compare_second_err slots all p q zero a fault some fa fb = absurd (some refl)
compare_second_err slots all p q (suc n) a fault some fa fb =
    let m = memory_in slots all in
    sym (then_ok (place m p (suc n) 1 false) (a.block, a.at) (second m q n) fa.0
    ∙ then_err (place m q (suc n) 1 false) fault (λ x. first_difference (cells m a.block a.at (suc n)) (cells m x.0 x.1 (suc n))) fb)

pub compare_first_err : (slots : List Slot) (all : List Cell) (p q : Ptr) (count : ℕ) (fault : UndefinedKind) → (count ≡ 0 → ⊥)
    → PlaceGives slots all p count 1 false (Err fault) → Err fault ≡ compare (memory_in slots all) p q count
compare_first_err slots all p q zero fault some fa = absurd (some refl)
compare_first_err slots all p q (suc n) fault some fa =
    let m = memory_in slots all in sym (then_err (place m p (suc n) 1 false) fault (second m q n) fa)

-- ---- copies

may : (overlap shared : Bool) → (not overlap && shared) ≡ false → (overlap || not shared) ≡ true
may true shared e = refl
may false true e = let wrong : true ≡ false = e in cc
may false false e = refl

may_not : (overlap shared : Bool) → (not overlap && shared) ≡ true → (overlap || not shared) ≡ false
may_not true shared e = let wrong : false ≡ true = e in cc
may_not false true e = refl
may_not false false e = let wrong : false ≡ true = e in cc

pub apart_if : (a b : Bool) → b ≡ false → (a && b) ≡ false
apart_if true b e = e
apart_if false b e = refl

pub apart_else : (a b : Bool) → a ≡ false → (a && b) ≡ false
apart_else true b e = let wrong : true ≡ false = e in cc
apart_else false b e = refl

pub copied_apart : (slots : List Slot) (all new : List Cell) (free : ℕ) (a b : Place) (count : ℕ) (overlap : Bool) → IsSound slots all free
    → IsPlaceOf slots a count → IsPlaceOf slots b count → (not overlap && do_overlap (a.block, a.at) (b.block, b.at) count) ≡ false
    → new ≡ over all a.cell (range all b.cell count)
    → copied (memory_in slots all) a b count overlap ≡ Ok (memory_in slots new)
copied_apart slots all new free a b count overlap sound fa fb allowed en =
    let m = memory_in slots all in
    ap (λ t. must t K.Overlap >>= λ c. Ok (with_cells m a.block a.at (cells m b.block b.at count))) (may overlap (do_overlap (a.block, a.at) (b.block, b.at) count) allowed)
    ∙ ap (λ r. Ok (with_cells m a.block a.at r)) (cells_found slots all free b.block b.cell b.at count sound fb)
    ∙ ap (λ m. Ok m) (sym (ap (λ cells. memory_in slots cells) en ∙ changed_found slots all free a.block a.cell a.at count (range all b.cell count) sound fa
    (omega (arith, length_range all b.cell count (place_within slots all free b count sound fb)))))

pub copied_over : (slots : List Slot) (all : List Cell) (a b : Place) (count : ℕ) (overlap : Bool)
    → (not overlap && do_overlap (a.block, a.at) (b.block, b.at) count) ≡ true → copied (memory_in slots all) a b count overlap ≡ Err K.Overlap
copied_over slots all a b count overlap shared =
    let m = memory_in slots all in
    ap (λ t. must t K.Overlap >>= λ c. Ok (with_cells m a.block a.at (cells m b.block b.at count))) (may_not overlap (do_overlap (a.block, a.at) (b.block, b.at) count) shared)

-- a copy after its first place
abbrev copied_from : Memory → Ptr → (n : ℕ) → (overlap : Bool) → (ℕ × ℕ) → Tested Memory
copied_from m from n overlap a = do
  b ← place m from (suc n) 1 false
  c ← must (overlap || not (do_overlap a b (suc n))) K.Overlap
  Ok (with_cells m a.0 a.1 (cells m b.0 b.1 (suc n)))

copy_is : (slots : List Slot) (all : List Cell) (to from : Ptr) (n : ℕ) (overlap : Bool) (a b : Place)
    → PlaceGives slots all to (suc n) 1 true (Ok a) → PlaceGives slots all from (suc n) 1 false (Ok b)
    → copy (memory_in slots all) to from (suc n) overlap ≡ copied (memory_in slots all) a b (suc n) overlap
copy_is slots all to from n overlap a b fa fb =
    let m = memory_in slots all in
    then_ok (place m to (suc n) 1 true) (a.block, a.at) (copied_from m from n overlap) fa.0
    ∙ then_ok (place m from (suc n) 1 false) (b.block, b.at)
    (λ b. must (overlap || not (do_overlap (a.block, a.at) b (suc n))) K.Overlap >>= λ c. Ok (with_cells m a.block a.at (cells m b.0 b.1 (suc n)))) fb.0

pub copy_ok : (slots other : List Slot) (all new : List Cell) (to from : Ptr) (count : ℕ) (overlap : Bool) (a b : Place) (r : Result (Unit {0}) UndefinedKind) → (count ≡ 0 → ⊥)
    → PlaceGives slots all to count 1 true (Ok a) → PlaceGives slots all from count 1 false (Ok b) → CopyGives slots all a b count overlap r other new
    → Does r (memory_in slots all) (memory_in other new) (copy (memory_in slots all) to from count overlap)
copy_ok slots other all new to from zero overlap a b r some fa fb gives = absurd (some refl)
copy_ok slots other all new to from (suc n) overlap a b r some fa fb gives =
    let P : Tested Memory → Type 0 = λ defined. Does r (memory_in slots all) (memory_in other new) defined in
    subst P (sym (copy_is slots all to from n overlap a b fa fb)) gives

pub copy_from_err : (slots : List Slot) (all : List Cell) (to from : Ptr) (count : ℕ) (overlap : Bool) (a : Place) (fault : UndefinedKind) → (count ≡ 0 → ⊥)
    → PlaceGives slots all to count 1 true (Ok a) → PlaceGives slots all from count 1 false (Err fault)
    → copy (memory_in slots all) to from count overlap ≡ Err fault
copy_from_err slots all to from zero overlap a fault some fa fb = absurd (some refl)
copy_from_err slots all to from (suc n) overlap a fault some fa fb =
    let m = memory_in slots all in
    then_ok (place m to (suc n) 1 true) (a.block, a.at) (copied_from m from n overlap) fa.0
    ∙ then_err (place m from (suc n) 1 false) fault
    (λ b. must (overlap || not (do_overlap (a.block, a.at) b (suc n))) K.Overlap >>= λ c. Ok (with_cells m a.block a.at (cells m b.0 b.1 (suc n)))) fb

pub copy_to_err : (slots : List Slot) (all : List Cell) (to from : Ptr) (count : ℕ) (overlap : Bool) (fault : UndefinedKind) → (count ≡ 0 → ⊥)
    → PlaceGives slots all to count 1 true (Err fault) → copy (memory_in slots all) to from count overlap ≡ Err fault
copy_to_err slots all to from zero overlap fault some fa = absurd (some refl)
copy_to_err slots all to from (suc n) overlap fault some fa =
    let m = memory_in slots all in then_err (place m to (suc n) 1 true) fault (copied_from m from n overlap) fa
