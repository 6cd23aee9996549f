-- Pointers that are moved, and how far they lie apart.
use Rattle.std.proofs.Common.{◌≡◌, ℕ, zero, suc, ◌<◌, Err, refl, arith, rules, ℤ, ◌+ℤ◌, ◌-ℤ◌, ◌<ℤ◌, of_z, to_z, w64, ◌^◌}
use Rattle.std.specs.Prelude.{false, pos, negsuc, int_rem}
use Rattle.std.specs.Ordering.{int_eq}
use Rattle.std.proofs.lemmas.Bool.{lt-leb}
use Rattle.std.proofs.lemmas.Int.{ints}
use Rattle.lay_base.specs.declared.faults.UndefinedKind.TheVariants.{Range}
use Rattle.memory_words.specs.declared.cell_words.pointer.Ptr.{Ptr}
use Rattle.memory_words.specs.declared.cell_words.pointer.Ptr.TheVariants as P
use Rattle.block_memory.specs.Blocks.{Memory, size}
use Rattle.block_memory.specs.Pointers.{elements_between, stepped, within}

past : (m : Memory) (b : ℕ) (to : ℤ) → pos (size m b) <ℤ to → Err Range ≡ within m b to
past m b (pos n) lt = let more : size m b < n = omega (arith, ints) in rw (lt-leb n (size m b) more)
past m b (negsuc n) lt = refl

pub too_far : (m : Memory) (p : Ptr) (b at n : ℕ) (by : ℤ) → p ≡ P.Block b at → n ≡ size m b → (pos n -ℤ pos at) <ℤ by → Err Range ≡ stepped m p by
too_far m p b at n by is size_is lt =
    let more : pos (size m b) <ℤ (pos at +ℤ by) = omega (arith, ints) in
    rw is (past m b (pos at +ℤ by) more)

-- ---- tests for zero

not_zero : (z : ℤ) → (of_z w64 z ≡ 0 → ⊥) → int_eq z (pos 0) ≡ false
not_zero (pos zero) some = absurd (some refl)
not_zero (pos (suc n)) some = search rules
not_zero (negsuc n) some = refl

pub moved_null : (m : Memory) (p : Ptr) (by : ℤ) → p ≡ P.Null → (of_z w64 by ≡ 0 → ⊥) → Err Range ≡ stepped m p by
moved_null m p by is moves = rw (is, not_zero by moves) refl

-- a distance as the code has it
abbrev measured : (to from : ℤ) → ℤ
measured to from = to_z w64 (of_z w64 (to_z w64 (of_z w64 to) -ℤ to_z w64 (of_z w64 from)))

pub uneven : (from to size : ℕ) (x y z : ℤ) → x ≡ pos to → y ≡ pos from → z ≡ pos size → to < 2 ^ 32 → from < 2 ^ 32 → size < 2 ^ 32
    → (of_z w64 (int_rem (measured x y) (to_z w64 (of_z w64 z))) ≡ 0 → ⊥) → Err Range ≡ elements_between from to size
uneven from to size x y z ex ey ez small_to small_from small rest =
    let distance : measured x y ≡ pos to -ℤ pos from = omega (arith, ints) in
    let by : to_z w64 (of_z w64 z) ≡ pos size = omega (arith, ints) in
    let some = not_zero (int_rem (measured x y) (to_z w64 (of_z w64 z))) rest in
    rw (← distance, ← by, some) refl
