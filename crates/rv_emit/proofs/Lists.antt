-- Frames of slots that are changed, and sums of sizes.
use Rattle.std.proofs.Common.{◌≡◌, ◌≢◌, ℕ, zero, suc, ◌+◌, ◌%◌, ◌<◌, ◌≤◌, ◌⊎◌, inl, inr, List, [], ◌∷◌, ◌++◌, length, Some, None, slice_get, slice_set, slice_index}
use Rattle.std.proofs.Common.{refl, ap, arith}
use Rattle.c_meaning.specs.Frames.{Frame}
use Rattle.c_meaning.specs.declared.frame.Slot.{Slot}
use Rattle.c_meaning.specs.declared.frame.Slot.TheVariants.{ByName as by_name}
use Rattle.tac_ir.specs.Running.{with_temp}
use Rattle.rv_code.specs.Frames.{places_from, end_from, whole_words}

-- ---- a slot that is written

pub temp_same : (t : ℕ) (s : Slot) (f : Frame) → slice_get (with_temp t s f) t ≡ Some s
temp_same zero s [] = refl
temp_same zero s (o ∷ f) = refl
temp_same (suc t) s [] = temp_same t s []
temp_same (suc t) s (o ∷ f) = temp_same t s f

pub temp_other : (t : ℕ) (s : Slot) (f : Frame) (u : ℕ) (z : Slot) → u ≢ t → slice_get f u ≡ Some z → slice_get (with_temp t s f) u ≡ Some z
temp_other t s [] u z ne e = absurd cc
temp_other zero s (o ∷ f) zero z ne e = absurd (ne refl)
temp_other zero s (o ∷ f) (suc u) z ne e = e
temp_other (suc t) s (o ∷ f) zero z ne e = e
temp_other (suc t) s (o ∷ f) (suc u) z ne e = temp_other t s f u z (λ d. ne (ap suc d)) e

-- another slot is as it was, or one that is made and has no value
pub temp_cases : (t : ℕ) (s : Slot) (f : Frame) (u : ℕ) (z : Slot) → u ≢ t → slice_get (with_temp t s f) u ≡ Some z
    → (slice_get f u ≡ Some z) ⊎ ((length f ≤ u) × (by_name None ≡ z))
temp_cases zero s [] zero z ne e = absurd (ne refl)
temp_cases zero s [] (suc u) z ne e = absurd cc
temp_cases zero s (o ∷ f) zero z ne e = absurd (ne refl)
temp_cases zero s (o ∷ f) (suc u) z ne e = inl e
temp_cases (suc t) s [] zero z ne e = inr (omega arith, cc)
temp_cases (suc t) s [] (suc u) z ne e = elim (temp_cases t s [] u z (λ d. ne (ap suc d)) e) [
  | inl h ↦ absurd cc
  | inr h ↦ inr (omega arith, h.1)
]
temp_cases (suc t) s (o ∷ f) zero z ne e = inl e
temp_cases (suc t) s (o ∷ f) (suc u) z ne e = elim (temp_cases t s f u z (λ d. ne (ap suc d)) e) [
  | inl h ↦ inl h
  | inr h ↦ inr (omega (arith, h.0), h.1)
]

pub temp_long : (t : ℕ) (s : Slot) (f : Frame) (n : ℕ) → t < n → length f ≤ n → length (with_temp t s f) ≤ n
temp_long zero s [] n lt le = omega arith
temp_long zero s (o ∷ f) n lt le = le
temp_long (suc t) s [] (suc n) lt le = (let h = temp_long t s [] n (omega arith) (omega arith) in omega (arith, h))
temp_long (suc t) s (o ∷ f) (suc n) lt le = (let h = temp_long t s f n (omega arith) (omega arith) in omega (arith, h))
temp_long (suc t) s f zero lt le = absurd (omega arith)

pub temp_longer : (t : ℕ) (s : Slot) (f : Frame) → length f ≤ length (with_temp t s f)
temp_longer zero s [] = omega arith
temp_longer zero s (o ∷ f) = omega arith
temp_longer (suc t) s [] = omega arith
temp_longer (suc t) s (o ∷ f) = (let h = temp_longer t s f in omega (arith, h))

-- ---- elements of lists that are changed or grow

pub set_same : {A : Type 0} (all : List A) (i : ℕ) (x y : A) → slice_get all i ≡ Some y → slice_get (slice_set all i x) i ≡ Some x
set_same [] i x y e = absurd cc
set_same (z ∷ all) zero x y e = refl
set_same (z ∷ all) (suc i) x y e = set_same all i x y e

pub set_other : {A : Type 0} (all : List A) (i j : ℕ) (x : A) → j ≢ i → slice_get (slice_set all i x) j ≡ slice_get all j
set_other [] i j x ne = refl
set_other (z ∷ all) zero zero x ne = absurd (ne refl)
set_other (z ∷ all) zero (suc j) x ne = refl
set_other (z ∷ all) (suc i) zero x ne = refl
set_other (z ∷ all) (suc i) (suc j) x ne = set_other all i j x (λ e. ne (ap suc e))

pub get_below : {A : Type 0} (all : List A) (i : ℕ) (x : A) → slice_get all i ≡ Some x → i < length all
get_below [] i x e = absurd cc
get_below (z ∷ all) zero x e = omega arith
get_below (z ∷ all) (suc i) x e = (let h = get_below all i x e in omega (arith, h))

pub get_past : {A : Type 0} (all : List A) (i : ℕ) → length all ≤ i → slice_get all i ≡ None
get_past [] i le = refl
get_past (z ∷ all) zero le = absurd (omega arith)
get_past (z ∷ all) (suc i) le = get_past all i (omega arith)

-- what is there stays where a list grows
pub get_front : {A : Type 0} (all more : List A) (i : ℕ) (x : A) → slice_get all i ≡ Some x → slice_get (all ++ more) i ≡ Some x
get_front [] more i x e = absurd cc
get_front (z ∷ all) more zero x e = e
get_front (z ∷ all) more (suc i) x e = get_front all more i x e

-- the new last one
pub get_last : {A : Type 0} (all : List A) (i : ℕ) (x : A) → i ≡ length all → slice_get (all ++ x ∷ []) i ≡ Some x
get_last [] zero x e = refl
get_last [] (suc i) x e = absurd (omega arith)
get_last (z ∷ all) zero x e = absurd (omega arith)
get_last (z ∷ all) (suc i) x e = get_last all i x (omega arith)

-- an element of the longer list is an old one, or the last
pub get_cases : {A : Type 0} (all : List A) (i : ℕ) (x y : A) → slice_get (all ++ x ∷ []) i ≡ Some y
    → (slice_get all i ≡ Some y) ⊎ ((i ≡ length all) × (y ≡ x))
get_cases [] zero x y e = inr (refl, cc)
get_cases [] (suc i) x y e = absurd cc
get_cases (z ∷ all) zero x y e = inl e
get_cases (z ∷ all) (suc i) x y e = elim (get_cases all i x y e) [
  | inl h ↦ inl h
  | inr h ↦ inr (ap suc h.0, h.1)
]

-- ---- blocks one behind the other

pub end_above : (at : ℕ) (sizes : List ℕ) → at ≤ end_from at sizes
end_above at [] = omega arith
end_above at (size ∷ more) = (let h = end_above (at + whole_words size) more in omega (arith, h))

-- each lies between the first and the end, at a multiple of 4
pub place_within : (at : ℕ) (sizes : List ℕ) (x : ℕ) → x < length sizes → at % 4 ≡ 0
    → (at ≤ slice_index (places_from at sizes) x) × (slice_index (places_from at sizes) x + slice_index sizes x ≤ end_from at sizes)
    × (slice_index (places_from at sizes) x % 4 ≡ 0)
place_within at [] x lt e = absurd (omega arith)
place_within at (size ∷ more) zero lt e = (let h = end_above (at + whole_words size) more in (omega arith, omega (arith, h), e))
place_within at (size ∷ more) (suc x) lt e =
    let h = place_within (at + whole_words size) more x (omega arith) (omega arith) in (omega (arith, h.0), h.1, h.2)

-- and two of them have no byte in common
pub places_apart : (at : ℕ) (sizes : List ℕ) (x y : ℕ) → x < length sizes → y < length sizes → x < y → at % 4 ≡ 0
    → slice_index (places_from at sizes) x + slice_index sizes x ≤ slice_index (places_from at sizes) y
places_apart at [] x y lx ly lt e = absurd (omega arith)
places_apart at (size ∷ more) zero zero lx ly lt e = absurd (omega arith)
places_apart at (size ∷ more) zero (suc y) lx ly lt e =
    (let h = place_within (at + whole_words size) more y (omega arith) (omega arith) in omega (arith, h.0))
places_apart at (size ∷ more) (suc x) zero lx ly lt e = absurd (omega arith)
places_apart at (size ∷ more) (suc x) (suc y) lx ly lt e = places_apart (at + whole_words size) more x y (omega arith) (omega arith) (omega arith) (omega arith)
