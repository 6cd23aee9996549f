-- A temporary past the end of a frame.
use Rattle.std.proofs.Common.{◌≡◌, ℕ, zero, suc, ◌<◌, [], ◌∷◌, ◌++◌, length, slice_set, None, refl, ap, arith}
use Rattle.c_meaning.specs.Frames.{Frame}
use Rattle.c_meaning.specs.declared.frame.Slot.{Slot}
use Rattle.c_meaning.specs.declared.frame.Slot.TheVariants.{ByName}
use Rattle.tac_ir.specs.Running.{with_temp}

pub within : (f : Frame) (t : ℕ) (s : Slot) → t < length f → with_temp t s f ≡ slice_set f t s
within [] t s h = absurd (let z : ⊥ = omega arith in z)
within (o ∷ f) zero s h = refl
within (o ∷ f) (suc t) s h = ap (λ (g : Frame). o ∷ g) (within f t s (let i : t < length f = omega arith in i))

pub at_end : (f : Frame) (t : ℕ) (s : Slot) → t ≡ length f → with_temp t s f ≡ f ++ s ∷ []
at_end [] zero s h = refl
at_end [] (suc t) s h = absurd (let z : ⊥ = omega arith in z)
at_end (o ∷ f) zero s h = absurd (let z : ⊥ = omega arith in z)
at_end (o ∷ f) (suc t) s h = ap (λ (g : Frame). o ∷ g) (at_end f t s (let i : t ≡ length f = omega arith in i))

pub one_more : (f : Frame) (t : ℕ) (s : Slot) → length f < t → with_temp t s (f ++ ByName None ∷ []) ≡ with_temp t s f
one_more [] zero s h = absurd (let z : ⊥ = omega arith in z)
one_more [] (suc t) s h = refl
one_more (o ∷ f) zero s h = absurd (let z : ⊥ = omega arith in z)
one_more (o ∷ f) (suc t) s h = ap (λ (g : Frame). o ∷ g) (one_more f t s (let i : length f < t = omega arith in i))
