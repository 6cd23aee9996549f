-- Moves by elements that are larger than an object lead out of it, unless they are by none.
use Rattle.std.proofs.Common.{◌≡◌, ℕ, zero, suc, ◌+◌, ◌-◌, ◌*◌, ◌^◌, ◌<◌, ◌≤◌, Bool, true, false, cond, min, ℤ, pos, negsuc, ◌+ℤ◌, ◌*ℤ◌, neg_ℤ}
use Rattle.std.proofs.Common.{refl, sym, ap, ◌∙◌, arith, inl, inr, suc-mul, zero-mul}
use Rattle.std.specs.Prelude.{◌⊎◌, Some, None, nat_le}
use Rattle.std.proofs.lemmas.Bool.{leb-true, leb-false, lt-leb, lt-ltb}
use Rattle.c_typed.specs.InitialValues.{end_of, within}
use Rattle.c_typed.specs.Typed.{Declared}

abbrev Great : ℕ → Type 0
Great size = 2 ^ 64 - 1 ≤ size

or_great : (size exact : ℕ) → size ≡ min exact (2 ^ 64 - 1) → (size ≡ exact) ⊎ (Great size × Great exact)
or_great size exact h = by_test (nat_le exact (2 ^ 64 - 1)) refl
  where
    by_test : (b : Bool) → nat_le exact (2 ^ 64 - 1) ≡ b → (size ≡ exact) ⊎ (Great size × Great exact)
    by_test true e = let small : exact ≤ 2 ^ 64 - 1 = leb-true exact (2 ^ 64 - 1) e in inl (omega (arith, h, small))
    by_test false e = let great : 2 ^ 64 - 1 < exact = leb-false exact (2 ^ 64 - 1) e in inr (omega (arith, h, great), omega (arith, great))

-- before the first byte
below : (o y : ℕ) → o < y → (m : ℕ) × (pos o +ℤ neg_ℤ (pos y) ≡ negsuc m)
below o zero h = absurd (omega (arith, h))
below o (suc y) h = (suc y - suc o, ap (λ (b : Bool). cond b (negsuc (suc y - suc o)) (pos (o - suc y))) (lt-ltb o (suc y) h))

module _ (d : Declared) (n o : ℕ) where
  abbrev end : ℕ
  end = end_of d n

  past : (y : ℕ) → end < y → within d n (pos y) ≡ None
  past y h = ap (λ (b : Bool). cond b (Some (record { object = n; offset = y })) None) (lt-leb y end h)

  before : (z : ℤ) → (m : ℕ) × (z ≡ negsuc m) → within d n z ≡ None
  before z m = ap (within d n) m.1

  more : (j size : ℕ) → size ≤ suc j * size
  more j size = omega (arith, suc-mul j size)

  module _ (from : o < 2 ^ 32) where
    beyond : (j size : ℕ) → Great size → within d n (pos o +ℤ pos (suc j) *ℤ pos size) ≡ None
    beyond j size great = past (o + suc j * size) (omega (arith, more j size, great))

    back : (j size : ℕ) → Great size → within d n (pos o +ℤ negsuc j *ℤ pos size) ≡ None
    back j size great = before (pos o +ℤ negsuc j *ℤ pos size) (below o (suc j * size) (omega (arith, more j size, great, from)))

    by_sign : (size exact : ℕ) (k : ℤ) → Great size × Great exact → within d n (pos o +ℤ k *ℤ pos size) ≡ within d n (pos o +ℤ k *ℤ pos exact)
    by_sign size exact (pos zero) g = ap (λ y. within d n (pos o +ℤ pos y)) (zero-mul size ∙ sym (zero-mul exact))
    by_sign size exact (pos (suc j)) g = beyond j size g.0 ∙ sym (beyond j exact g.1)
    by_sign size exact (negsuc j) g = back j size g.0 ∙ sym (back j exact g.1)

    by_size : (size exact : ℕ) (k : ℤ) → (size ≡ exact) ⊎ (Great size × Great exact)
        → within d n (pos o +ℤ k *ℤ pos size) ≡ within d n (pos o +ℤ k *ℤ pos exact)
    by_size size exact k (inl same) = ap (λ s. within d n (pos o +ℤ k *ℤ pos s)) same
    by_size size exact k (inr g) = by_sign size exact k g

    pub alike : (size exact : ℕ) (k : ℤ) → size ≡ min exact (2 ^ 64 - 1)
        → within d n (pos o +ℤ k *ℤ pos size) ≡ within d n (pos o +ℤ k *ℤ pos exact)
    alike size exact k h = by_size size exact k (or_great size exact h)
