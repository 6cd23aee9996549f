-- Ranges of addresses that are mapped.
use Rattle.std.proofs.Common.{◌≡◌, ℕ, zero, suc, ◌+◌, ◌-◌, ◌<◌, ◌≤◌, true, List, refl, ap, ◌∙◌, arith}
use Rattle.std.proofs.lemmas.Bool.{and_from, and_parts}
use Rattle.rv_isa.specs.declared.image.Segment.{Segment}
use Rattle.rv_isa.specs.Memory.{is_mapped, are_mapped}

-- each address of a range is mapped
pub mapped_at : (segments : List Segment) (flag a n i : ℕ) → are_mapped segments flag a n ≡ true → i < n → is_mapped segments flag (a + i) ≡ true
unfolding are_mapped
mapped_at segments flag a zero i h lt = absurd (omega arith)
mapped_at segments flag a (suc n) zero h lt = (let e : a + 0 ≡ a = omega arith in ap (is_mapped segments flag) e ∙ (and_parts _ _ h).0)
mapped_at segments flag a (suc n) (suc i) h lt =
    let e : a + suc i ≡ a + 1 + i = omega arith in
    ap (is_mapped segments flag) e ∙ mapped_at segments flag (a + 1) n i (and_parts _ _ h).1 (omega arith)

-- a range is mapped where each of its addresses is
pub mapped_each : (segments : List Segment) (flag a n : ℕ) → ((i : ℕ) → i < n → is_mapped segments flag (a + i) ≡ true) → are_mapped segments flag a n ≡ true
unfolding are_mapped
mapped_each segments flag a zero each = refl
mapped_each segments flag a (suc n) each =
    let e : a ≡ a + 0 = omega arith in
    and_from _ _ (ap (is_mapped segments flag) e ∙ each 0 (omega arith)) (mapped_each segments flag (a + 1) n (λ i lt.
    let d : a + 1 + i ≡ a + suc i = omega arith in ap (is_mapped segments flag) d ∙ each (suc i) (omega arith)))

-- a part of a range
pub mapped_part : (segments : List Segment) (flag a n b m : ℕ) → are_mapped segments flag a n ≡ true → a ≤ b → b + m ≤ a + n → are_mapped segments flag b m ≡ true
mapped_part segments flag a n b m h low high =
    mapped_each segments flag b m
    (λ i lt. let e : b + i ≡ a + (b + i - a) = omega arith in ap (is_mapped segments flag) e ∙ mapped_at segments flag a n (b + i - a) h (omega arith))
