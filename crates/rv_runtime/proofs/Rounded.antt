-- What a request takes.
use Rattle.std.proofs.Common.{◌≡◌, ℕ, zero, suc, ◌+◌, ◌*◌, ◌%◌, ◌^◌, ◌<◌, ◌≤◌, ltb, max, refl, ap, ◌∙◌, arith, ltb-true, ltb-false}
use Rattle.std.proofs.lemmas.Bool.{cond_both}
use Rattle.rv_runtime.specs.Routines.{rounded, taken, head}

pub powers : (q k : ℕ) → q * 2 ^ suc k ≡ (q + q) * 2 ^ k
powers q k = (let e : 2 ^ suc k ≡ 2 * 2 ^ k = omega arith in ap (λ (z : ℕ). q * z) e ∙ omega arith)

-- what is rounded up is no less, where the doubling came to its end
pub rounded_covers : (k q n : ℕ) → n ≤ q * 2 ^ k → n ≤ rounded k q n
unfolding rounded
rounded_covers zero q n h = omega arith
rounded_covers (suc k) q n h =
    cond_both (ltb q n) _ _ (λ (z : ℕ). n ≤ z) (λ e. rounded_covers k (q + q) n (omega (arith, powers q k))) (λ e. omega (arith, ltb-false _ _ e))

-- below the last doubling it came to its end
pub rounded_stopped : (k q n : ℕ) → rounded k q n < q * 2 ^ k → n ≤ rounded k q n
unfolding rounded
rounded_stopped zero q n h = absurd (omega arith)
rounded_stopped (suc k) q n h =
    cond_both (ltb q n) (rounded k (q + q) n) q (λ (z : ℕ). z < q * 2 ^ suc k → n ≤ z) (λ e lt. rounded_stopped k (q + q) n (omega (arith, powers q k)))
    (λ e lt. omega (arith, ltb-false _ _ e)) h

pub rounded_whole : (k q n : ℕ) → q % 16 ≡ 0 → rounded k q n % 16 ≡ 0
unfolding rounded
rounded_whole zero q n h = h
rounded_whole (suc k) q n h = cond_both (ltb q n) _ _ (λ (z : ℕ). z % 16 ≡ 0) (λ e. rounded_whole k (q + q) n (omega arith)) (λ e. h)

pub rounded_bounded : (k q n : ℕ) → rounded k q n ≤ max q (2 * n)
unfolding rounded
rounded_bounded zero q n = omega arith
rounded_bounded (suc k) q n =
    cond_both (ltb q n) _ _ (λ (z : ℕ). z ≤ max q (2 * n)) (λ e. omega (arith, rounded_bounded k (q + q) n, ltb-true _ _ e)) (λ e. omega arith)

-- doubling makes nothing less
doubled_covers : (k q : ℕ) → q ≤ q * 2 ^ k
doubled_covers zero q = omega arith
doubled_covers (suc k) q = omega (arith, powers q k, doubled_covers k (q + q))

-- where fewer doublings suffice, it is no more than they give
pub rounded_within : (k q n : ℕ) → n ≤ q * 2 ^ k → rounded (suc k) q n ≤ q * 2 ^ k
unfolding rounded
rounded_within zero q n h = cond_both (ltb q n) _ _ (λ (z : ℕ). z ≤ q * 2 ^ 0) (λ e. absurd (omega (arith, ltb-true _ _ e))) (λ e. omega arith)
rounded_within (suc k) q n h =
    cond_both (ltb q n) (rounded (suc k) (q + q) n) q (λ (z : ℕ). z ≤ q * 2 ^ suc k)
    (λ e. omega (arith, powers q k, rounded_within k (q + q) n (omega (arith, powers q k)))) (λ e. doubled_covers (suc k) q)

pub taken_is : (n : ℕ) → rounded 28 16 n ≡ taken n
unfolding taken
taken_is n = refl

pub taken_bounded : (n : ℕ) → taken n ≤ max 16 (2 * n)
unfolding taken
taken_bounded n = rounded_bounded 28 16 n

-- a request of up to 2 ^ 31 bytes takes no more than that
pub taken_small : (n : ℕ) → n ≤ 2 ^ 31 → taken n ≤ 2 ^ 31
unfolding taken
taken_small n h = rounded_within 27 16 n h

pub taken_covers : (n : ℕ) → n ≤ 2 ^ 32 → n ≤ taken n
unfolding taken
taken_covers n h = rounded_covers 28 16 n h

pub taken_stopped : (n : ℕ) → taken n < 2 ^ 32 → n ≤ taken n
unfolding taken
taken_stopped n h = rounded_stopped 28 16 n h

pub taken_whole : (n : ℕ) → taken n % 16 ≡ 0
unfolding taken
taken_whole n = rounded_whole 28 16 n refl

-- a request with its head is within what a source allocation weighs
pub taken_weighs : (n : ℕ) → taken n + head ≤ 16 * n + 256
taken_weighs n = omega (arith, taken_bounded n)
