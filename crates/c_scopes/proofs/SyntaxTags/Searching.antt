-- A search among ascending places.
use Rattle.std.proofs.Common.{◌≡◌, ℕ, zero, suc, ◌+◌, ◌<◌, ◌≤◌, List, [], ◌∷◌, length, get_or, refl, sym, arith, true, false, nat_lt}
use Rattle.std.proofs.lemmas.Bool.{lt-ltb, le-ltb}
use Rattle.c_erasure.specs.Files.{AreAscending}
use Rattle.c_erasure.specs.Scopes.{ended}

pub record Between (places : List ℕ) (at low high : ℕ) : Type 0 where
  pub in_order : low ≤ high
  pub within : high ≤ length places
  pub below : (k : ℕ) → k < low → get_or places k 0 < at
  pub above : (k : ℕ) → high ≤ k → k < length places → at ≤ get_or places k 0

pub ascends : (places : List ℕ) → AreAscending places → (i j : ℕ) → i ≤ j → j < length places → get_or places i 0 ≤ get_or places j 0
ascends [] a i j l h = omega arith
ascends (x ∷ places) a zero zero l h = omega arith
ascends (x ∷ places) a zero (suc j) l h = let lt : x < get_or places j 0 = a.0 j 0 (omega arith) in omega arith
ascends (x ∷ places) a (suc i) zero l h = absurd (omega arith)
ascends (x ∷ places) a (suc i) (suc j) l h = ascends places a.1 i j (omega arith) (omega arith)

none_ended : (places : List ℕ) (at : ℕ) → ((k : ℕ) → k < length places → at ≤ get_or places k 0) → ended places at ≡ 0
none_ended [] at h = refl
none_ended (x ∷ places) at h =
    let f : nat_lt x at ≡ false = le-ltb x at (h 0 (omega arith)) in
    let rest : ended places at ≡ 0 = none_ended places at (λ k l. h (suc k) (omega arith)) in
    rw f (omega (arith, rest))

all_ended : (places : List ℕ) (at n : ℕ) → n ≤ length places → ((k : ℕ) → k < n → get_or places k 0 < at)
    → ((k : ℕ) → n ≤ k → k < length places → at ≤ get_or places k 0) → ended places at ≡ n
all_ended places at zero l below above = none_ended places at (λ k h. above k (omega arith) h)
all_ended [] at (suc n) l below above = absurd (omega arith)
all_ended (x ∷ places) at (suc n) l below above =
    let f : nat_lt x at ≡ true = lt-ltb x at (below 0 (omega arith)) in
    let rest : ended places at ≡ n =
    all_ended places at n (omega arith) (λ k h. below (suc k) (omega arith)) (λ k h g. above (suc k) (omega arith) (omega arith)) in
    rw f (omega (arith, rest))

pub counted : (places : List ℕ) (at low high : ℕ) → Between places at low high → high ≤ low → low ≡ ended places at
counted places at low high b h =
    sym (all_ended places at low (omega (arith, b.in_order, b.within)) b.below (λ k l g. b.above k (omega (arith, b.in_order, h, l)) g))

pub lower : (places : List ℕ) → AreAscending places → (at low high middle : ℕ) → Between places at low high → low ≤ middle → middle < high
    → get_or places middle 0 < at → Between places at (middle + 1) high
lower places a at low high middle b l h lt = record {
  in_order = omega arith;
  within = b.within;
  below = λ k g.
      let le : get_or places k 0 ≤ get_or places middle 0 = ascends places a k middle (omega arith) (omega (arith, b.within)) in
      omega arith;
  above = b.above;
}

pub upper : (places : List ℕ) → AreAscending places → (at low high middle : ℕ) → Between places at low high → low ≤ middle → middle < high
    → at ≤ get_or places middle 0 → Between places at low middle
upper places a at low high middle b l h le = record {
  in_order = l;
  within = omega (arith, b.within);
  below = b.below;
  above = λ k g n.
      let more : get_or places middle 0 ≤ get_or places k 0 = ascends places a middle k g n in
      omega arith;
}
