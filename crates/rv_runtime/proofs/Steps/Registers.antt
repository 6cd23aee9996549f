-- Registers by variable numbers.
use Rattle.std.proofs.Common.{◌≡◌, ℕ, zero, suc, ◌+◌, ◌<◌, ◌≢◌, List, [], ◌∷◌, map, slice_set, slice_index, refl, sym, ap, ◌∙◌, arith, eq-eqb, ne_eqb}
use Rattle.std.proofs.Common.{inl, inr}
use Rattle.std.proofs.lemmas.Bool.{cases_eq}
use Rattle.rv_isa.specs.Step.{with_register}
use Rattle.rv_runtime.specs.Steps.States.{registers_of, put}

pub put_same : (f : ℕ → ℕ) (r v q : ℕ) → q ≡ r → put f r v q ≡ v
put_same f r v q e = rw (eq-eqb q r e) refl

pub put_other : (f : ℕ → ℕ) (r v q : ℕ) → q ≢ r → put f r v q ≡ f q
put_other f r v q ne = rw (ne_eqb q r ne) refl

-- what comes first is lost
again_at : (f : ℕ → ℕ) (r u v q : ℕ) → put (put f r u) r v q ≡ put f r v q
again_at f r u v q = elim (cases_eq q r) [
  | inl e ↦ put_same (put f r u) r v q e ∙ sym (put_same f r v q e)
  | inr ne ↦ put_other (put f r u) r v q ne ∙ put_other f r u q ne ∙ sym (put_other f r v q ne)
]

pub put_again : (f : ℕ → ℕ) (r u v : ℕ) → put (put f r u) r v ≡ put f r v
put_again f r u v = λ i q. again_at f r u v q i

abbrev numbers : (k n : ℕ) → List ℕ
numbers k zero = []
numbers k (suc n) = k ∷ numbers (k + 1) n

both : {A : Type 0} (x y : A) (xs ys : List A) → x ≡ y → xs ≡ ys → x ∷ xs ≡ y ∷ ys
both x y xs ys e d = cc

behind : (f : ℕ → ℕ) (r v k n : ℕ) → r < k → map f (numbers k n) ≡ map (put f r v) (numbers k n)
behind f r v k zero lt = refl
behind f r v k (suc n) lt = both _ _ _ _ (sym (put_other f r v k (λ e. omega arith))) (behind f r v (k + 1) n (omega arith))

set_at : (f : ℕ → ℕ) (k n r v : ℕ) → slice_set (map f (numbers k n)) r v ≡ map (put f (k + r) v) (numbers k n)
set_at f k zero r v = refl
set_at f k (suc n) zero v =
    let e : k ≡ k + 0 = omega arith in
    both _ _ _ _ (sym (put_same f k v k refl)) (behind f k v (k + 1) n (omega arith)) ∙ ap (λ (q : ℕ). map (put f q v) (numbers k (suc n))) e
set_at f k (suc n) (suc r) v =
    let e : k + 1 + r ≡ k + suc r = omega arith in
    both _ _ _ _ (sym (put_other f (k + suc r) v k (λ d. omega arith)))
    (set_at f (k + 1) n r v ∙ ap (λ (q : ℕ). map (put f q v) (numbers (k + 1) n)) e)

index_at : (f : ℕ → ℕ) (k n r : ℕ) → r < n → slice_index (map f (numbers k n)) r ≡ f (k + r)
index_at f k zero r lt = absurd (omega arith)
index_at f k (suc n) zero lt = (let e : k ≡ k + 0 = omega arith in ap f e)
index_at f k (suc n) (suc r) lt = (let e : k + 1 + r ≡ k + suc r = omega arith in index_at f (k + 1) n r (omega arith) ∙ ap f e)

pub register_is : (f : ℕ → ℕ) (r : ℕ) → r < 32 → slice_index (registers_of f) r ≡ f r
register_is f r lt = (let e : 0 + r ≡ r = omega arith in index_at f 0 32 r lt ∙ ap f e)

pub written : (f : ℕ → ℕ) (r v : ℕ) → 0 < r → with_register (registers_of f) r v ≡ registers_of (put f r v)
written f r v low =
    let e : 0 + r ≡ r = omega arith in
    rw (ne_eqb r 0 (λ d. omega arith)) (set_at f 0 32 r v ∙ ap (λ (q : ℕ). registers_of (put f q v)) e)
