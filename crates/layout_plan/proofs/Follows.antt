-- One turn of placing fields.
use Rattle.std.proofs.Common.{◌≡◌, ℕ, zero, suc, ◌-◌, ◌<◌, List, [], ◌∷◌, Option, Some, None, ap, refl, arith}
use Rattle.affinity.specs.declared.fields.FieldWeights.{FieldWeights}
use Rattle.layout_plan.specs.Order.{followed, nearest, others}

pub one_more : (w : FieldWeights) (n f : ℕ) (rest : List ℕ) → 0 < n
    → followed w n (Some f) rest ≡ f ∷ followed w (n - 1) (nearest w f (others f rest)) (others f rest)
one_more w zero f rest h = absurd (omega (arith, h))
one_more w (suc n) f rest h = ap (λ m. f ∷ followed w m (nearest w f (others f rest)) (others f rest)) same
  where
    same : n ≡ suc n - 1
    same = omega arith

pub none_left : (w : FieldWeights) (next : Option ℕ) (rest : List ℕ) → followed w 0 next rest ≡ []
none_left w None rest = refl
none_left w (Some f) rest = refl
