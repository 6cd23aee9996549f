-- Answers one after the other.
use Rattle.std.proofs.Common.{◌≡◌, ℕ, zero, suc, ◌+◌, ◌<◌, ◌≤◌, List, [], ◌∷◌, arith, length, get_or, drop, refl, ap, sym, add-one, drop-cons}
use Rattle.std.specs.Prelude.{Ok, Err}
use Rattle.c_erasure.specs.Broken as Broken
use Rattle.c_erasure.specs.Checking.Answers.{Answer, ◌>>=◌, Checked}
use Rattle.c_nodes.specs.declared.fault.Fault.{Fault}
use Rattle.c_nodes.specs.declared.fault.Fault.TheVariants.{TooBig, IllTyped, Undeclared, Redeclared, Memory}
use Rattle.c_nodes.specs.Gives.{Fails}

pub in_turn : {A B C : Type 0} (r : Answer A) (f : A → Answer B) (g : B → Answer C) → (r >>= λ x. f x >>= g) ≡ ((r >>= f) >>= g)
in_turn (Ok x) f g = refl
in_turn (Err e) f g = refl

pub same_then : {A B : Type 0} (r : Answer A) (f g : A → Answer B) → ((x : A) → f x ≡ g x) → (r >>= f) ≡ (r >>= g)
same_then (Ok x) f g h = h x
same_then (Err e) f g h = refl

pub as_found : {A : Type 0} (r : Checked A) → (r >>= λ x. Ok (x.0, x.1)) ≡ r
as_found (Ok x) = refl
as_found (Err e) = refl

-- what is found first decides
pub then_found : {A B : Type 0} (r : Answer A) (x : A) (f : A → Answer B) → r ≡ Ok x → (r >>= f) ≡ f x
then_found r x f h = ap (λ z. z >>= f) h

pub then_fails : {A B : Type 0} (fault : Fault) (r : Answer A) (f : A → Answer B) → Fails fault r → Fails fault (r >>= f)
then_fails (TooBig at) r f h = ap (λ z. z >>= f) h
then_fails (IllTyped rule at) r f h = ap (λ z. z >>= f) h
then_fails (Undeclared x at) r f h = ap (λ z. z >>= f) h
then_fails (Redeclared x at first) r f h = ap (λ z. z >>= f) h
then_fails (Memory want) r f h = tt

-- a fault is one of any answer
pub fails_so : (A B : Type 0) (fault : Fault) (f : Broken.Fault) → Fails fault (let r : Answer A = Err f in r) → Fails fault (let r : Answer B = Err f in r)
fails_so A B (TooBig at) f h = let e : f ≡ Broken.too_big at = cc in ap Err e
fails_so A B (IllTyped rule at) f h = let e : f ≡ Broken.ill_typed rule at = cc in ap Err e
fails_so A B (Undeclared x at) f h = let e : f ≡ Broken.undeclared x at = cc in ap Err e
fails_so A B (Redeclared x at first) f h = let e : f ≡ Broken.redeclared x at first = cc in ap Err e
fails_so A B (Memory want) f h = tt

pub never_fails : (A B : Type 0) (fault : Fault) (x : A) (r : Answer B) → Fails fault (let r : Answer A = Ok x in r) → Fails fault r
never_fails A B (TooBig at) x r h = cc
never_fails A B (IllTyped rule at) x r h = cc
never_fails A B (Undeclared y at) x r h = cc
never_fails A B (Redeclared y at first) x r h = cc
never_fails A B (Memory want) x r h = tt

-- ---- lists of which the first items are passed

pub drop_item : {X : Type 0} (all : List X) (i : ℕ) (x : X) → i < length all → x ≡ get_or all i x → drop i all ≡ x ∷ drop (i + 1) all
drop_item all i x within e = rw (add-one, drop-cons all i x) (ap (λ z. z ∷ drop (suc i) all) (sym e))

drop_none : {X : Type 0} (i : ℕ) → drop i (let none : List X = [] in none) ≡ []
drop_none zero = refl
drop_none (suc i) = refl

pub all_passed : {X : Type 0} (all : List X) (i : ℕ) → length all ≤ i → drop i all ≡ []
all_passed [] i h = drop_none i
all_passed (x ∷ all) zero h = absurd (omega (arith, h))
all_passed (x ∷ all) (suc i) h = all_passed all i (omega (arith, h))
