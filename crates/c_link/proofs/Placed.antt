-- One more thing, by its number.
use Rattle.std.proofs.Common.{◌≡◌, ℕ, zero, suc, ◌≤◌, ◌<◌, Bool, true, false, List, [], ◌∷◌, ◌++◌, Option, Some, None, length, map, set, refl, sym, ap, ◌∙◌}
use Rattle.std.proofs.Common.{arith}
use Rattle.std.specs.Prelude.{slice_get, Result, Ok, Err, OnOk}
use Rattle.std.specs.Option.{option_map}
use Rattle.std.proofs.lemmas.Option.{slice_get-map}
use Rattle.c_link.specs.Placing.{place, put, replaces, replaces_one}

module _ {A : Type 0} where
  pub past : (b : Bool) (xs : List A) (n : ℕ) (x : A) → length xs ≤ n → xs ++ x ∷ [] ≡ put b xs n x
  past b [] n x h = refl
  past b (y ∷ more) zero x h = absurd (omega (arith, h))
  past b (y ∷ more) (suc n) x h = ap (λ ys. y ∷ ys) (past b more n x (omega (arith, h)))

  pub replaced : (xs : List A) (n : ℕ) (x : A) → n < length xs → set xs n x ≡ put true xs n x
  replaced [] n x h = absurd (omega (arith, h))
  replaced (y ∷ more) zero x h = refl
  replaced (y ∷ more) (suc n) x h = ap (λ ys. y ∷ ys) (replaced more n x (omega (arith, h)))

  pub stays : (xs : List A) (n : ℕ) (x : A) → n < length xs → xs ≡ put false xs n x
  stays [] n x h = absurd (omega (arith, h))
  stays (y ∷ more) zero x h = refl
  stays (y ∷ more) (suc n) x h = ap (λ ys. y ∷ ys) (stays more n x (omega (arith, h)))

pub put_mapped : {A B : Type 0} (f : A → B) (b : Bool) (xs : List A) (n : ℕ) (x : A) → map f (put b xs n x) ≡ put b (map f xs) n (f x)
put_mapped f b [] n x = refl
put_mapped f true (y ∷ more) zero x = refl
put_mapped f false (y ∷ more) zero x = refl
put_mapped f b (y ∷ more) (suc n) x = ap (λ ys. f y ∷ ys) (put_mapped f b more n x)

pub replaces_mapped : {A B : Type 0} (f : A → B) (d : B → Bool) (xs : List A) (n : ℕ) (x : A) → replaces (λ y. d (f y)) xs n x ≡ replaces d (map f xs) n (f x)
replaces_mapped {A = A} f d xs n x = go (slice_get xs n) ∙ ap (λ found. replaces_one d found (f x)) (sym (slice_get-map f xs n))
  where
    go : (found : Option A) → replaces_one (λ y. d (f y)) found x ≡ replaces_one d (option_map f found) (f x)
    go None = refl
    go (Some y) = refl

pub placed_mapped : {A B : Type 0} (f : A → B) (d : B → Bool) (xs : List A) (n : ℕ) (x : A) (b : Bool) (new : List A) → b ≡ replaces (λ y. d (f y)) xs n x
    → new ≡ put b xs n x → map f new ≡ place d (map f xs) n (f x)
placed_mapped f d xs n x b new h e = ap (map f) e ∙ put_mapped f b xs n x ∙ ap (λ r. put r (map f xs) n (f x)) (h ∙ replaces_mapped f d xs n x)

pub on_ok : {X E : Type 0} {P Q : Type 0} (r : Result X E) → (P → Q) → OnOk r P → OnOk r Q
on_ok (Ok x) f h = f h
on_ok (Err e) f h = tt
