-- The types of a list in which each stands once, and the numbers that types have there.
use Rattle.std.proofs.Common.{◌≡◌, ◌≢◌, ◌∙◌, ◌+◌, ◌<◌, Bool, true, false, ◌||◌, refl, sym, ap, subst, cond, List, [], ◌∷◌, ◌++◌, length, flat_map}
use Rattle.std.proofs.Common.{add-one, arith, inl, inr}
use Rattle.std.proofs.lemmas.List.Elements.{All-from_recursion}
use Rattle.std.specs.Prelude.{◌⊎◌, All}
use Rattle.std.specs.List.{AllByRecursion, list_any}
use Rattle.c_types.specs.Sameness.{same_type}
use Rattle.c_types.specs.Types.{CType}
use Rattle.c_types.proofs.SameTypes.{same_is, same_self}
use Rattle.c_typed.specs.TypeNumbers.{type_at}
use Rattle.c_erasure.specs.Units.{new_among, number_in}

-- ---- lists

abbrev pub IsAmong : {A : Type 0} → A → List A → Type 0
IsAmong x [] = ⊥
IsAmong x (y ∷ more) = (x ≡ y) ⊎ IsAmong x more

pub all_among : {A : Type 0} (P : A → Type 0) (xs : List A) → ((x : A) → IsAmong x xs → P x) → AllByRecursion P xs
all_among P [] h = tt
all_among P (x ∷ xs) h = (h x (inl refl), all_among P xs (λ y k. h y (inr k)))

pub two_parts : {A : Type 0} (P : A → Type 0) (a b : List A) → AllByRecursion P (a ++ b) → AllByRecursion P a × AllByRecursion P b
two_parts P [] b h = (tt, h)
two_parts P (x ∷ a) b h = let r = two_parts P a b h.1 in ((h.0, r.0), r.1)

pub of_each : {A B : Type 0} (P : B → Type 0) (f : A → List B) (xs : List A) → AllByRecursion P (flat_map f xs) → AllByRecursion (λ x. AllByRecursion P (f x)) xs
of_each P f [] h = tt
of_each P f (x ∷ xs) h = let r = two_parts P (f x) (flat_map f xs) h in (r.0, of_each P f xs r.1)

-- ---- types that are taken up

any_among : (t : CType) (known : List CType) → list_any (same_type t) known ≡ true → IsAmong t known
any_among t [] h = absurd (let k : false ≡ true = h in cc)
any_among t (s ∷ more) h = go (same_type t s) refl h (any_among t more)
  where
    go : (b : Bool) → same_type t s ≡ b → (b || list_any (same_type t) more) ≡ true → (list_any (same_type t) more ≡ true → IsAmong t more) → IsAmong t (s ∷ more)
    go true e k f = inl (same_is t s e)
    go false e k f = inr (f k)

still_new : (t : CType) (known all : List CType) → IsAmong t all → IsAmong t known ⊎ IsAmong t (new_among known all)
still_new t known [] h = absurd h
still_new t known (s ∷ more) h =
    go (list_any (same_type s) known) refl h (still_new t known more) (still_new t (s ∷ known) more)
  where
    later : IsAmong t (s ∷ known) ⊎ IsAmong t (new_among (s ∷ known) more) → IsAmong t known ⊎ IsAmong t (s ∷ new_among (s ∷ known) more)
    later (inl (inl e)) = inr (inl e)
    later (inl (inr k)) = inl k
    later (inr k) = inr (inr k)

    go : (b : Bool) → list_any (same_type s) known ≡ b → IsAmong t (s ∷ more) → (IsAmong t more → IsAmong t known ⊎ IsAmong t (new_among known more))
        → (IsAmong t more → IsAmong t (s ∷ known) ⊎ IsAmong t (new_among (s ∷ known) more))
        → IsAmong t known ⊎ IsAmong t (cond b (new_among known more) (s ∷ new_among (s ∷ known) more))
    go true e (inl is) f g = inl (subst (λ x. IsAmong x known) (sym is) (any_among s known e))
    go true e (inr k) f g = f k
    go false e (inl is) f g = inr (inl is)
    go false e (inr k) f g = later (g k)

pub taken_up : (all : List CType) (t : CType) → IsAmong t all → IsAmong t (new_among [] all)
taken_up all t h = elim (still_new t [] all h) [ inl k ↦ absurd k | inr k ↦ k ]

pub of_all : (known all : List CType) (t : CType) → IsAmong t (new_among known all) → IsAmong t all
of_all known [] t h = h
of_all known (s ∷ more) t h = go (list_any (same_type s) known) h (of_all known more t) (of_all (s ∷ known) more t)
  where
    go : (b : Bool) → IsAmong t (cond b (new_among known more) (s ∷ new_among (s ∷ known) more)) → (IsAmong t (new_among known more) → IsAmong t more)
        → (IsAmong t (new_among (s ∷ known) more) → IsAmong t more) → IsAmong t (s ∷ more)
    go true i f g = inr (f i)
    go false (inl e) f g = inl e
    go false (inr i) f g = inr (g i)

-- ---- each once

-- what is new is not known
not_known : (t : CType) (known : List CType) → list_any (same_type t) known ≡ false → IsAmong t known → ⊥
not_known t [] h k = k
not_known t (s ∷ more) h k = go (same_type t s) refl h (not_known t more) k
  where
    go : (b : Bool) → same_type t s ≡ b → (b || list_any (same_type t) more) ≡ false → (list_any (same_type t) more ≡ false → IsAmong t more → ⊥)
        → IsAmong t (s ∷ more) → ⊥
    go true e k f i = let true_is_false : true ≡ false = k in cc
    go false e k f (inl is) = let true_is_false = sym (same_self t s is) ∙ e in cc
    go false e k f (inr i) = f k i

new_is_unknown : (known all : List CType) (t : CType) → IsAmong t (new_among known all) → IsAmong t known → ⊥
new_is_unknown known [] t h k = h
new_is_unknown known (s ∷ more) t h k = go (list_any (same_type s) known) refl h (new_is_unknown known more t) (new_is_unknown (s ∷ known) more t)
  where
    go : (b : Bool) → list_any (same_type s) known ≡ b → IsAmong t (cond b (new_among known more) (s ∷ new_among (s ∷ known) more))
        → (IsAmong t (new_among known more) → IsAmong t known → ⊥) → (IsAmong t (new_among (s ∷ known) more) → IsAmong t (s ∷ known) → ⊥) → ⊥
    go true e i f g = f i k
    go false e (inl is) f g = not_known s known e (subst (λ t. IsAmong t known) is k)
    go false e (inr i) f g = g i (inr k)

abbrev pub AreOnce : List CType → Type 0
AreOnce [] = Unit {0}
AreOnce (t ∷ more) = All (λ u. u ≢ t) more × AreOnce more

all_new_once : (known all : List CType) → AreOnce (new_among known all)
all_new_once known [] = tt
all_new_once known (s ∷ more) = go (list_any (same_type s) known) (all_new_once known more) (all_new_once (s ∷ known) more)
  where
    go : (b : Bool) → AreOnce (new_among known more) → AreOnce (new_among (s ∷ known) more)
        → AreOnce (cond b (new_among known more) (s ∷ new_among (s ∷ known) more))
    go true f g = f
    go false f g =
        let all = new_among (s ∷ known) more in
        (All-from_recursion (λ u. u ≢ s) all (all_among (λ u. u ≢ s) all (λ u i e. new_is_unknown (s ∷ known) more u i (inl e))), g)

pub once : (all : List CType) → AreOnce (new_among [] all)
once all = all_new_once [] all

-- ---- numbers

-- the type under a number is the one that has it
abbrev pub IsNumbered : List CType → CType → Type 0
IsNumbered types t = (number_in types t < length types) × (type_at types (number_in types t) ≡ t)

pub numbered : (types : List CType) (t : CType) → IsAmong t types → IsNumbered types t
numbered [] t h = absurd h
numbered (s ∷ more) t h = go (same_type s t) refl h (numbered more t)
  where
    go : (b : Bool) → same_type s t ≡ b → IsAmong t (s ∷ more) → (IsAmong t more → IsNumbered more t)
        → (cond b 0 (number_in more t + 1) < length (s ∷ more)) × (type_at (s ∷ more) (cond b 0 (number_in more t + 1)) ≡ t)
    go true e k f = (omega arith, same_is s t e)
    go false e (inl is) f = absurd (let k : false ≡ true = sym e ∙ same_self s t (sym is) in cc)
    go false e (inr k) f =
        let r = f k in
        let l = r.0 in
        (omega (arith, l), ap (λ n. type_at (s ∷ more) n) (add-one (number_in more t)) ∙ r.1)
