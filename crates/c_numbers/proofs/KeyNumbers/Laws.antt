-- Adding keys one after another gives each once, in the order in which they stand first.
use Rattle.std.proofs.Common.{◌≡◌, ℕ, suc, ◌+◌, ◌<◌, ◌≤◌, Bool, true, false, ◌||◌, List, [], ◌∷◌, ◌++◌, fold, length, refl, sym, ap, ◌∙◌, append_assoc, arith}
use Rattle.std.specs.Prelude.{if◌then◌else◌}
use Rattle.std.specs.Str.{bytes_eq}
use Rattle.std.proofs.lemmas.List.{append-nil}
use Rattle.std.proofs.lemmas.List.Folds.{list_any-append}
use Rattle.c_numbers.specs.KeyNumbers.Keys.{is_among, new_keys, position, with_key}

abbrev Alike : List (List ℕ) → List (List ℕ) → Type 0
Alike table known = (x : List ℕ) → is_among table x ≡ is_among known x

turned : (a b : Bool) → (a || (b || false)) ≡ (b || a)
turned true true = refl
turned true false = refl
turned false true = refl
turned false false = refl

one_more : (table known : List (List ℕ)) (x : List ℕ) → Alike table known → Alike (table ++ x ∷ []) (x ∷ known)
one_more table known x h y = list_any-append (bytes_eq y) table (x ∷ []) ∙ turned (is_among table y) (bytes_eq y x) ∙ ap (λ b. bytes_eq y x || b) (h y)

pub all_added : (xs table known : List (List ℕ)) → Alike table known → fold with_key table xs ≡ table ++ new_keys known xs
all_added [] table known h = sym (append-nil table)
all_added (x ∷ more) table known h =
    go (is_among known x) refl (λ t k. all_added more t k)
  where
    go : (b : Bool) → is_among known x ≡ b → ((t k : List (List ℕ)) → Alike t k → fold with_key t more ≡ t ++ new_keys k more)
        → fold with_key table (x ∷ more) ≡ table ++ new_keys known (x ∷ more)
    go true e rest = rw (h x) (rw e (rest table known h))
    go false e rest = rw (h x) (rw e (rest (table ++ x ∷ []) (x ∷ known) (one_more table known x h) ∙ append_assoc table (x ∷ []) _))

-- from nothing on, and after others
pub all_new : (xs : List (List ℕ)) → fold with_key [] xs ≡ new_keys [] xs
all_new xs = all_added xs [] [] (λ x. refl)

pub all_after : (xs known : List (List ℕ)) → fold with_key known xs ≡ known ++ new_keys known xs
all_after xs known = all_added xs known known (λ x. refl)

-- a key has a place below the length exactly where it is there
pub found : (keys : List (List ℕ)) (x : List ℕ) → position keys x < length keys → is_among keys x ≡ true
found [] x h = absurd (omega (arith, h))
found (y ∷ more) x h = go (bytes_eq x y) (position more x) (found more x) h
  where
    go : (b : Bool) (n : ℕ) → (n < length more → is_among more x ≡ true) → (if b then 0 else n + 1) < suc (length more) → (b || is_among more x) ≡ true
    go true n f h = refl
    go false n f h = f (omega (arith, h))

pub absent : (keys : List (List ℕ)) (x : List ℕ) → length keys ≤ position keys x → is_among keys x ≡ false
absent [] x h = refl
absent (y ∷ more) x h = go (bytes_eq x y) (position more x) (absent more x) h
  where
    go : (b : Bool) (n : ℕ) → (length more ≤ n → is_among more x ≡ false) → suc (length more) ≤ (if b then 0 else n + 1) → (b || is_among more x) ≡ false
    go true n f h = absurd (omega (arith, h))
    go false n f h = f (omega (arith, h))
