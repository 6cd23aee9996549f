-- What a table's index answers is the place of a key.
use Rattle.std.proofs.Common.{◌≡◌, ℕ, ◌+◌, ◌≤◌, Bool, true, false, not, ◌||◌, List, [], ◌∷◌, ◌++◌, Some, None, Vec, Global, map, length, cond, refl, sym, ap}
use Rattle.std.proofs.Common.{◌∙◌, arith}
use Rattle.std.specs.Prelude.{unwrap_or, nat_lt, if◌then◌else◌}
use Rattle.std.specs.List.{position_or_len, list_any}
use Rattle.std.specs.List as L
use Rattle.std.proofs.lemmas.List.{map-append}
use Rattle.std.specs.Str.{bytes_eq}
use Rattle.std.proofs.lemmas.Bool.{ltb-false}
use Rattle.std.proofs.lemmas.List.Sums.{prefix_len-le-length}
use Rattle.c_numbers.specs.KeyNumbers.Keys.{is_among, position, with_key}

abbrev pub Stored : Type 0
Stored = List (Vec ℕ Global)

abbrev pub listed : Stored → List (List ℕ)
listed keys = map (λ key. key.items) keys

first : (p : Bool) (n m : ℕ) → n ≡ m → cond p 0 (n + 1) ≡ cond (not p) (1 + m) 0
first true n m h = refl
first false n m h = omega (arith, h)

place_is : (keys : Stored) (x : List ℕ) → position (listed keys) x ≡ position_or_len (λ key. bytes_eq x key.items) keys
place_is [] x = refl
place_is (key ∷ more) x = first (bytes_eq x key.items) _ _ (place_is more x)

or_length : (n m : ℕ) → n ≤ m → unwrap_or (cond (nat_lt n m) (Some n) None) m ≡ n
or_length n m h = go (nat_lt n m) refl
  where
    go : (b : Bool) → nat_lt n m ≡ b → unwrap_or (cond b (Some n) None) m ≡ n
    go true e = refl
    go false e = let g : m ≤ n = ltb-false n m e in omega (arith, g, h)

pub index_is_place : (keys : Stored) (x : List ℕ) → unwrap_or (L.position (λ key. bytes_eq x key.items) keys) (length keys) ≡ position (listed keys) x
index_is_place keys x = or_length _ _ (prefix_len-le-length (λ key. not (bytes_eq x key.items)) keys) ∙ sym (place_is keys x)

any_listed : (keys : Stored) (x : List ℕ) → is_among (listed keys) x ≡ list_any (λ key. bytes_eq x key.items) keys
any_listed [] x = refl
any_listed (key ∷ more) x = ap (λ b. bytes_eq x key.items || b) (any_listed more x)

pub added_is : (keys : Stored) (key : Vec ℕ Global) → listed (if list_any (λ y. bytes_eq key.items y.items) keys then keys else keys ++ key ∷ [])
    ≡ with_key (listed keys) key.items
added_is keys key =
    go (list_any (λ y. bytes_eq key.items y.items) keys) ∙ ap (λ b. if b then listed keys else listed keys ++ key.items ∷ []) (sym (any_listed keys key.items))
  where
    go : (b : Bool) → listed (if b then keys else keys ++ key ∷ []) ≡ (if b then listed keys else listed keys ++ key.items ∷ [])
    go true = refl
    go false = map-append (λ k. k.items) keys (key ∷ [])
