-- Things that come one after another, each to its key: under each key stands what the definition chooses.
use Rattle.std.proofs.Common.{◌≡◌, ℕ, ◌+◌, Bool, true, false, not, ◌&&◌, ◌||◌, List, [], ◌∷◌, ◌++◌, Option, Some, None, fold, map, flat_map, refl, sym, ap, ◌∙◌}
use Rattle.std.proofs.Common.{subst, add-one, append_assoc}
use Rattle.std.specs.Prelude.{if◌then◌else◌, slice_get}
use Rattle.std.specs.Str.{bytes_eq}
use Rattle.std.proofs.lemmas.Slice.Eq.{bytes_eq-Decides}
use Rattle.c_numbers.specs.KeyNumbers.Keys.{is_among, new_keys, position, with_key}
use Rattle.c_numbers.proofs.KeyNumbers.Laws.{all_after, all_new}
use Rattle.c_link.specs.Joining.{under, chosen_among, or_first, chosen, if_any}
use Rattle.c_link.specs.Placing.{place, placed}

abbrev Key : Type 0
Key = List ℕ

self : (k : Key) → bytes_eq k k ≡ true
self k = (bytes_eq-Decides k k).1 refl

false_is_true : false ≡ true → ⊥
false_is_true h = cc

neither : (a b : Bool) → (a || b) ≡ false → (a ≡ false) × (b ≡ false)
neither true b h = absurd (false_is_true (sym h))
neither false b h = (refl, h)

module _ {A : Type 0} (d : A → Bool) where
  -- of two, the first that is defined, or else the first
  abbrev kept : A → A → A
  kept x y = if d x then x else if d y then y else x

  kept_is : (x y : A) → kept x y ≡ (if not (d x) && d y then y else x)
  kept_is x y = go (d x) (d y)
    where
      go : (b c : Bool) → (if b then x else if c then y else x) ≡ (if not b && c then y else x)
      go true true = refl
      go true false = refl
      go false true = refl
      go false false = refl

  abbrev with_item : List (Key × A) → Key → A → List (Key × A)
  with_item [] k x = (k, x) ∷ []
  with_item (p ∷ more) k x = if bytes_eq k p.0 then (p.0, kept p.1 x) ∷ more else p ∷ with_item more k x

  abbrev all_items : List (Key × A) → List (Key × A) → List (Key × A)
  all_items acc [] = acc
  all_items acc (p ∷ more) = all_items (with_item acc p.0 p.1) more

  abbrev keys : List (Key × A) → List Key
  keys acc = map {B = Key} (λ p. p.0) acc

  abbrev values : List (Key × A) → List A
  values acc = map {B = A} (λ p. p.1) acc

  -- its keys
  keys_of_item : (acc : List (Key × A)) (k : Key) (x : A) → keys (with_item acc k x) ≡ with_key (keys acc) k
  keys_of_item [] k x = refl
  keys_of_item (p ∷ more) k x =
      go (bytes_eq k p.0) (is_among (keys more) k) (keys_of_item more k x)
    where
      go : (b c : Bool) → keys (with_item more k x) ≡ (if c then keys more else keys more ++ k ∷ [])
          → keys (if b then (p.0, kept p.1 x) ∷ more else p ∷ with_item more k x)
          ≡ (if b || c then p.0 ∷ keys more else p.0 ∷ keys more ++ k ∷ [])
      go true c e = refl
      go false true e = ap (λ ks. p.0 ∷ ks) e
      go false false e = ap (λ ks. p.0 ∷ ks) e

  keys_of_all : (acc ps : List (Key × A)) → keys (all_items acc ps) ≡ fold with_key (keys acc) (keys ps)
  keys_of_all acc [] = refl
  keys_of_all acc (p ∷ more) = keys_of_all (with_item acc p.0 p.1) more ∙ ap (λ ks. fold with_key ks (keys more)) (keys_of_item acc p.0 p.1)

  -- its values, where the place of a key is looked up among keys that begin with those so far
  one_further : (y : A) (ys : List A) (n : ℕ) (x : A) → place d (y ∷ ys) (n + 1) x ≡ y ∷ place d ys n x
  one_further y ys n x = ap (λ m. place d (y ∷ ys) m x) (add-one n)

  values_of_item : (acc : List (Key × A)) (k : Key) (x : A) (rest : List Key) → values (with_item acc k x)
      ≡ place d (values acc) (position (keys (with_item acc k x) ++ rest) k) x
  values_of_item [] k x rest = refl
  values_of_item (p ∷ more) k x rest =
      go (bytes_eq k p.0) refl (values_of_item more k x rest)
    where
      go : (b : Bool) → bytes_eq k p.0 ≡ b → values (with_item more k x) ≡ place d (values more) (position (keys (with_item more k x) ++ rest) k) x
          → values (if b then (p.0, kept p.1 x) ∷ more else p ∷ with_item more k x)
          ≡ place d (p.1 ∷ values more) (position (keys (if b then (p.0, kept p.1 x) ∷ more else p ∷ with_item more k x) ++ rest) k) x
      go true e r =
          ap (λ y. y ∷ values more) (kept_is p.1 x)
          ∙ ap (λ b. place d (p.1 ∷ values more) (if b then 0 else position (keys more ++ rest) k + 1) x) (sym e)
      go false e r =
          ap (λ ys. p.1 ∷ ys) r ∙ sym (one_further p.1 (values more) (position (keys (with_item more k x) ++ rest) k) x)
          ∙ ap (λ b. place d (p.1 ∷ values more) (if b then 0 else position (keys (with_item more k x) ++ rest) k + 1) x) (sym e)

  placed_is : (table rest : List Key) (acc ps : List (Key × A)) → table ≡ fold with_key (keys acc) (keys ps) ++ rest
      → placed d table (values acc) ps ≡ values (all_items acc ps)
  placed_is table rest acc [] h = refl
  placed_is table rest acc (p ∷ more) h =
      let next = with_item acc p.0 p.1 in
      let e : table ≡ fold with_key (keys next) (keys more) ++ rest = h ∙ ap (λ ks. fold with_key ks (keys more) ++ rest) (sym (keys_of_item acc p.0 p.1)) in
      let t = e ∙ ap (λ ks. ks ++ rest) (all_after (keys more) (keys next)) ∙ append_assoc (keys next) (new_keys (keys next) (keys more)) rest in
      ap (λ all. placed d table all more) (ap (λ them. place d (values acc) (position them p.0) p.1) t
      ∙ sym (values_of_item acc p.0 p.1 (new_keys (keys next) (keys more) ++ rest)))
      ∙ placed_is table rest next more e

  -- what stands under a key
  abbrev found : List (Key × A) → Key → Option A
  found [] j = None
  found (p ∷ more) j = if bytes_eq j p.0 then Some p.1 else found more j

  abbrev after : Option A → A → Option A
  after None x = Some x
  after (Some y) x = Some (kept y x)

  abbrev merged : Option A → List A → Option A
  merged o [] = o
  merged o (x ∷ xs) = merged (after o x) xs

  found_of_item : (acc : List (Key × A)) (k : Key) (x : A) (j : Key) → found (with_item acc k x) j ≡ (if bytes_eq j k then after (found acc j) x else found acc j)
  found_of_item [] k x j = refl
  found_of_item (p ∷ more) k x j =
      go (bytes_eq k p.0) (bytes_eq j p.0) (bytes_eq j k) refl refl refl (found_of_item more k x j)
    where
      is : (a b : Key) → bytes_eq a b ≡ true → a ≡ b
      is a b = (bytes_eq-Decides a b).0

      go : (b1 b2 b3 : Bool) → bytes_eq k p.0 ≡ b1 → bytes_eq j p.0 ≡ b2 → bytes_eq j k ≡ b3
          → found (with_item more k x) j ≡ (if b3 then after (found more j) x else found more j)
          → found (if b1 then (p.0, kept p.1 x) ∷ more else p ∷ with_item more k x) j
          ≡ (if b3 then after (if b2 then Some p.1 else found more j) x else (if b2 then Some p.1 else found more j))
      go true true true e1 e2 e3 r = ap (λ b. if b then Some (kept p.1 x) else found more j) e2
      go true false false e1 e2 e3 r = ap (λ b. if b then Some (kept p.1 x) else found more j) e2
      go true true false e1 e2 e3 r =
          absurd (false_is_true (sym e3 ∙ (bytes_eq-Decides j k).1 (is j p.0 e2 ∙ sym (is k p.0 e1))))
      go true false true e1 e2 e3 r =
          absurd (false_is_true (sym e2 ∙ (bytes_eq-Decides j p.0).1 (is j k e3 ∙ is k p.0 e1)))
      go false true true e1 e2 e3 r =
          absurd (false_is_true (sym e1 ∙ (bytes_eq-Decides k p.0).1 (sym (is j k e3) ∙ is j p.0 e2)))
      go false true false e1 e2 e3 r = ap (λ b. if b then Some p.1 else found (with_item more k x) j) e2
      go false false b3 e1 e2 e3 r = ap (λ b. if b then Some p.1 else found (with_item more k x) j) e2 ∙ r

  found_of_all : (acc ps : List (Key × A)) (j : Key) → found (all_items acc ps) j ≡ merged (found acc j) (under j ps)
  found_of_all acc [] j = refl
  found_of_all acc (p ∷ more) j =
      found_of_all (with_item acc p.0 p.1) more j ∙ ap (λ o. merged o (under j more)) (found_of_item acc p.0 p.1 j) ∙ go (bytes_eq j p.0)
    where
      go : (b : Bool) → merged (if b then after (found acc j) p.1 else found acc j) (under j more)
          ≡ merged (found acc j) (if b then p.1 ∷ under j more else under j more)
      go true = refl
      go false = refl

  chosen_after : (y : A) (ys : List A) → merged (Some y) ys ≡ (if d y then Some y else or_first y (chosen_among d ys))
  chosen_after y [] = go (d y)
    where
      go : (b : Bool) → Some y ≡ (if b then Some y else Some y)
      go true = refl
      go false = refl
  chosen_after y (x ∷ xs) =
      go (d y) (d x) refl refl (chosen_after y xs) (chosen_after x xs)
    where
      go : (b c : Bool) → d y ≡ b → d x ≡ c → merged (Some y) xs ≡ (if d y then Some y else or_first y (chosen_among d xs))
          → merged (Some x) xs ≡ (if d x then Some x else or_first x (chosen_among d xs)) → merged (Some (if b then y else if c then x else y)) xs
          ≡ (if b then Some y else or_first y (if c then Some x else chosen_among d xs))
      go true c e f r q = r ∙ ap (λ t. if t then Some y else or_first y (chosen_among d xs)) e
      go false true e f r q = q ∙ ap (λ t. if t then Some x else or_first x (chosen_among d xs)) f
      go false false e f r q = r ∙ ap (λ t. if t then Some y else or_first y (chosen_among d xs)) e

  chosen_is : (ys : List A) → merged None ys ≡ chosen d ys
  chosen_is [] = refl
  chosen_is (y ∷ ys) = chosen_after y ys

  -- values, found again by their keys, as no two of these are alike
  abbrev Apart : Key → List Key → Type 0
  Apart k [] = Unit {0}
  Apart k (j ∷ more) = (bytes_eq j k ≡ false) × Apart k more

  abbrev Distinct : List Key → Type 0
  Distinct [] = Unit {0}
  Distinct (k ∷ more) = Apart k more × Distinct more

  found_apart : (p : Key × A) (more : List (Key × A)) (ks : List Key) → Apart p.0 ks
      → flat_map (λ k. if_any (found (p ∷ more) k)) ks ≡ flat_map (λ k. if_any (found more k)) ks
  found_apart p more [] h = refl
  found_apart p more (k ∷ ks) h =
      ap (λ b. if_any (if b then Some p.1 else found more k) ++ flat_map (λ k. if_any (found (p ∷ more) k)) ks) h.0
      ∙ ap (λ rest. if_any (found more k) ++ rest) (found_apart p more ks h.1)

  values_found : (acc : List (Key × A)) → Distinct (keys acc) → values acc ≡ flat_map (λ k. if_any (found acc k)) (keys acc)
  values_found [] h = refl
  values_found (p ∷ more) h =
      ap (λ rest. p.1 ∷ rest) (values_found more h.1 ∙ sym (found_apart p more (keys more) h.0))
      ∙ ap (λ b. if_any (if b then Some p.1 else found more p.0) ++ flat_map (λ k. if_any (found (p ∷ more) k)) (keys more)) (sym (self p.0))

  apart_more : (k : Key) (ks : List Key) (x : Key) → Apart k ks → bytes_eq x k ≡ false → Apart k (ks ++ x ∷ [])
  apart_more k [] x h e = (e, tt)
  apart_more k (j ∷ more) x h e = (h.0, apart_more k more x h.1 e)

  distinct_more : (ks : List Key) (x : Key) → Distinct ks → is_among ks x ≡ false → Distinct (ks ++ x ∷ [])
  distinct_more [] x h e = (tt, tt)
  distinct_more (k ∷ more) x h e =
      let q = neither (bytes_eq x k) (is_among more x) e in
      (apart_more k more x h.0 q.0, distinct_more more x h.1 q.1)

  distinct_with : (ks : List Key) (x : Key) → Distinct ks → Distinct (with_key ks x)
  distinct_with ks x h = go (is_among ks x) refl
    where
      go : (b : Bool) → is_among ks x ≡ b → Distinct (if b then ks else ks ++ x ∷ [])
      go true e = h
      go false e = distinct_more ks x h e

  distinct_all : (ks xs : List Key) → Distinct ks → Distinct (fold with_key ks xs)
  distinct_all ks [] h = h
  distinct_all ks (x ∷ more) h = distinct_all (with_key ks x) more (distinct_with ks x h)

  -- the whole
  pub placed_all : (ps : List (Key × A)) (rest : List Key) → placed d (new_keys [] (map (λ p. p.0) ps) ++ rest) [] ps
      ≡ flat_map (λ k. if_any (chosen d (under k ps))) (new_keys [] (map (λ p. p.0) ps))
  placed_all ps rest =
      let e : keys (all_items [] ps) ≡ new_keys [] (keys ps) = keys_of_all [] ps ∙ all_new (keys ps) in
      let f : (k : Key) → found (all_items [] ps) k ≡ chosen d (under k ps) = λ k. found_of_all [] ps k ∙ chosen_is (under k ps) in
      placed_is (new_keys [] (keys ps) ++ rest) rest [] ps (ap (λ ks. ks ++ rest) (sym (all_new (keys ps))))
      ∙ values_found (all_items [] ps) (subst Distinct (sym (keys_of_all [] ps)) (distinct_all [] (keys ps) tt))
      ∙ ap (flat_map (λ k. if_any (found (all_items [] ps) k))) e
      ∙ ap (λ (g : Key → Option A). flat_map (λ k. if_any (g k)) (new_keys [] (keys ps))) (λ i k. f k i)

  -- what stands at the place of a key
  get_is_found : (acc : List (Key × A)) (rest : List Key) (k : Key) → slice_get (values acc) (position (keys acc ++ rest) k) ≡ found acc k
  get_is_found [] rest k = refl
  get_is_found (p ∷ more) rest k = go (bytes_eq k p.0) (get_is_found more rest k)
    where
      go : (b : Bool) → slice_get (values more) (position (keys more ++ rest) k) ≡ found more k
          → slice_get (p.1 ∷ values more) (if b then 0 else position (keys more ++ rest) k + 1) ≡ (if b then Some p.1 else found more k)
      go true e = refl
      go false e = ap (slice_get (p.1 ∷ values more)) (add-one (position (keys more ++ rest) k)) ∙ e

  pub found_at : (ps : List (Key × A)) (rest : List Key) (k : Key) → (let table = fold with_key [] (map (λ p. p.0) ps) ++ rest in
      slice_get (placed d table [] ps) (position table k)) ≡ chosen d (under k ps)
  found_at ps rest k =
      let table = fold with_key [] (keys ps) ++ rest in
      ap (λ all. slice_get all (position table k)) (placed_is table rest [] ps refl)
      ∙ ap (λ ks. slice_get (values (all_items [] ps)) (position (ks ++ rest) k)) (sym (keys_of_all [] ps))
      ∙ get_is_found (all_items [] ps) rest k ∙ found_of_all [] ps k ∙ chosen_is (under k ps)
