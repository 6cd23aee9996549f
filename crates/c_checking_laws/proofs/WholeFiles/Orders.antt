-- What the order of the text gives: objects and functions in their order, bytes at which no object begins, and nodes counted by items.
use Rattle.std.proofs.Common.{◌≡◌, ◌≢◌, ℕ, zero, suc, ◌+◌, ◌≤◌, ◌<◌, true, false, refl, sym, ap, ◌∙◌, subst, cond, List, [], ◌∷◌, ◌++◌}
use Rattle.std.proofs.Common.{arith}
use Rattle.std.proofs.lemmas.Bool.Decides.{nat_tests}
use Rattle.std.proofs.lemmas.List.Elements.{All-cons, All-nil}
use Rattle.std.specs.Prelude.{All, map, Some, slice_get, nat_le}
use Rattle.c_ast.specs.Trees
use Rattle.c_ast.specs.Places.{first_item}
use Rattle.c_ast.specs.Sizes.{size_item}
use Rattle.c_erasure.specs.Files.{AreAscending, nodes_up_to, nodes_at}
use Rattle.c_erasure.specs.Scopes.{FileScope, AnObject}
use Rattle.c_checking_laws.proofs.WholeFiles.Parts.{Parted, none, is_made, is_bytes, NoneBegins}
use Rattle.c_checking_laws.specs.TextOrder.TextOrder.{Rising, places_of_item, places_of_file}
use Rattle.c_checking_laws.proofs.WholeFiles.Items.{places_in, AreCounted}
use Rattle.c_checking_laws.proofs.WholeFiles.Rises.{passed, rising_later}

pub all_from_slices : {X : Type 0} (P : X → Type 0) (xs : List X) → ((n : ℕ) (x : X) → slice_get xs n ≡ Some x → P x) → All P xs
all_from_slices P [] h = All-nil P
all_from_slices P (x ∷ xs) h = All-cons P x xs (h 0 x refl) (all_from_slices P xs (λ n y e. h (suc n) y e))

-- ---- some of the places

all_above : (p at : ℕ) (all made others : List ℕ) → p < at → Rising at all → Parted all made others → All (λ m. p < m) made
all_above p at [] [] [] l r none = All-nil (λ m. p < m)
all_above p at _ _ _ l r (is_made q all made others w) =
    All-cons (λ m. p < m) q made (let b = r.0 in omega (arith, l, b)) (all_above p (q + 1) all made others (let b = r.0 in omega (arith, l, b)) r.1 w)
all_above p at _ _ _ l r (is_bytes q all made others w) = all_above p (q + 1) all made others (let b = r.0 in omega (arith, l, b)) r.1 w

pub made_ascend : (at : ℕ) (all made others : List ℕ) → Rising at all → Parted all made others → AreAscending made
made_ascend at [] [] [] r none = tt
made_ascend at _ _ _ r (is_made q all made others w) = (all_above q (q + 1) all made others (omega arith) r.1 w, made_ascend (q + 1) all made others r.1 w)
made_ascend at _ _ _ r (is_bytes q all made others w) = made_ascend (q + 1) all made others r.1 w

from_on : (at : ℕ) (all made others : List ℕ) → Rising at all → Parted all made others
    → ((k p : ℕ) → slice_get made k ≡ Some p → at ≤ p) × ((k p : ℕ) → slice_get others k ≡ Some p → at ≤ p)
from_on at [] [] [] r none = (λ k p e. cc, λ k p e. cc)
from_on at _ _ _ r (is_made q all made others w) =
    let m = from_on (q + 1) all made others r.1 w in
    let b = r.0 in (λ k p e. here k p e b m.0, λ k p e. let c = m.1 k p e in omega (arith, c, b))
  where
    here : (k p : ℕ) → slice_get (q ∷ made) k ≡ Some p → at ≤ q → ((k p : ℕ) → slice_get made k ≡ Some p → q + 1 ≤ p) → at ≤ p
    here zero p e b m = let same : q ≡ p = cc in omega (arith, same, b)
    here (suc k) p e b m = let c = m k p e in omega (arith, c, b)
from_on at _ _ _ r (is_bytes q all made others w) =
    let m = from_on (q + 1) all made others r.1 w in
    let b = r.0 in (λ k p e. let c = m.0 k p e in omega (arith, c, b), λ k p e. here k p e b m.1)
  where
    here : (k p : ℕ) → slice_get (q ∷ others) k ≡ Some p → at ≤ q → ((k p : ℕ) → slice_get others k ≡ Some p → q + 1 ≤ p) → at ≤ p
    here zero p e b m = let same : q ≡ p = cc in omega (arith, same, b)
    here (suc k) p e b m = let c = m k p e in omega (arith, c, b)

-- the others are none of those
apart : (at : ℕ) (all made others : List ℕ) → Rising at all → Parted all made others → (j k p q : ℕ) → slice_get made j ≡ Some p
    → slice_get others k ≡ Some q → p ≢ q
apart at [] [] [] r none j k p q e f = cc
apart at _ _ _ r (is_made s all made others w) zero k p q e f =
    let b = (from_on (s + 1) all made others r.1 w).1 k q f in
    let same : s ≡ p = cc in
    λ g. omega (arith, b, same, g)
apart at _ _ _ r (is_made s all made others w) (suc j) k p q e f = apart (s + 1) all made others r.1 w j k p q e f
apart at _ _ _ r (is_bytes s all made others w) j zero p q e f =
    let b = (from_on (s + 1) all made others r.1 w).0 j p e in
    let same : s ≡ q = cc in
    λ g. omega (arith, b, same, g)
apart at _ _ _ r (is_bytes s all made others w) j (suc k) p q e f = apart (s + 1) all made others r.1 w j k p q e f

map_there : {X : Type 0} (v : X → ℕ) (xs : List X) (k : ℕ) (x : X) → slice_get xs k ≡ Some x → slice_get (map v xs) k ≡ Some (v x)
map_there v [] k x e = cc
map_there v (y ∷ xs) zero x e = let same : y ≡ x = cc in ap (λ x. Some (v x)) same
map_there v (y ∷ xs) (suc k) x e = map_there v xs k x e

pub none_begins_there : (h : FileScope) (at : ℕ) (all made others : List ℕ) → Rising at all → Parted all made others → map (λ o. o.first) h.objects ≡ made
    → NoneBegins h others
none_begins_there h at all made others r w e = each others (λ k q f. apart_from k q f)
  where
    apart_from : (k q : ℕ) → slice_get others k ≡ Some q → (n : ℕ) (o : AnObject) → slice_get h.objects n ≡ Some o → o.first ≢ q
    apart_from k q f n o g =
        apart at all made others r w n k o.first q
        (subst (λ all. slice_get all n ≡ Some o.first) e (map_there (λ o. o.first) h.objects n o g)) f

    each : (texts : List ℕ) → ((k q : ℕ) → slice_get texts k ≡ Some q → (n : ℕ) (o : AnObject) → slice_get h.objects n ≡ Some o → o.first ≢ q)
        → NoneBegins h texts
    each [] f = tt
    each (t ∷ texts) f = (all_from_slices (λ (o : AnObject). o.first ≢ t) h.objects (f 0 t refl), each texts (λ k q g. f (suc k) q g))

-- ---- without the places of items

other_rest : (at : ℕ) (u v w : List ℕ) → ((to : ℕ) → Rising to v → Rising to w) → Rising at (u ++ v) → Rising at (u ++ w)
other_rest at [] v w f r = f at r
other_rest at (p ∷ u) v w f r = (r.0, other_rest (p + 1) u v w f r.1)

pub rising_in : (items : List Trees.Item) (at : ℕ) → Rising at (places_of_file items) → Rising at (places_in items)
rising_in [] at r = tt
rising_in (item ∷ more) at r =
    let b = r.0 in
    rising_later at (first_item item + 1) (places_of_item item ++ places_in more) (omega (arith, b))
    (other_rest (first_item item + 1) (places_of_item item) (places_of_file more) (places_in more) (λ to s. rising_in more to s) r.1)

-- ---- nodes

less_so : (n m : ℕ) → n ≤ m → nat_le n m ≡ true
less_so n m h = grind (arith, nat_tests)

not_so : (n m : ℕ) → m < n → nat_le n m ≡ false
not_so n m h = grind (arith, nat_tests)

before_rest : (more : List Trees.Item) (to p nodes : ℕ) → Rising to (places_of_file more) → p < to → nodes_up_to more p nodes ≡ nodes
before_rest [] to p nodes r l = refl
before_rest (item ∷ more) to p nodes r l =
    let b = r.0 in
    ap (λ c. cond c (nodes_up_to more p (size_item item).nodes) nodes) (not_so (first_item item) p (omega (arith, b, l)))

counted_from : (at_all : ℕ → ℕ) (items : List Trees.Item) (at nodes : ℕ) → Rising at (places_of_file items)
    → ((p : ℕ) → at ≤ p → at_all p ≡ nodes_up_to items p nodes) → AreCounted at_all items
counted_from at_all [] at nodes r h = tt
counted_from at_all (item ∷ more) at nodes r h =
    let first = first_item item in
    let b = r.0 in
    let p = passed (first + 1) (places_of_item item) (places_of_file more) r.1 in
    let began : (q : ℕ) → first ≤ q → at_all q ≡ nodes_up_to more q (size_item item).nodes =
    λ q l. h q (omega (arith, b, l)) ∙ ap (λ c. cond c (nodes_up_to more q (size_item item).nodes) nodes) (less_so first q l) in (
      λ k q e.
          let l = p.from k q e in
          let m = p.below k q e in
          sym (began q (omega (arith, l)) ∙ before_rest more p.to q (size_item item).nodes p.rest m),
      counted_from at_all more p.to (size_item item).nodes p.rest (λ q l. let t = p.later in began q (omega (arith, l, t))),
    )

pub counted_by_items : (items : List Trees.Item) → Rising 0 (places_of_file items) → AreCounted (nodes_at items) items
counted_by_items items r = counted_from (nodes_at items) items 0 0 r (λ p l. refl)
