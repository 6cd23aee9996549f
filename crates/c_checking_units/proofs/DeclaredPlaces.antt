-- Where a declarator of the file scope stands, the text makes no object of its own.
use Rattle.std.proofs.Common.{ℕ, ◌+◌, ◌≤◌, ◌<◌, List, [], ◌∷◌, ◌++◌, arith, inl, inr}
use Rattle.std.specs.Prelude.{◌⊎◌}
use Rattle.c_ast.specs.Places.{first_declarator, first_item}
use Rattle.c_ast.specs.Trees
use Rattle.c_erasure.specs.Files.{IsMade}
use Rattle.c_erasure.specs.Literals.{literals_of_value, initial_literals, made_by_file_item, made_by_file}
use Rattle.c_checking_laws.specs.TextOrder.TextOrder.{Rising, places_of_declarators, places_of_item, places_of_file}
use Rattle.c_checking_laws.proofs.WholeFiles.Known.{made_left, made_right}
use Rattle.c_checking_laws.proofs.WholeFiles.Rises.{passed, rising_front}
use Rattle.c_checking_units.proofs.TracedItems.{declared_by, declared_by_item, declared_by_file}

made_in_both : (u v : List ℕ) (p : ℕ) → IsMade (u ++ v) p → IsMade u p ⊎ IsMade v p
made_in_both [] v p h = inr h
made_in_both (q ∷ u) v p (inl e) = inl (inl e)
made_in_both (q ∷ u) v p (inr h) = later (made_in_both u v p h)
  where
    later : IsMade u p ⊎ IsMade v p → IsMade (q ∷ u) p ⊎ IsMade v p
    later (inl h) = inl (inr h)
    later (inr h) = inr h

from_on : (at : ℕ) (all : List ℕ) (p : ℕ) → Rising at all → IsMade all p → at ≤ p
from_on at [] p r h = absurd h
from_on at (q ∷ all) p r (inl e) = let l = r.0 in omega (arith, l, e)
from_on at (q ∷ all) p r (inr h) = let l = r.0 in let m = from_on (q + 1) all p r.1 h in omega (arith, l, m)

-- those of a first part stand before those behind it
in_order : (at : ℕ) (u v : List ℕ) (p q : ℕ) → Rising at (u ++ v) → IsMade u p → IsMade v q → p < q
in_order at [] v p q r h i = absurd h
in_order at (x ∷ u) v p q r (inl e) i = let m = from_on (x + 1) (u ++ v) q r.1 (made_right u v q i) in omega (arith, m, e)
in_order at (x ∷ u) v p q r (inr h) i = in_order (x + 1) u v p q r.1 h i

apart : (at : ℕ) (u v : List ℕ) (p : ℕ) → Rising at (u ++ v) → IsMade u p → IsMade v p → ⊥
apart at u v p r h i = let l = in_order at u v p p r h i in omega (arith, l)

-- ---- declarators

declarators_there : (all : List Trees.InitDeclarator) (semicolon p : ℕ) → IsMade (declared_by all semicolon) p → IsMade (places_of_declarators all semicolon) p
declarators_there [] semicolon p h = h
declarators_there (d ∷ more) semicolon p (inl e) = inl e
declarators_there (d ∷ more) semicolon p (inr h) =
    inr (made_right (literals_of_value d.value) (places_of_declarators more semicolon) p (declarators_there more semicolon p h))

literals_there : (all : List Trees.InitDeclarator) (semicolon p : ℕ) → IsMade (initial_literals all) p → IsMade (places_of_declarators all semicolon) p
literals_there [] semicolon p h = h
literals_there (d ∷ more) semicolon p h =
    by_part (made_in_both (literals_of_value d.value) (initial_literals more) p h) (λ h. literals_there more semicolon p h)
  where
    by_part : IsMade (literals_of_value d.value) p ⊎ IsMade (initial_literals more) p
        → (IsMade (initial_literals more) p → IsMade (places_of_declarators more semicolon) p) → IsMade (places_of_declarators (d ∷ more) semicolon) p
    by_part (inl h) later = inr (made_left (literals_of_value d.value) (places_of_declarators more semicolon) p h)
    by_part (inr h) later = inr (made_right (literals_of_value d.value) (places_of_declarators more semicolon) p (later h))

declarators_apart : (all : List Trees.InitDeclarator) (semicolon at p : ℕ) → Rising at (places_of_declarators all semicolon)
    → IsMade (declared_by all semicolon) p → IsMade (initial_literals all) p → ⊥
declarators_apart [] semicolon at p r h i = h
declarators_apart (d ∷ more) semicolon at p r (inl e) i =
    let own = first_declarator d.declarator semicolon in
    apart at (own ∷ []) (literals_of_value d.value ++ places_of_declarators more semicolon) p r (inl e)
    (by_part (made_in_both (literals_of_value d.value) (initial_literals more) p i))
  where
    by_part : IsMade (literals_of_value d.value) p ⊎ IsMade (initial_literals more) p
        → IsMade (literals_of_value d.value ++ places_of_declarators more semicolon) p
    by_part (inl h) = made_left (literals_of_value d.value) (places_of_declarators more semicolon) p h
    by_part (inr h) = made_right (literals_of_value d.value) (places_of_declarators more semicolon) p (literals_there more semicolon p h)
declarators_apart (d ∷ more) semicolon at p r (inr h) i =
    by_part (made_in_both (literals_of_value d.value) (initial_literals more) p i) (λ to r i. declarators_apart more semicolon to p r h i)
  where
    by_part : IsMade (literals_of_value d.value) p ⊎ IsMade (initial_literals more) p
        → ((to : ℕ) → Rising to (places_of_declarators more semicolon) → IsMade (initial_literals more) p → ⊥) → ⊥
    by_part (inl i) later =
        apart (first_declarator d.declarator semicolon + 1) (literals_of_value d.value) (places_of_declarators more semicolon) p r.1 i
        (declarators_there more semicolon p h)
    by_part (inr i) later =
        let b = passed (first_declarator d.declarator semicolon + 1) (literals_of_value d.value) (places_of_declarators more semicolon) r.1 in
        later b.to b.rest i

-- ---- items

declared_there : (item : Trees.Item) (p : ℕ) → IsMade (declared_by_item item) p → IsMade (places_of_item item) p
declared_there (Trees.defines specs d left items right) p h = absurd h
declared_there (Trees.declaration d) p h = declarators_there d.all d.semicolon p h

made_there : (item : Trees.Item) (p : ℕ) → IsMade (made_by_file_item item) p → IsMade (places_of_item item) p
made_there (Trees.defines specs d left items right) p h = inr h
made_there (Trees.declaration d) p h = literals_there d.all d.semicolon p h

item_apart : (item : Trees.Item) (at p : ℕ) → Rising at (places_of_item item) → IsMade (declared_by_item item) p → IsMade (made_by_file_item item) p → ⊥
item_apart (Trees.defines specs d left items right) at p r h i = h
item_apart (Trees.declaration d) at p r h i = declarators_apart d.all d.semicolon at p r h i

all_declared_there : (items : List Trees.Item) (p : ℕ) → IsMade (declared_by_file items) p → IsMade (places_of_file items) p
all_declared_there [] p h = h
all_declared_there (item ∷ more) p h = by_part (made_in_both (declared_by_item item) (declared_by_file more) p h) (λ h. all_declared_there more p h)
  where
    by_part : IsMade (declared_by_item item) p ⊎ IsMade (declared_by_file more) p → (IsMade (declared_by_file more) p → IsMade (places_of_file more) p)
        → IsMade (places_of_file (item ∷ more)) p
    by_part (inl h) later = inr (made_left (places_of_item item) (places_of_file more) p (declared_there item p h))
    by_part (inr h) later = inr (made_right (places_of_item item) (places_of_file more) p (later h))

all_made_there : (items : List Trees.Item) (p : ℕ) → IsMade (made_by_file items) p → IsMade (places_of_file items) p
all_made_there [] p h = h
all_made_there (item ∷ more) p h = by_part (made_in_both (made_by_file_item item) (made_by_file more) p h) (λ h. all_made_there more p h)
  where
    by_part : IsMade (made_by_file_item item) p ⊎ IsMade (made_by_file more) p → (IsMade (made_by_file more) p → IsMade (places_of_file more) p)
        → IsMade (places_of_file (item ∷ more)) p
    by_part (inl h) later = inr (made_left (places_of_item item) (places_of_file more) p (made_there item p h))
    by_part (inr h) later = inr (made_right (places_of_item item) (places_of_file more) p (later h))

pub none_made : (items : List Trees.Item) (at p : ℕ) → Rising at (places_of_file items) → IsMade (declared_by_file items) p → IsMade (made_by_file items) p → ⊥
none_made [] at p r h i = h
none_made (item ∷ more) at p r h i =
    by_parts (made_in_both (declared_by_item item) (declared_by_file more) p h) (made_in_both (made_by_file_item item) (made_by_file more) p i)
    (λ to r h i. none_made more to p r h i)
  where
    by_parts : IsMade (declared_by_item item) p ⊎ IsMade (declared_by_file more) p → IsMade (made_by_file_item item) p ⊎ IsMade (made_by_file more) p
        → ((to : ℕ) → Rising to (places_of_file more) → IsMade (declared_by_file more) p → IsMade (made_by_file more) p → ⊥) → ⊥
    by_parts (inl h) (inl i) later =
        item_apart item (first_item item + 1) p (rising_front (first_item item + 1) (places_of_item item) (places_of_file more) r.1) h i
    by_parts (inl h) (inr i) later =
        apart (first_item item + 1) (places_of_item item) (places_of_file more) p r.1 (declared_there item p h) (all_made_there more p i)
    by_parts (inr h) (inl i) later =
        apart (first_item item + 1) (places_of_item item) (places_of_file more) p r.1 (made_there item p i) (all_declared_there more p h)
    by_parts (inr h) (inr i) later =
        let b = passed (first_item item + 1) (places_of_item item) (places_of_file more) r.1 in later b.to b.rest h i
