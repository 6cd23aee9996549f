-- The marks of the objects that are declared tentatively.
use Rattle.std.proofs.Common.{◌≡◌, ℕ, zero, suc, ◌+◌, ◌<◌, ◌≤◌, ◌==◌, Bool, true, false, ◌||◌, ◌&&◌, List, [], ◌∷◌, ◌++◌, map, length, refl, sym, ap, ◌∙◌}
use Rattle.std.proofs.Common.{arith, slice_set}
use Rattle.std.proofs.lemmas.Bool.{eq-eqb, ne_eqb, ltb-true, ltb-false}
use Rattle.std.specs.Prelude.{if◌then◌else◌, nat_lt, slice_get}
use Rattle.std.specs.List.{list_any}
use Rattle.std.proofs.lemmas.List.{length-map}
use Rattle.c_annotated.specs.declared.file.Object.{Object}
use Rattle.c_annotated.specs.FileViews.{object_of}
use Rattle.c_erasure.specs.Scopes.{AnObject, Bound, How, Entity, declares, tentative, defines, an_object}
use Rattle.c_erasure.specs.Checking.Files.{is_tentative, settled, settled_from}
use Rattle.c_externals.specs.Settling.{is_marked, marked, marked_by, marks_from, settled_by, settled_each}

-- objects settled by their marks are settled by the names
pub settled_by_marks : (names : List Bound) (n : ℕ) (all : List AnObject) → settled_each (marks_from names n (length all)) all ≡ settled_from names n all
settled_by_marks names n [] = refl
settled_by_marks names n (o ∷ more) = ap (λ rest. settled names n o ∷ rest) (settled_by_marks names (n + 1) more)

pub all_settled_by_marks : (names : List Bound) (objects : List Object)
    → settled_each (marks_from names 0 (length objects)) (map object_of objects) ≡ settled_from names 0 (map object_of objects)
all_settled_by_marks names objects =
    ap (λ count. settled_each (marks_from names 0 count) (map object_of objects)) (sym (length-map objects object_of)) ∙ settled_by_marks names 0 (map object_of objects)

-- with no declaration there is no mark
pub one_more_unmarked : (n count : ℕ) → marks_from [] n count ++ false ∷ [] ≡ marks_from [] n (suc count)
one_more_unmarked n zero = refl
one_more_unmarked n (suc count) = ap (λ more. false ∷ more) (one_more_unmarked (n + 1) count)

pub settled_last : (marks : List Bool) (all : List AnObject) (o : AnObject)
    → settled_each marks (all ++ o ∷ []) ≡ settled_each marks all ++ settled_by (is_marked (slice_get marks (length all))) o ∷ []
settled_last [] [] o = refl
settled_last [] (x ∷ all) o = ap (λ more. settled_by false x ∷ more) (settled_last [] all o)
settled_last (m ∷ marks) [] o = refl
settled_last (m ∷ marks) (x ∷ all) o = ap (λ more. settled_by m x ∷ more) (settled_last marks all o)

-- ---- one declaration more

either_false : (a : Bool) → (a || false) ≡ a
either_false true = refl
either_false false = refl

any_last : (p : Bound → Bool) (names : List Bound) (b : Bound) → list_any p (names ++ b ∷ []) ≡ (list_any p names || p b)
any_last p [] b = either_false (p b)
any_last p (x ∷ more) b = go (p x) (any_last p more b)
  where
    go : (a : Bool) → list_any p (more ++ b ∷ []) ≡ (list_any p more || p b) → (a || list_any p (more ++ b ∷ [])) ≡ ((a || list_any p more) || p b)
    go true h = refl
    go false h = h

abbrev each_or : (Bool → ℕ → Bool) → ℕ → List Bool → List Bool
each_or f n [] = []
each_or f n (x ∷ more) = f x n ∷ each_or f (n + 1) more

with_last : (names : List Bound) (b : Bound) (n count : ℕ)
    → marks_from (names ++ b ∷ []) n count ≡ each_or (λ x k. x || is_tentative k b) n (marks_from names n count)
with_last names b n zero = refl
with_last names b n (suc count) =
    ap (λ x. x ∷ marks_from (names ++ b ∷ []) (n + 1) count) (any_last (is_tentative n) names b)
    ∙ ap (λ more. (list_any (is_tentative n) names || is_tentative n b) ∷ more) (with_last names b (n + 1) count)

-- a declaration that is no tentative one of an object marks nothing
unmarked : (b : Bound) (n : ℕ) (marks : List Bool) → ((k : ℕ) → is_tentative k b ≡ false) → each_or (λ x k. x || is_tentative k b) n marks ≡ marks
unmarked b n [] h = refl
unmarked b n (x ∷ more) h =
    ap (λ it. (x || it) ∷ each_or (λ y k. y || is_tentative k b) (n + 1) more) (h n)
    ∙ ap (λ it. it ∷ each_or (λ y k. y || is_tentative k b) (n + 1) more) (either_false x)
    ∙ ap (λ rest. x ∷ rest) (unmarked b (n + 1) more h)

-- one that is marks its object, if that is among them
is_later : (n j : ℕ) → (n + 1 + j == n) ≡ false
is_later n j = ne_eqb (n + 1 + j) n (λ e. omega (arith, e))

is_there : (n : ℕ) → (n == n) ≡ true
is_there n = eq-eqb n n refl

before : (n k : ℕ) → (n == n + suc k) ≡ false
before n k = ne_eqb n (n + suc k) (λ e. omega (arith, e))

beyond : (m j : ℕ) (marks : List Bool) (n : ℕ) → n ≡ m + 1 + j → each_or (λ x k. x || (k == m)) n marks ≡ marks
beyond m j [] n h = refl
beyond m j (x ∷ more) n h =
    ap (λ it. (x || it) ∷ each_or (λ y k. y || (k == m)) (n + 1) more) (ap (λ k. k == m) h ∙ is_later m j)
    ∙ ap (λ it. it ∷ each_or (λ y k. y || (k == m)) (n + 1) more) (either_false x)
    ∙ ap (λ rest. x ∷ rest) (beyond m (j + 1) more (n + 1) (omega (arith, h)))

any_true : (a : Bool) → (a || true) ≡ true
any_true true = refl
any_true false = refl

marks_one : (n k m : ℕ) (marks : List Bool) → m ≡ n + k → k < length marks → each_or (λ x i. x || (i == m)) n marks ≡ slice_set marks k true
marks_one n k m [] h l = absurd (omega (arith, l))
marks_one n zero m (x ∷ more) h l =
    ap (λ it. (x || it) ∷ each_or (λ y i. y || (i == m)) (n + 1) more) (ap (λ i. n == i) (let e : m ≡ n = omega (arith, h) in e) ∙ is_there n)
    ∙ ap (λ it. it ∷ each_or (λ y i. y || (i == m)) (n + 1) more) (any_true x)
    ∙ ap (λ rest. true ∷ rest) (beyond m 0 more (n + 1) (omega (arith, h)))
marks_one n (suc k) m (x ∷ more) h l =
    ap (λ it. (x || it) ∷ each_or (λ y i. y || (i == m)) (n + 1) more) (ap (λ i. n == i) h ∙ before n k)
    ∙ ap (λ it. it ∷ each_or (λ y i. y || (i == m)) (n + 1) more) (either_false x)
    ∙ ap (λ rest. x ∷ rest) (marks_one (n + 1) k m more (omega (arith, h)) (omega (arith, l)))

marks_none : (n k m : ℕ) (marks : List Bool) → m ≡ n + k → length marks ≤ k → each_or (λ x i. x || (i == m)) n marks ≡ marks
marks_none n k m [] h l = refl
marks_none n zero m (x ∷ more) h l = absurd (omega (arith, l))
marks_none n (suc k) m (x ∷ more) h l =
    ap (λ it. (x || it) ∷ each_or (λ y i. y || (i == m)) (n + 1) more) (ap (λ i. n == i) h ∙ before n k)
    ∙ ap (λ it. it ∷ each_or (λ y i. y || (i == m)) (n + 1) more) (either_false x)
    ∙ ap (λ rest. x ∷ rest) (marks_none (n + 1) k m more (omega (arith, h)) (omega (arith, l)))

mark_set : (m : ℕ) (marks : List Bool) → each_or (λ x i. x || (i == m)) 0 marks ≡ (if nat_lt m (length marks) then slice_set marks m true else marks)
mark_set m marks = go (nat_lt m (length marks)) refl
  where
    go : (b : Bool) → nat_lt m (length marks) ≡ b → each_or (λ x i. x || (i == m)) 0 marks ≡ (if b then slice_set marks m true else marks)
    go true e = marks_one 0 m m marks (omega arith) (ltb-true m (length marks) e)
    go false e = marks_none 0 m m marks (omega arith) (ltb-false m (length marks) e)

abbrev with_how : Bound → How → Entity → Bound
with_how b how e = record { name = b.name; place = b.place; from = b.from; how = how; entity = e }

same_marks : (p q : ℕ → Bool) (n : ℕ) (marks : List Bool) → ((k : ℕ) → p k ≡ q k) → each_or (λ x k. x || p k) n marks ≡ each_or (λ x k. x || q k) n marks
same_marks p q n [] h = refl
same_marks p q n (x ∷ more) h =
    ap (λ it. (x || it) ∷ each_or (λ y k. y || p k) (n + 1) more) (h n) ∙ ap (λ rest. (x || q n) ∷ rest) (same_marks p q (n + 1) more h)

both_true : (a : Bool) → (a && true) ≡ a
both_true true = refl
both_true false = refl

both_false : (a : Bool) → (a && false) ≡ false
both_false true = refl
both_false false = refl

marks_by : (b : Bound) (how : How) (e : Entity) (marks : List Bool) → each_or (λ x k. x || is_tentative k (with_how b how e)) 0 marks ≡ marked_by how e marks
marks_by b tentative (an_object m t) marks =
    same_marks (λ k. is_tentative k (with_how b tentative (an_object m t))) (λ k. k == m) 0 marks (λ k. both_true (k == m)) ∙ mark_set m marks
marks_by b tentative e marks = unmarked (with_how b tentative e) 0 marks (λ k. refl)
marks_by b declares e marks = unmarked (with_how b declares e) 0 marks (λ k. both_false _)
marks_by b defines e marks = unmarked (with_how b defines e) 0 marks (λ k. both_false _)

pub one_more_declared : (names : List Bound) (b : Bound) (count : ℕ) → marked b (marks_from names 0 count) ≡ marks_from (names ++ b ∷ []) 0 count
one_more_declared names b count = sym (with_last names b 0 count ∙ marks_by b b.how b.entity (marks_from names 0 count))
