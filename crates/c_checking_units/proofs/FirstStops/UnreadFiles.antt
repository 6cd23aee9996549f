-- The file that is not read yet is prepared for the items of a text: tags are in order, each structure has a number, and definitions end one after
-- the other.
use Rattle.std.proofs.Common.{◌≡◌, ℕ, zero, suc, ◌+◌, ◌<◌, ◌≤◌, Bool, true, false, refl, sym, ap, ◌∙◌, subst, cond, List, [], ◌∷◌, ◌++◌, length, arith}
use Rattle.std.proofs.Common.{inl, inr}
use Rattle.std.proofs.lemmas.Slice.Eq.{bytes_eq-Decides}
use Rattle.std.specs.Prelude.{◌⊎◌, map, Some, slice_get, not, filter, ◌||◌}
use Rattle.std.specs.Str.{bytes_eq}
use Rattle.c_ast.specs.Trees
use Rattle.c_erasure.specs.Files.{AreAscending}
use Rattle.c_erasure.specs.Marks.{Mark, firsts, is_among, tags_in, ends_in, defined_in, undefined_in, scope_beginnings, marks_of_file}
use Rattle.c_erasure.specs.Scopes.{Tag, FileScope}
use Rattle.c_erasure.specs.Checking.Declaring.{number_among, next}
use Rattle.c_erasure.specs.Checking.Files.{unread}
use Rattle.c_checking_laws.proofs.Extends.{kept, behind}
use Rattle.c_checking_laws.proofs.FaultDeclaring.{IsOrderly}
use Rattle.c_checking_laws.proofs.FaultPremises.{IsPrepared}
use Rattle.c_checking_laws.proofs.NodesOfParts.{same_bytes}
use Rattle.c_checking_laws.specs.TextOrder.TextOrder.{IsTagBefore, AreTagsInOrder}
use Rattle.c_checking_laws.proofs.WholeFiles.Names.{all_at}
use Rattle.c_checking_laws.proofs.WholeFiles.SoundFiles.{AreFitItems, ascending_at, start_may}

-- ---- the first tag of each name

first_stands : (all : List Tag) (known : List (List ℕ)) (k : ℕ) (t : Tag) → slice_get (firsts known all) k ≡ Some t
    → (j : ℕ) × (slice_get all j ≡ Some t)
first_stands [] known k t h = cc
first_stands (s ∷ all) known k t h = by_test (is_among known s.name) k h (λ known k h. first_stands all known k t h)
  where
    by_test : (b : Bool) (k : ℕ) → slice_get (cond b (firsts known all) (s ∷ firsts (s.name ∷ known) all)) k ≡ Some t
        → ((known : List (List ℕ)) (k : ℕ) → slice_get (firsts known all) k ≡ Some t → (j : ℕ) × (slice_get all j ≡ Some t))
        → (j : ℕ) × (slice_get (s ∷ all) j ≡ Some t)
    by_test true k h later = let r = later known k h in (suc r.0, r.1)
    by_test false zero h later = (zero, h)
    by_test false (suc k) h later = let r = later (s.name ∷ known) k h in (suc r.0, r.1)

-- they keep their order
firsts_ascend : (all : List Tag) (known : List (List ℕ)) → AreTagsInOrder all → (j k : ℕ) (t u : Tag) → j < k
    → slice_get (firsts known all) j ≡ Some t → slice_get (firsts known all) k ≡ Some u → t.from ≤ u.from
firsts_ascend [] known o j k t u l a b = cc
firsts_ascend (s ∷ all) known o j k t u l a b =
    by_test (is_among known s.name) j k l a b (λ known j k l a b. firsts_ascend all known o.1 j k t u l a b)
  where
    by_test : (c : Bool) (j k : ℕ) → j < k → slice_get (cond c (firsts known all) (s ∷ firsts (s.name ∷ known) all)) j ≡ Some t
        → slice_get (cond c (firsts known all) (s ∷ firsts (s.name ∷ known) all)) k ≡ Some u
        → ((known : List (List ℕ)) (j k : ℕ) → j < k → slice_get (firsts known all) j ≡ Some t → slice_get (firsts known all) k ≡ Some u
        → t.from ≤ u.from) → t.from ≤ u.from
    by_test true j k l a b later = later known j k l a b
    by_test false j zero l a b later = absurd (omega (arith, l))
    by_test false zero (suc k) l a b later =
        let r = first_stands all (s.name ∷ known) k u b in
        let same : s ≡ t = cc in
        let before = (all_at (IsTagBefore s) all o.0 r.0 u r.1).from in
        subst (λ (t : Tag). t.from ≤ u.from) same (omega (arith, before))
    by_test false (suc j) (suc k) l a b later = later (s.name ∷ known) j k (omega (arith, l)) a b

-- ---- numbers of structures

has_number : (all : List (List ℕ)) (x : List ℕ) (n : ℕ) → slice_get all n ≡ Some x → (r : ℕ) × (number_among all x ≡ Some r)
has_number [] x n h = cc
has_number (t ∷ more) x zero h =
    let e : t ≡ x = cc in
    (0, ap (λ b. cond b (Some 0) (next (number_among more x))) ((bytes_eq-Decides t x).1 e))
has_number (t ∷ more) x (suc n) h = by_test (bytes_eq t x) (has_number more x n h)
  where
    by_test : (b : Bool) → (r : ℕ) × (number_among more x ≡ Some r) → (r : ℕ) × (cond b (Some 0) (next (number_among more x)) ≡ Some r)
    by_test true r = (0, refl)
    by_test false r = (r.0 + 1, ap next r.1)

among_at : (all : List (List ℕ)) (x : List ℕ) → is_among all x ≡ true → (n : ℕ) × (slice_get all n ≡ Some x)
among_at [] x h = cc
among_at (y ∷ all) x h = by_test (bytes_eq x y) refl h (λ h. among_at all x h)
  where
    by_test : (b : Bool) → bytes_eq x y ≡ b → (b || is_among all x) ≡ true → (is_among all x ≡ true → (n : ℕ) × (slice_get all n ≡ Some x))
        → (n : ℕ) × (slice_get (y ∷ all) n ≡ Some x)
    by_test true e h later = (0, ap (λ x. Some x) (sym (same_bytes x y e)))
    by_test false e h later = let r = later h in (suc r.0, r.1)

abbrev names_of : List Tag → List (List ℕ)
names_of all = map (λ t. t.name) all

abbrev Stands : List (List ℕ) → List ℕ → Type 0
Stands all x = (n : ℕ) × (slice_get all n ≡ Some x)

-- a tag's name is among the known ones, or among the first ones of the others
name_stands : (all : List Tag) (known : List (List ℕ)) (k : ℕ) (t : Tag) → slice_get all k ≡ Some t
    → Stands known t.name ⊎ Stands (names_of (firsts known all)) t.name
name_stands [] known k t h = cc
name_stands (s ∷ all) known k t h = by_test (is_among known s.name) refl k h (λ known k h. name_stands all known k t h)
  where
    here : slice_get (s ∷ all) zero ≡ Some t → s.name ≡ t.name
    here h = let same : s ≡ t = cc in ap (λ (t : Tag). t.name) same

    one_more : Stands (s.name ∷ known) t.name ⊎ Stands (names_of (firsts (s.name ∷ known) all)) t.name
        → Stands known t.name ⊎ Stands (names_of (s ∷ firsts (s.name ∷ known) all)) t.name
    one_more (inl (zero, e)) = inr (zero, e)
    one_more (inl (suc n, e)) = inl (n, e)
    one_more (inr r) = inr (suc r.0, r.1)

    by_test : (b : Bool) → is_among known s.name ≡ b → (k : ℕ) → slice_get (s ∷ all) k ≡ Some t
        → ((known : List (List ℕ)) (k : ℕ) → slice_get all k ≡ Some t → Stands known t.name ⊎ Stands (names_of (firsts known all)) t.name)
        → Stands known t.name ⊎ Stands (names_of (cond b (firsts known all) (s ∷ firsts (s.name ∷ known) all))) t.name
    by_test true e zero h later = inl (subst (Stands known) (here h) (among_at known s.name e))
    by_test true e (suc k) h later = later known k h
    by_test false e zero h later = inr (zero, ap (λ x. Some x) (here h))
    by_test false e (suc k) h later = one_more (later (s.name ∷ known) k h)

passes : (P : Tag → Bool) (all : List Tag) (k : ℕ) (t : Tag) → slice_get all k ≡ Some t → P t ≡ true → (j : ℕ) × (slice_get (filter P all) j ≡ Some t)
passes P [] k t h p = cc
passes P (s ∷ all) k t h p = by_test (P s) refl k h (λ k h. passes P all k t h p)
  where
    by_test : (b : Bool) → P s ≡ b → (k : ℕ) → slice_get (s ∷ all) k ≡ Some t
        → ((k : ℕ) → slice_get all k ≡ Some t → (j : ℕ) × (slice_get (filter P all) j ≡ Some t))
        → (j : ℕ) × (slice_get (cond b (s ∷ filter P all) (filter P all)) j ≡ Some t)
    by_test true e zero h later = (zero, h)
    by_test true e (suc k) h later = let r = later k h in (suc r.0, r.1)
    by_test false e zero h later =
        let same : s ≡ t = cc in
        let true_is_false : true ≡ false = sym p ∙ ap P (sym same) ∙ e in
        cc
    by_test false e (suc k) h later = later k h

-- each structure that is named has a number
pub structure_numbered : (all : List Mark) (k : ℕ) (t : Tag) → slice_get (tags_in all) k ≡ Some t → t.is_enumeration ≡ false
    → (r : ℕ) × (number_among (defined_in all ++ undefined_in all) t.name ≡ Some r)
structure_numbered all k t h e = by_part (name_stands structures (defined_in all) p.0 t p.1)
  where
    structures : List Tag
    structures = filter (λ t. not t.is_enumeration) (tags_in all)

    p : (j : ℕ) × (slice_get structures j ≡ Some t)
    p = passes (λ t. not t.is_enumeration) (tags_in all) k t h (ap not e)

    by_part : Stands (defined_in all) t.name ⊎ Stands (names_of (firsts (defined_in all) structures)) t.name
        → (r : ℕ) × (number_among (defined_in all ++ undefined_in all) t.name ≡ Some r)
    by_part (inl n) = has_number (defined_in all ++ undefined_in all) t.name n.0 (kept (defined_in all) (undefined_in all) n.0 t.name n.1)
    by_part (inr n) =
        let m : ℕ = length (defined_in all) + n.0 in
        has_number (defined_in all ++ undefined_in all) t.name m (behind (defined_in all) (undefined_in all) n.0 m t.name refl n.1)

-- ---- the whole file

module _ (file : ℕ) (untagged : ℕ → List ℕ) (items : List Trees.Item) (fit : AreFitItems untagged items)
    (ends_ascend : AreAscending (ends_in (marks_of_file untagged items))) where
  abbrev all : List Mark
  all = marks_of_file untagged items

  abbrev start : FileScope
  start = unread file untagged items

  orderly : IsOrderly start
  orderly = record {
    tags_ascend = λ j k t u l a b. firsts_ascend (tags_in all) [] fit.order.tags j k t u l a b;
    tags_numbered = λ k t h e. let n = first_stands (tags_in all) [] k t h in structure_numbered all n.0 t n.1 e;
    ends_ascend = λ j k a b l c d. ascending_at (ends_in all) ends_ascend j k a b l c d;
  }

  pub unread_prepared : IsPrepared untagged (ends_in all) start [] [] false all
  unread_prepared = record {
    ready = (start_may file untagged items fit).ready;
    ends_are = refl;
    untagged_are = refl;
    steady = record { tagged = λ k r h. cc; fields = λ k j r x h. cc; objects = λ n t h. cc };
    orderly = orderly;
    locals_are = λ k t h. cc;
    tags_numbered = λ i j t h e. structure_numbered all j t h e;
    numbers_stand = λ i j tag h.
        subst (λ n. slice_get start.numbered n ≡ Some tag) (let z : j ≡ 0 + j = omega arith in z) (kept (defined_in all) (undefined_in all) j tag h);
    begun = λ i j from h k b e. cc;
    ascending = λ i j k a b l c d. ascending_at (scope_beginnings all) fit.beginnings j k a b l c d;
  }
