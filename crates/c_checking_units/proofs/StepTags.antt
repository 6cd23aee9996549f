-- Tags of an annotated file: that of an enumeration stands nowhere else, and that of a structure is none of an enumeration (C99 6.7.2.3).
use Rattle.std.proofs.Common.{◌≡◌, ◌≢◌, ℕ, zero, suc, Bool, true, false, refl, sym, ap, ◌∙◌, subst, cond, List, [], ◌∷◌, inl, inr}
use Rattle.std.proofs.lemmas.Bool.{and_parts}
use Rattle.std.specs.Prelude.{◌⊎◌, Some, None, slice_get, nat_lt, ◌&&◌, ◌||◌}
use Rattle.std.specs.List.{AllByRecursion}
use Rattle.std.specs.Str.{bytes_eq}
use Rattle.c_ast.specs.Trees
use Rattle.c_erasure.specs.Files.{AreConsistentTags, IsFileOf}
use Rattle.c_erasure.specs.Marks.{firsts, is_among, tags_in, marks_of_file}
use Rattle.c_erasure.specs.Scopes.{Tag, tag_at, or_else, FileScope}
use Rattle.c_erasure.specs.Checking.Declaring.{tag_named}
use Rattle.c_checking_laws.proofs.CompleteWalk.{IsTagOf}
use Rattle.c_checking_laws.proofs.NodesOfParts.{same_bytes}
use Rattle.c_checking_laws.proofs.WholeFiles.Names.{names_equal, all_at}
use Rattle.c_checking_units.proofs.StepLists.{AreTagged}

-- ---- the first tag of a name

tag_named_is : (all : List Tag) (x : List ℕ) (w : Tag) → tag_named all x ≡ Some w → (k : ℕ) × (slice_get all k ≡ Some w) × (w.name ≡ x)
tag_named_is [] x w h = cc
tag_named_is (t ∷ all) x w h = by_test (bytes_eq t.name x) refl (λ h. tag_named_is all x w h) h
  where
    by_test : (b : Bool) → bytes_eq t.name x ≡ b → (tag_named all x ≡ Some w → (k : ℕ) × (slice_get all k ≡ Some w) × (w.name ≡ x))
        → cond b (Some t) (tag_named all x) ≡ Some w → (k : ℕ) × (slice_get (t ∷ all) k ≡ Some w) × (w.name ≡ x)
    by_test true e later h = let same : t ≡ w = cc in (0, ap Some same, subst (λ (w : Tag). w.name ≡ x) same (same_bytes t.name x e))
    by_test false e later h = let r = later h in (suc r.0, r.1, r.2)

named_some : (all : List Tag) (x : List ℕ) (k : ℕ) (t : Tag) → slice_get all k ≡ Some t → t.name ≡ x → (w : Tag) × (tag_named all x ≡ Some w)
named_some [] x k t e n = cc
named_some (s ∷ all) x k t e n = by_test (bytes_eq s.name x) refl k e (λ k e. named_some all x k t e n)
  where
    by_test : (b : Bool) → bytes_eq s.name x ≡ b → (k : ℕ) → slice_get (s ∷ all) k ≡ Some t
        → ((k : ℕ) → slice_get all k ≡ Some t → (w : Tag) × (tag_named all x ≡ Some w)) → (w : Tag) × (cond b (Some s) (tag_named all x) ≡ Some w)
    by_test true f k e later = (s, refl)
    by_test false f (suc k) e later = later k e
    by_test false f zero e later =
        let here : s ≡ t = cc in
        let g = names_equal s.name x (ap (λ (s : Tag). s.name) here ∙ n) in
        let false_is_true = sym f ∙ g in
        cc

not_among_more : (known : List (List ℕ)) (y x : List ℕ) → y ≢ x → is_among known x ≡ false → is_among (y ∷ known) x ≡ false
not_among_more known y x n h = by_test (bytes_eq x y) refl
  where
    by_test : (b : Bool) → bytes_eq x y ≡ b → (bytes_eq x y || is_among known x) ≡ false
    by_test true e = absurd (n (sym (same_bytes x y e)))
    by_test false e = ap (λ b. b || is_among known x) e ∙ h

firsts_keep : (all : List Tag) (known : List (List ℕ)) (x : List ℕ) → is_among known x ≡ false → tag_named (firsts known all) x ≡ tag_named all x
firsts_keep [] known x h = refl
firsts_keep (t ∷ all) known x h =
    by_test (is_among known t.name) (bytes_eq t.name x) refl refl (λ known h. firsts_keep all known x h)
  where
    by_test : (a b : Bool) → is_among known t.name ≡ a → bytes_eq t.name x ≡ b
        → ((known : List (List ℕ)) → is_among known x ≡ false → tag_named (firsts known all) x ≡ tag_named all x)
        → tag_named (cond a (firsts known all) (t ∷ firsts (t.name ∷ known) all)) x ≡ cond b (Some t) (tag_named all x)
    by_test true true e f later =
        let g : is_among known t.name ≡ false = subst (λ y. is_among known y ≡ false) (sym (same_bytes t.name x f)) h in
        let true_is_false = sym e ∙ g in
        cc
    by_test true false e f later = later known h
    by_test false true e f later = ap (λ b. cond b (Some t) (tag_named (firsts (t.name ∷ known) all) x)) f
    by_test false false e f later =
        ap (λ b. cond b (Some t) (tag_named (firsts (t.name ∷ known) all) x)) f
        ∙ later (t.name ∷ known) (not_among_more known t.name x (λ g. let n = names_equal t.name x g in let true_is_false = sym n ∙ f in cc) h)

firsts_among : (known : List (List ℕ)) (all : List Tag) (k : ℕ) (u : Tag) → slice_get (firsts known all) k ≡ Some u → (j : ℕ) × (slice_get all j ≡ Some u)
firsts_among known [] k u e = cc
firsts_among known (t ∷ all) k u e = by_test (is_among known t.name) k e (λ known k e. firsts_among known all k u e)
  where
    by_test : (b : Bool) → (k : ℕ) → slice_get (cond b (firsts known all) (t ∷ firsts (t.name ∷ known) all)) k ≡ Some u
        → ((known : List (List ℕ)) (k : ℕ) → slice_get (firsts known all) k ≡ Some u → (j : ℕ) × (slice_get all j ≡ Some u))
        → (j : ℕ) × (slice_get (t ∷ all) j ≡ Some u)
    by_test true k e later = let r = later known k e in (suc r.0, r.1)
    by_test false zero e later = (0, e)
    by_test false (suc k) e later = let r = later (t.name ∷ known) k e in (suc r.0, r.1)

-- a tag that is one of an enumeration
enumeration_at : (all : List Tag) (x : List ℕ) (at : ℕ) → tag_at all x at ≡ Some true
    → (k : ℕ) × (u : Tag) × (slice_get all k ≡ Some u) × (u.name ≡ x) × (u.is_enumeration ≡ true)
enumeration_at [] x at h = cc
enumeration_at (t ∷ all) x at h = by_test (bytes_eq t.name x && nat_lt t.from at) refl h (λ h. enumeration_at all x at h)
  where
    by_test : (b : Bool) → (bytes_eq t.name x && nat_lt t.from at) ≡ b → or_else (cond b (Some t.is_enumeration) None) (tag_at all x at) ≡ Some true
        → (tag_at all x at ≡ Some true → (k : ℕ) × (u : Tag) × (slice_get all k ≡ Some u) × (u.name ≡ x) × (u.is_enumeration ≡ true))
        → (k : ℕ) × (u : Tag) × (slice_get (t ∷ all) k ≡ Some u) × (u.name ≡ x) × (u.is_enumeration ≡ true)
    by_test true e h later =
        let is : t.is_enumeration ≡ true = cc in
        (0, t, refl, same_bytes t.name x (and_parts (bytes_eq t.name x) (nat_lt t.from at) e).0, is)
    by_test false e h later = let r = later h in (suc r.0, r.1, r.2, r.3, r.4)

-- ---- consistent tags

consistent_at : (all : List Tag) → AreConsistentTags all → (j k : ℕ) (t u : Tag) → slice_get all j ≡ Some t → slice_get all k ≡ Some u → t.name ≡ u.name
    → (t ≡ u) ⊎ ((t.is_enumeration ≡ false) × (u.is_enumeration ≡ false))
consistent_at [] h j k t u e f n = cc
consistent_at (s ∷ all) h zero zero t u e f n = let same : t ≡ u = cc in inl same
consistent_at (s ∷ all) h zero (suc k) t u e f n =
    let same : s ≡ t = cc in
    let z = all_at (λ (u : Tag). u.name ≡ s.name → (u.is_enumeration ≡ false) × (s.is_enumeration ≡ false)) all h.0 k u f
    (sym n ∙ sym (ap (λ (s : Tag). s.name) same)) in
    inr (subst (λ (s : Tag). s.is_enumeration ≡ false) same z.1, z.0)
consistent_at (s ∷ all) h (suc j) zero t u e f n =
    let same : s ≡ u = cc in
    let z = all_at (λ (u : Tag). u.name ≡ s.name → (u.is_enumeration ≡ false) × (s.is_enumeration ≡ false)) all h.0 j t e
    (n ∙ sym (ap (λ (s : Tag). s.name) same)) in
    inr (z.0, subst (λ (s : Tag). s.is_enumeration ≡ false) same z.1)
consistent_at (s ∷ all) h (suc j) (suc k) t u e f n = consistent_at all h.1 j k t u e f n

from_slices : (P : Tag → Type 0) (all : List Tag) → ((k : ℕ) (t : Tag) → slice_get all k ≡ Some t → P t) → AllByRecursion P all
from_slices P [] h = tt
from_slices P (t ∷ all) h = (h 0 t refl, from_slices P all (λ k u e. h (suc k) u e))

both_ways : {A : Type 0} (b : Bool) → b ≡ true → b ≡ false → A
both_ways true e f = cc
both_ways false e f = cc

module _ (g : FileScope) (all : List Tag) (tags : g.tags ≡ firsts [] all) (c : AreConsistentTags all) where
  tagged : (k : ℕ) (t : Tag) → slice_get all k ≡ Some t → (b : Bool) → t.is_enumeration ≡ b → IsTagOf g t b
  tagged k t e true is =
      let z = named_some all t.name k t e refl in
      let d = tag_named_is all t.name z.0 z.1 in
      ap (λ all. tag_named all t.name) tags ∙ firsts_keep all [] t.name refl ∙ z.1
      ∙ ap Some (by_kind z.0 (consistent_at all c d.0 k z.0 t d.1 e d.2))
    where
      by_kind : (w : Tag) → (w ≡ t) ⊎ ((w.is_enumeration ≡ false) × (t.is_enumeration ≡ false)) → w ≡ t
      by_kind w (inl s) = s
      by_kind w (inr s) = both_ways t.is_enumeration is s.1
  tagged k t e false is = λ at h.
      let z = enumeration_at (firsts [] all) t.name at (ap (λ all. tag_at all t.name at) (sym tags) ∙ h) in
      let d = firsts_among [] all z.0 z.1 z.2 in
      by_kind z.1 z.4 (consistent_at all c d.0 k z.1 t d.1 e z.3)
    where
      by_kind : (u : Tag) → u.is_enumeration ≡ true → (u ≡ t) ⊎ ((u.is_enumeration ≡ false) × (t.is_enumeration ≡ false)) → ⊥
      by_kind u f (inl s) = both_ways t.is_enumeration (sym (ap (λ (u : Tag). u.is_enumeration) s) ∙ f) is
      by_kind u f (inr s) = both_ways u.is_enumeration f s.0

  all_tagged : AreTagged g all
  all_tagged = from_slices (λ (t : Tag). IsTagOf g t t.is_enumeration) all (λ k t e. tagged k t e t.is_enumeration refl)

pub tags_fit : (g : FileScope) (items : List Trees.Item) → IsFileOf items g → AreTagged g (tags_in (marks_of_file g.untagged items))
tags_fit g items h = all_tagged g (tags_in (marks_of_file g.untagged items)) h.tags h.consistent_tags
