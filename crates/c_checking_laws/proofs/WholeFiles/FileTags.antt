-- Tags of a file: where each is fit, one name is one structure or one enumeration (C99 6.7.2.3).
use Rattle.std.proofs.Common.{◌≡◌, ◌≢◌, ℕ, zero, suc, ◌+◌, ◌<◌, Bool, true, false, refl, sym, ap, ◌∙◌, subst, cond, List, [], ◌∷◌, ◌++◌, length, arith}
use Rattle.std.proofs.Common.{inl, inr, append_assoc}
use Rattle.std.proofs.lemmas.Bool.{and_from, lt-ltb}
use Rattle.std.proofs.lemmas.List.Elements.{All-cons, All-nil}
use Rattle.std.specs.Prelude.{◌⊎◌, All, Some, None, slice_get, nat_lt, ◌&&◌, ◌||◌}
use Rattle.std.specs.Str.{bytes_eq}
use Rattle.c_erasure.specs.Files.{AreConsistentTags}
use Rattle.c_erasure.specs.Marks.{firsts, is_among}
use Rattle.c_erasure.specs.Scopes.{Tag, tag_at, or_else}
use Rattle.c_erasure.specs.Checking.Declaring.{tag_named}
use Rattle.c_checking_laws.proofs.NodesOfParts.{same_bytes}
use Rattle.c_checking_laws.proofs.WholeFiles.Kept.{IsTagFit, AreTagsFit}
use Rattle.c_checking_laws.specs.TextOrder.TextOrder.{IsTagBefore, AreTagsInOrder}
use Rattle.c_checking_laws.proofs.WholeFiles.Names.{names_equal, all_at}

-- ---- the first tag of a name

tag_named_is : (all : List Tag) (x : List ℕ) (w : Tag) → tag_named all x ≡ Some w → (k : ℕ) × (slice_get all k ≡ Some w) × (w.name ≡ x)
tag_named_is [] x w h = cc
tag_named_is (t ∷ all) x w h = by_test (bytes_eq t.name x) refl (λ h. tag_named_is all x w h) h
  where
    by_test : (b : Bool) → bytes_eq t.name x ≡ b → (tag_named all x ≡ Some w → (k : ℕ) × (slice_get all k ≡ Some w) × (w.name ≡ x))
        → cond b (Some t) (tag_named all x) ≡ Some w → (k : ℕ) × (slice_get (t ∷ all) k ≡ Some w) × (w.name ≡ x)
    by_test true e later h = let same : t ≡ w = cc in (0, ap Some same, subst (λ (w : Tag). w.name ≡ x) same (same_bytes t.name x e))
    by_test false e later h = let r = later h in (suc r.0, r.1, r.2)

-- whether a name is among others
not_among_more : (known : List (List ℕ)) (y x : List ℕ) → y ≢ x → is_among known x ≡ false → is_among (y ∷ known) x ≡ false
not_among_more known y x n h = by_test (bytes_eq x y) refl
  where
    by_test : (b : Bool) → bytes_eq x y ≡ b → (bytes_eq x y || is_among known x) ≡ false
    by_test true e = absurd (n (sym (same_bytes x y e)))
    by_test false e = ap (λ b. b || is_among known x) e ∙ h

firsts_keep : (all : List Tag) (known : List (List ℕ)) (x : List ℕ) → is_among known x ≡ false → tag_named (firsts known all) x ≡ tag_named all x
firsts_keep [] known x h = refl
firsts_keep (t ∷ all) known x h =
    by_test (is_among known t.name) (bytes_eq t.name x) refl refl (λ known h. firsts_keep all known x h)
  where
    by_test : (a b : Bool) → is_among known t.name ≡ a → bytes_eq t.name x ≡ b
        → ((known : List (List ℕ)) → is_among known x ≡ false → tag_named (firsts known all) x ≡ tag_named all x)
        → tag_named (cond a (firsts known all) (t ∷ firsts (t.name ∷ known) all)) x ≡ cond b (Some t) (tag_named all x)
    by_test true true e f later =
        let g : is_among known t.name ≡ false = subst (λ y. is_among known y ≡ false) (sym (same_bytes t.name x f)) h in
        let true_is_false = sym e ∙ g in
        cc
    by_test true false e f later = later known h
    by_test false true e f later = ap (λ b. cond b (Some t) (tag_named (firsts (t.name ∷ known) all) x)) f
    by_test false false e f later =
        ap (λ b. cond b (Some t) (tag_named (firsts (t.name ∷ known) all) x)) f
        ∙ later (t.name ∷ known) (not_among_more known t.name x (λ g. let n = names_equal t.name x g in let true_is_false = sym n ∙ f in cc) h)

seen_at : (all : List Tag) (x : List ℕ) (at : ℕ) (w : Tag) → tag_named all x ≡ Some w → w.from < at → tag_at all x at ≡ Some w.is_enumeration
seen_at [] x at w h l = cc
seen_at (t ∷ all) x at w h l = by_test (bytes_eq t.name x) refl (λ h. seen_at all x at w h l) h
  where
    by_test : (b : Bool) → bytes_eq t.name x ≡ b → (tag_named all x ≡ Some w → tag_at all x at ≡ Some w.is_enumeration)
        → cond b (Some t) (tag_named all x) ≡ Some w
        → or_else (cond (bytes_eq t.name x && nat_lt t.from at) (Some t.is_enumeration) None) (tag_at all x at) ≡ Some w.is_enumeration
    by_test true e later h =
        let same : t ≡ w = cc in
        let test : (bytes_eq t.name x && nat_lt t.from at) ≡ true =
        and_from (bytes_eq t.name x) (nat_lt t.from at) e (lt-ltb t.from at (let f = ap (λ (t : Tag). t.from) same in omega (arith, f, l))) in
        ap (λ c. or_else (cond c (Some t.is_enumeration) None) (tag_at all x at)) test ∙ ap (λ (t : Tag). Some t.is_enumeration) same
    by_test false e later h =
        ap (λ c. or_else (cond (c && nat_lt t.from at) (Some t.is_enumeration) None) (tag_at all x at)) e ∙ later h

named_some : (all : List Tag) (x : List ℕ) (k : ℕ) (t : Tag) → slice_get all k ≡ Some t → t.name ≡ x → (w : Tag) × (tag_named all x ≡ Some w)
named_some [] x k t e n = cc
named_some (s ∷ all) x k t e n = by_test (bytes_eq s.name x) refl k e (λ k e. named_some all x k t e n)
  where
    by_test : (b : Bool) → bytes_eq s.name x ≡ b → (k : ℕ) → slice_get (s ∷ all) k ≡ Some t
        → ((k : ℕ) → slice_get all k ≡ Some t → (w : Tag) × (tag_named all x ≡ Some w)) → (w : Tag) × (cond b (Some s) (tag_named all x) ≡ Some w)
    by_test true f k e later = (s, refl)
    by_test false f (suc k) e later = later k e
    by_test false f zero e later =
        let here : s ≡ t = cc in
        let g = names_equal s.name x (ap (λ (s : Tag). s.name) here ∙ n) in
        let false_is_true = sym f ∙ g in
        cc

-- ---- order, by numbers

pub in_order : (all : List Tag) → AreTagsInOrder all → (j k : ℕ) (t u : Tag) → slice_get all j ≡ Some t → slice_get all k ≡ Some u → j < k → IsTagBefore t u
in_order [] o j k t u e f l = cc
in_order (s ∷ all) o j zero t u e f l = absurd (omega (arith, l))
in_order (s ∷ all) o zero (suc k) t u e f l =
    let same : s ≡ t = cc in subst (λ t. IsTagBefore t u) same (all_at (IsTagBefore s) all o.0 k u f)
in_order (s ∷ all) o (suc j) (suc k) t u e f l = in_order all o.1 j k t u e f (omega (arith, l))

-- the first of a name stands no later than any
first_before : (all : List Tag) (x : List ℕ) (w : Tag) → tag_named all x ≡ Some w → (k : ℕ) (t : Tag) → slice_get all k ≡ Some t → t.name ≡ x
    → (j : ℕ) × (slice_get all j ≡ Some w) × ((j < k) ⊎ ((j ≡ k) × (w ≡ t)))
first_before [] x w h k t e n = cc
first_before (s ∷ all) x w h k t e n = by_test (bytes_eq s.name x) refl h k e (λ h k e. first_before all x w h k t e n)
  where
    by_test : (b : Bool) → bytes_eq s.name x ≡ b → cond b (Some s) (tag_named all x) ≡ Some w → (k : ℕ) → slice_get (s ∷ all) k ≡ Some t
        → (tag_named all x ≡ Some w → (k : ℕ) → slice_get all k ≡ Some t
        → (j : ℕ) × (slice_get all j ≡ Some w) × ((j < k) ⊎ ((j ≡ k) × (w ≡ t))))
        → (j : ℕ) × (slice_get (s ∷ all) j ≡ Some w) × ((j < k) ⊎ ((j ≡ k) × (w ≡ t)))
    by_test true f h zero e later =
        let a : s ≡ w = cc in
        let b : s ≡ t = cc in
        (0, ap Some a, inr (refl, sym a ∙ b))
    by_test true f h (suc k) e later = let a : s ≡ w = cc in (0, ap Some a, inl (omega arith))
    by_test false f h zero e later =
        let here : s ≡ t = cc in
        let g = names_equal s.name x (ap (λ (s : Tag). s.name) here ∙ n) in
        let false_is_true = sym f ∙ g in
        cc
    by_test false f h (suc k) e later = let r = later h k e in (suc r.0, r.1, next r.2)
      where
        next : {j : ℕ} → (j < k) ⊎ ((j ≡ k) × (w ≡ t)) → (suc j < suc k) ⊎ ((suc j ≡ suc k) × (w ≡ t))
        next (inl l) = inl (omega (arith, l))
        next (inr l) = inr (ap suc l.0, l.1)

fit_at : (untagged : ℕ → List ℕ) (tags all : List Tag) → AreTagsFit untagged tags all → (k : ℕ) (t : Tag) → slice_get all k ≡ Some t
    → IsTagFit untagged tags t
fit_at untagged tags [] h k t e = cc
fit_at untagged tags (s ∷ all) h zero t e = let same : s ≡ t = cc in subst (IsTagFit untagged tags) same h.0
fit_at untagged tags (s ∷ all) h (suc k) t e = fit_at untagged tags all h.1 k t e

module _ (untagged : ℕ → List ℕ) (all : List Tag) (order : AreTagsInOrder all) (fit : AreTagsFit untagged (firsts [] all) all)
    (spelled : (k : ℕ) (t : Tag) → slice_get all k ≡ Some t → t.is_enumeration ≡ true → (at : ℕ) → t.name ≢ untagged at) where
  -- two of one name are structures
  both_structures : (j k : ℕ) (t u : Tag) → slice_get all j ≡ Some t → slice_get all k ≡ Some u → j < k → u.name ≡ t.name
      → (u.is_enumeration ≡ false) × (t.is_enumeration ≡ false)
  both_structures j k t u e f l n =
      let w = named_some all u.name j t e (sym n) in
      let there = firsts_keep all [] u.name refl ∙ w.1 in
      let b = first_before all u.name w.0 w.1 j t e (sym n) in
      let second = not_second b.0 w.0 b.1 (order_of b.0 b.2) there in
      (second, not_first b.0 w.0 b.1 b.2 there second)
    where
      order_of : (i : ℕ) → {w : Tag} → (i < j) ⊎ ((i ≡ j) × (w ≡ t)) → i < k
      order_of i (inl m) = omega (arith, m, l)
      order_of i (inr m) = let s = m.0 in omega (arith, s, l)

      not_second : (i : ℕ) (w : Tag) → slice_get all i ≡ Some w → i < k → tag_named (firsts [] all) u.name ≡ Some w → u.is_enumeration ≡ false
      not_second i w g m there = by_kind u.is_enumeration refl
        where
          by_kind : (b : Bool) → u.is_enumeration ≡ b → u.is_enumeration ≡ false
          by_kind false is = is
          by_kind true is =
              absurd ((in_order all order i k w u g f m).place ((fit_at untagged (firsts [] all) all fit k u f).enumeration is w there))

      not_first : (i : ℕ) (w : Tag) → slice_get all i ≡ Some w → (i < j) ⊎ ((i ≡ j) × (w ≡ t)) → tag_named (firsts [] all) u.name ≡ Some w
          → u.is_enumeration ≡ false → t.is_enumeration ≡ false
      not_first i w g m there second = by_kind t.is_enumeration refl
        where
          by_structure : t.is_enumeration ≡ true → w ≡ t → (tag_at (firsts [] all) u.name u.from ≢ Some true) ⊎ (u.name ≡ untagged u.place)
              → t.is_enumeration ≡ false
          by_structure is same (inl other) =
              absurd (other (seen_at (firsts [] all) u.name u.from w there
              (subst (λ (w : Tag). w.from < u.from) (sym same) (in_order all order j k t u e f l).from)
              ∙ ap Some (ap (λ (w : Tag). w.is_enumeration) same ∙ is)))
          by_structure is same (inr other) = absurd (spelled j t e is u.place (sym n ∙ other))

          by_order : t.is_enumeration ≡ true → (i < j) ⊎ ((i ≡ j) × (w ≡ t)) → t.is_enumeration ≡ false
          by_order is (inl m) =
              absurd ((in_order all order i j w t g e m).place
              ((fit_at untagged (firsts [] all) all fit j t e).enumeration is w (subst (λ x. tag_named (firsts [] all) x ≡ Some w) n there)))
          by_order is (inr m) = by_structure is m.1 ((fit_at untagged (firsts [] all) all fit k u f).structure second)

          by_kind : (b : Bool) → t.is_enumeration ≡ b → t.is_enumeration ≡ false
          by_kind false is = is
          by_kind true is = by_order is m

  consistent_from : (before rest : List Tag) → all ≡ before ++ rest → AreConsistentTags rest
  consistent_from before [] e = tt
  consistent_from before (t ∷ rest) e = (
    each rest [] refl,
    consistent_from (before ++ t ∷ []) rest (e ∙ sym (append_assoc before (t ∷ []) rest)),
  )
    where
      there : (xs : List Tag) (x : Tag) (ys : List Tag) → slice_get (xs ++ x ∷ ys) (length xs) ≡ Some x
      there [] x ys = refl
      there (z ∷ xs) x ys = there xs x ys

      each : (more between : List Tag) → rest ≡ between ++ more → All (λ u. u.name ≡ t.name → (u.is_enumeration ≡ false) × (t.is_enumeration ≡ false)) more
      each [] between g = All-nil (λ u. u.name ≡ t.name → (u.is_enumeration ≡ false) × (t.is_enumeration ≡ false))
      each (u ∷ more) between g =
          All-cons (λ u. u.name ≡ t.name → (u.is_enumeration ≡ false) × (t.is_enumeration ≡ false)) u more
          (λ n. both_structures (length before) (length (before ++ t ∷ between)) t u
          (subst (λ all. slice_get all (length before) ≡ Some t) (sym e) (there before t rest))
          (subst (λ all. slice_get all (length (before ++ t ∷ between)) ≡ Some u)
          (sym (e ∙ ap (λ r. before ++ t ∷ r) g ∙ sym (append_assoc before (t ∷ between) (u ∷ more))))
          (there (before ++ t ∷ between) u more))
          (let m = Rattle.std.proofs.Common.length-append before (t ∷ between) in omega (arith, m)) n)
          (each more (between ++ u ∷ []) (g ∙ sym (append_assoc between (u ∷ []) more)))

  pub tags_consistent : AreConsistentTags all
  tags_consistent = consistent_from [] all refl
