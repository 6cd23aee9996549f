-- What a table of tags has at a name.
use Rattle.std.proofs.Common.{◌≡◌, ℕ, List, [], ◌∷◌, ◌++◌, map, Bool, true, false, cond, Option, Some, None, refl, sym, ap, ◌∙◌, subst, ◌||◌}
use Rattle.std.proofs.Common.{if◌then◌else◌, nat_lt, ◌<◌, ◌≤◌}
use Rattle.std.proofs.lemmas.Bool.{lt-ltb, le-ltb}
use Rattle.std.specs.Option.{option_map}
use Rattle.std.specs.Global.{Vec}
use Rattle.std.specs.Map.{lookup}
use Rattle.std.specs.Str.{bytes_eq}
use Rattle.std.proofs.lemmas.Slice.Eq.{bytes_eq-Decides}
use Rattle.indexmap.specs.IndexMap.{insert_entry}
use Rattle.c_erasure.specs.Scopes.{Tag, or_else, tag_at}
use Rattle.c_erasure.specs.Marks.{is_among}
use Rattle.c_scopes.proofs.SyntaxTags.Inserting.{inserted_last}
use Rattle.c_scopes.specs.declared.syntax_tags.table.Known.{Known}
use Rattle.c_scopes.specs.SyntaxTags.Keys.{found_at}
use Rattle.c_scopes.specs.SyntaxTags.Tables.{tag_of_entry, tags_of_entries, AreApart, place_of_tag, with_first}
use Rattle.c_scopes.proofs.SyntaxTags.Numbers.{found_more}

-- ---- equality of bytes

pub same : (a b : List ℕ) → bytes_eq a b ≡ true → a ≡ b
same a b h = (bytes_eq-Decides a b).0 h

pub itself : (a : List ℕ) → bytes_eq a a ≡ true
itself a = (bytes_eq-Decides a a).1 refl

pub flipped : (a b : List ℕ) → bytes_eq a b ≡ bytes_eq b a
flipped a b = by (bytes_eq a b) (bytes_eq b a) refl refl
  where
    by : (x y : Bool) → bytes_eq a b ≡ x → bytes_eq b a ≡ y → x ≡ y
    by true true e f = refl
    by false false e f = refl
    by true false e f = let s : a ≡ b = same a b e in let t : bytes_eq b a ≡ true = subst (λ z. bytes_eq z a ≡ true) s (itself a) in cc
    by false true e f = let s : b ≡ a = same b a f in let t : bytes_eq a b ≡ true = subst (λ z. bytes_eq z b ≡ true) s (itself b) in cc

-- ---- a table

pub missing : (es : List (Vec ℕ × Known)) (x : List ℕ) (at : ℕ) → found_at es x ≡ None → tag_at (tags_of_entries es) x at ≡ None
missing [] x at h = refl
missing (e ∷ es) x at h = by (bytes_eq x e.0.items) refl h (missing es x at)
  where
    by : (b : Bool) → bytes_eq x e.0.items ≡ b → cond b (Some e.1) (found_at es x) ≡ None
        → (found_at es x ≡ None → tag_at (tags_of_entries es) x at ≡ None) → tag_at (tags_of_entries (e ∷ es)) x at ≡ None
    by true s h rest = cc
    by false s h rest = let f : bytes_eq e.0.items x ≡ false = flipped e.0.items x ∙ s in rw f (rest h)

pub found : (es : List (Vec ℕ × Known)) → AreApart es → (x : List ℕ) (at : ℕ) (k : Known) → found_at es x ≡ Some k
    → tag_at (tags_of_entries es) x at ≡ (if nat_lt k.from at then Some k.is_enumeration else None)
found [] a x at k h = cc
found (e ∷ es) a x at k h = by (bytes_eq x e.0.items) refl h (found es a.1 x at k)
  where
    first : (lt : Bool) (o : Option Bool) → o ≡ None → or_else (if lt then Some e.1.is_enumeration else None) o ≡ (if lt then Some e.1.is_enumeration else None)
    first true o n = refl
    first false o n = n

    by : (b : Bool) → bytes_eq x e.0.items ≡ b → cond b (Some e.1) (found_at es x) ≡ Some k
        → (found_at es x ≡ Some k → tag_at (tags_of_entries es) x at ≡ (if nat_lt k.from at then Some k.is_enumeration else None))
        → tag_at (tags_of_entries (e ∷ es)) x at ≡ (if nat_lt k.from at then Some k.is_enumeration else None)
    by true s h rest =
        let q : e.1 ≡ k = cc in
        let f : bytes_eq e.0.items x ≡ true = flipped e.0.items x ∙ s in
        let n : found_at es x ≡ None = subst (λ y. found_at es y ≡ None) (sym (same x e.0.items s)) a.0 in
        rw f (subst (λ (z : Known). or_else (if nat_lt e.1.from at then Some e.1.is_enumeration else None) (tag_at (tags_of_entries es) x at)
        ≡ (if nat_lt z.from at then Some z.is_enumeration else None)) q (first (nat_lt e.1.from at) (tag_at (tags_of_entries es) x at) (missing es x at n)))
    by false s h rest = let f : bytes_eq e.0.items x ≡ false = flipped e.0.items x ∙ s in rw f (rest h)

pub placed : (es : List (Vec ℕ × Known)) (x : List ℕ) → place_of_tag (tags_of_entries es) x ≡ option_map (λ k. k.place) (found_at es x)
placed [] x = refl
placed (e ∷ es) x = by (bytes_eq x e.0.items) refl (placed es x)
  where
    by : (b : Bool) → bytes_eq x e.0.items ≡ b → place_of_tag (tags_of_entries es) x ≡ option_map (λ k. k.place) (found_at es x)
        → place_of_tag (tags_of_entries (e ∷ es)) x ≡ option_map (λ k. k.place) (cond b (Some e.1) (found_at es x))
    by true s rest = let f : bytes_eq e.0.items x ≡ true = flipped e.0.items x ∙ s in rw f refl
    by false s rest = let f : bytes_eq e.0.items x ≡ false = flipped e.0.items x ∙ s in rw f rest

-- ---- one more

among : (es : List (Vec ℕ × Known)) (x : List ℕ) (k : Known) → found_at es x ≡ Some k → is_among (map (λ t. t.name) (tags_of_entries es)) x ≡ true
among [] x k h = cc
among (e ∷ es) x k h = by (bytes_eq x e.0.items) h (among es x k)
  where
    by : (b : Bool) → cond b (Some e.1) (found_at es x) ≡ Some k
        → (found_at es x ≡ Some k → is_among (map (λ t. t.name) (tags_of_entries es)) x ≡ true)
        → (b || is_among (map (λ t. t.name) (tags_of_entries es)) x) ≡ true
    by true h rest = refl
    by false h rest = rest h

not_among : (es : List (Vec ℕ × Known)) (x : List ℕ) → found_at es x ≡ None → is_among (map (λ t. t.name) (tags_of_entries es)) x ≡ false
not_among [] x h = refl
not_among (e ∷ es) x h = by (bytes_eq x e.0.items) h (not_among es x)
  where
    by : (b : Bool) → cond b (Some e.1) (found_at es x) ≡ None
        → (found_at es x ≡ None → is_among (map (λ t. t.name) (tags_of_entries es)) x ≡ false)
        → (b || is_among (map (λ t. t.name) (tags_of_entries es)) x) ≡ false
    by true h rest = cc
    by false h rest = rest h

pub already : (es : List (Vec ℕ × Known)) (t : Tag) (k : Known) → found_at es t.name ≡ Some k → tags_of_entries es ≡ with_first (tags_of_entries es) t
already es t k h = rw (among es t.name k h) refl

one_tag_more : (es : List (Vec ℕ × Known)) (e : Vec ℕ × Known) → tags_of_entries (es ++ e ∷ []) ≡ tags_of_entries es ++ tag_of_entry e ∷ []
one_tag_more [] e = refl
one_tag_more (d ∷ es) e = ap (λ tags. tag_of_entry d ∷ tags) (one_tag_more es e)

pub newly : (old new : List (Vec ℕ × Known)) (t : Tag) (key : Vec ℕ) (k : Known) → key.items ≡ t.name
    → k ≡ record { place = t.place; from = t.from; is_enumeration = t.is_enumeration } → None ≡ found_at old t.name
    → new ≡ insert_entry (λ a b. bytes_eq a.items b.items) old key k → tags_of_entries new ≡ with_first (tags_of_entries old) t
newly old new t key k named is h i =
    let known : Tag = record { name = t.name; place = k.place; from = k.from; is_enumeration = k.is_enumeration } in
    let e : tag_of_entry (key, k) ≡ t =
    ap (λ (x : List ℕ). record known { name = x }) named
    ∙ ap (λ (x : Known). record t { place = x.place; from = x.from; is_enumeration = x.is_enumeration }) is in
    let absent : lookup (λ (other : Vec ℕ). bytes_eq key.items other.items) old ≡ None
    = subst (λ y. found_at old y ≡ None) (sym (ap (λ t. t.name) e)) (sym h) in
    let n : new ≡ old ++ (key, k) ∷ [] = i ∙ inserted_last (λ a b. bytes_eq a.items b.items) old key k absent in
    rw (not_among old t.name (sym h)) (ap tags_of_entries n ∙ (one_tag_more old (key, k) ∙ ap (λ z. tags_of_entries old ++ z ∷ []) e))

apart_more : (es : List (Vec ℕ × Known)) (key : Vec ℕ) (k : Known) → AreApart es → found_at es key.items ≡ None → AreApart (es ++ (key, k) ∷ [])
apart_more [] key k a h = (refl, tt)
apart_more (e ∷ es) key k a h = by (bytes_eq key.items e.0.items) refl h (apart_more es key k a.1)
  where
    by : (b : Bool) → bytes_eq key.items e.0.items ≡ b → cond b (Some e.1) (found_at es key.items) ≡ None
        → (found_at es key.items ≡ None → AreApart (es ++ (key, k) ∷ [])) → AreApart (e ∷ (es ++ (key, k) ∷ []))
    by true s h rest = cc
    by false s h rest =
        let f : bytes_eq e.0.items key.items ≡ false = flipped e.0.items key.items ∙ s in
        (found_more es key k e.0.items ∙ (ap (λ o. or_else o (if bytes_eq e.0.items key.items then Some k else None)) a.0 ∙ rw f refl), rest h)

pub apart_after : (old new : List (Vec ℕ × Known)) (name : List ℕ) (key : Vec ℕ) (k : Known) → AreApart old → key.items ≡ name
    → None ≡ found_at old name → new ≡ insert_entry (λ a b. bytes_eq a.items b.items) old key k → AreApart new
apart_after old new name key k a e h i =
    let absent : lookup (λ (other : Vec ℕ). bytes_eq key.items other.items) old ≡ None = subst (λ y. found_at old y ≡ None) (sym e) (sym h) in
    subst AreApart (sym (i ∙ inserted_last (λ a b. bytes_eq a.items b.items) old key k absent)) (apart_more old key k a absent)

-- ---- as a look-up answers

pub seen_before : (es : List (Vec ℕ × Known)) → AreApart es → (x : List ℕ) (at : ℕ) (k : Known) → Some k ≡ found_at es x → k.from < at
    → Some k.is_enumeration ≡ tag_at (tags_of_entries es) x at
seen_before es a x at k h l = sym (found es a x at k (sym h) ∙ rw (lt-ltb k.from at l) refl)

pub seen_later : (es : List (Vec ℕ × Known)) → AreApart es → (x : List ℕ) (at : ℕ) (k : Known) → Some k ≡ found_at es x → at ≤ k.from
    → None ≡ tag_at (tags_of_entries es) x at
seen_later es a x at k h l = sym (found es a x at k (sym h) ∙ rw (le-ltb k.from at l) refl)

pub not_seen : (es : List (Vec ℕ × Known)) (x : List ℕ) (at : ℕ) → None ≡ found_at es x → None ≡ tag_at (tags_of_entries es) x at
not_seen es x at h = sym (missing es x at (sym h))
