-- What is found of things one after another is what is told of each and of the one of its name before it.
use Rattle.std.proofs.Common.{◌≡◌, ℕ, ◌⊎◌, inl, inr, Bool, List, [], ◌∷◌, ◌++◌, Option, Some, None, fold, map, refl, sym, ap, ◌∙◌, subst, append_assoc}
use Rattle.std.specs.Prelude.{slice_get}
use Rattle.std.proofs.lemmas.List.{map-append}
use Rattle.std.proofs.lemmas.List.Sums.{fold-append}
use Rattle.c_numbers.proofs.KeyNumbers.Laws.{all_after}
use Rattle.c_numbers.specs.KeyNumbers.Keys.{new_keys, position, with_key}
use Rattle.c_link.specs.Placing.{place, placed, put, replaces_one}
use Rattle.c_link.proofs.Placed.{put_mapped}
use Rattle.c_link.proofs.Pairs.{placed_append}
use Rattle.c_link.proofs.UnderKeys.{found_at}
use Rattle.c_link.specs.Gaps.{IsIn, Trouble}
use Rattle.c_link.specs.Repeats.{of_that_name, repeats, told_if_any}

-- ---- troubles of a list

pub in_left : (t : Trouble) (xs ys : List Trouble) → IsIn t xs → IsIn t (xs ++ ys)
in_left t [] ys h = absurd h
in_left t (x ∷ more) ys (inl e) = inl e
in_left t (x ∷ more) ys (inr h) = inr (in_left t more ys h)

pub in_right : (t : Trouble) (xs ys : List Trouble) → IsIn t ys → IsIn t (xs ++ ys)
in_right t [] ys h = h
in_right t (x ∷ more) ys h = inr (in_right t more ys h)

pub in_append : (t : Trouble) (xs ys : List Trouble) → IsIn t (xs ++ ys) → IsIn t xs ⊎ IsIn t ys
in_append t [] ys h = inr h
in_append t (x ∷ more) ys (inl e) = inl (inl e)
in_append t (x ∷ more) ys (inr h) = elim (in_append t more ys h) [ inl k ↦ inl (inr k) | inr k ↦ inr k ]

module _ {A : Type 0} (name : A → List ℕ) (d : A → Bool) (told : A → A → List Trouble) where
  abbrev named : A → List ℕ × A
  named x = (name x, x)

  -- what is kept of some
  abbrev pub kept_of : List (List ℕ) → List A → List A
  kept_of keys before = placed d keys [] (map named before)

  names_of_named : (all : List A) → map {B = List ℕ} (λ p. p.0) (map named all) ≡ map name all
  names_of_named [] = refl
  names_of_named (x ∷ more) = ap (λ rest. name x ∷ rest) (names_of_named more)

  pub kept_is : (keys rest : List (List ℕ)) (before : List A) (x : List ℕ) → keys ≡ fold with_key [] (map name before) ++ rest
      → slice_get (kept_of keys before) (position keys x) ≡ of_that_name name d told x before
  kept_is keys rest before x h =
      let e : keys ≡ fold with_key [] (map {B = List ℕ} (λ p. p.0) (map named before)) ++ rest =
      h ∙ ap (λ ns. fold with_key [] ns ++ rest) (sym (names_of_named before)) in
      ap (λ ks. slice_get (kept_of ks before) (position ks x)) e ∙ found_at d (map named before) rest x

  pub one_more : (keys : List (List ℕ)) (before : List A) (x : A) → place d (kept_of keys before) (position keys (name x)) x ≡ kept_of keys (before ++ x ∷ [])
  one_more keys before x =
      sym (placed_append d keys [] (map named before) (named x ∷ [])) ∙ ap (placed d keys []) (sym (map-append named before (x ∷ [])))

  pub repeats_append : (keys : List (List ℕ)) (ks xs ys : List A) → repeats name d told keys ks (xs ++ ys)
      ≡ repeats name d told keys ks xs ++ repeats name d told keys (placed d keys ks (map named xs)) ys
  repeats_append keys ks [] ys = refl
  repeats_append keys ks (x ∷ more) ys =
      let next = place d ks (position keys (name x)) x in
      let one = told_if_any told (slice_get ks (position keys (name x))) x in
      ap (λ rest. one ++ rest) (repeats_append keys next more ys)
      ∙ sym (append_assoc one (repeats name d told keys next more) (repeats name d told keys (placed d keys next (map named more)) ys))

  -- the names of all begin with those of the first ones
  pub names_begin : (keys rest : List (List ℕ)) (before after : List A) → keys ≡ fold with_key [] (map name (before ++ after)) ++ rest
      → (more : List (List ℕ)) × (keys ≡ fold with_key [] (map name before) ++ more)
  names_begin keys rest before after h =
      let known = fold with_key [] (map name before) in
      let e : fold with_key [] (map name (before ++ after)) ≡ known ++ new_keys known (map name after) =
      ap (fold with_key []) (map-append name before after) ∙ fold-append with_key [] (map name before) (map name after) ∙ all_after (map name after) known in
      (new_keys known (map name after) ++ rest, h ∙ ap (λ ks. ks ++ rest) e ∙ append_assoc known (new_keys known (map name after)) rest)

  -- something of some that is told of it and of the one of its name before it
  abbrev pub IsTold : List A → Trouble → Type 0
  IsTold all t = (before after : List A) × (x first : A) × (all ≡ before ++ x ∷ after) × (of_that_name name d told (name x) before ≡ Some first) × IsIn t (told first x)

  pub told_is_in : (keys rest : List (List ℕ)) (all : List A) → keys ≡ fold with_key [] (map name all) ++ rest → (t : Trouble) → IsTold all t
      → IsIn t (repeats name d told keys [] all)
  told_is_in keys rest all h t w =
      let before = w.0 in
      let after = w.1 in
      let x = w.2 in
      let first = w.3 in
      let b = names_begin keys rest before (x ∷ after) (h ∙ ap (λ them. fold with_key [] (map name them) ++ rest) w.4) in
      let found = slice_get (kept_of keys before) (position keys (name x)) in
      let s : found ≡ Some first = kept_is keys b.0 before (name x) b.1 ∙ w.5 in
      let here : IsIn t (told_if_any told found x) = subst (λ o. IsIn t (told_if_any told o x)) (sym s) w.6 in
      subst (IsIn t) (sym (ap (repeats name d told keys []) w.4 ∙ repeats_append keys [] before (x ∷ after)))
      (in_right t (repeats name d told keys [] before) _ (in_left t (told_if_any told found x) _ here))

  at_one : (before after : List A) (x : A) (all : List A) → all ≡ before ++ x ∷ after → (t : Trouble) (o : Option A)
      → o ≡ of_that_name name d told (name x) before → IsIn t (told_if_any told o x) → IsTold all t
  at_one before after x all e t None k h = absurd h
  at_one before after x all e t (Some first) k h = (before, after, x, first, e, sym k, h)

  walk : (keys rest : List (List ℕ)) (all before after : List A) → all ≡ before ++ after → keys ≡ fold with_key [] (map name all) ++ rest → (t : Trouble)
      → IsIn t (repeats name d told keys (kept_of keys before) after) → IsTold all t
  walk keys rest all before [] e h t w = absurd w
  walk keys rest all before (x ∷ more) e h t w =
      let b = names_begin keys rest before (x ∷ more) (h ∙ ap (λ them. fold with_key [] (map name them) ++ rest) e) in
      let found = slice_get (kept_of keys before) (position keys (name x)) in
      elim (in_append t (told_if_any told found x) _ w) [
        | inl k ↦ at_one before more x all e t found (kept_is keys b.0 before (name x) b.1) k
        | inr k ↦ walk keys rest all (before ++ x ∷ []) more (e ∙ sym (append_assoc before (x ∷ []) more)) h t
            (subst (λ ks. IsIn t (repeats name d told keys ks more)) (one_more keys before x) k)
      ]

  pub in_is_told : (keys rest : List (List ℕ)) (all : List A) → keys ≡ fold with_key [] (map name all) ++ rest → (t : Trouble)
      → IsIn t (repeats name d told keys [] all) → IsTold all t
  in_is_told keys rest all h t w = walk keys rest all [] all refl h t w

  -- one more thing, as a loop takes it: `now` is what a reference stands for
  pub one_more_told : {B : Type 0} (now : B → A) (keys : List (List ℕ)) (ks : List B) (b : B) (n : ℕ) (replaces : Bool) (old new : List Trouble) (found : Option A)
      (next : List B) (rest : List A) → n ≡ position keys (name (now b)) → found ≡ slice_get (map now ks) n → replaces ≡ replaces_one d found (now b)
      → new ≡ old ++ told_if_any told found (now b) → next ≡ put replaces ks n b
      → new ++ repeats name d told keys (map now next) rest ≡ old ++ repeats name d told keys (map now ks) (now b ∷ rest)
  one_more_told now keys ks b n replaces old new found next rest e f r g h =
      let x = now b in
      let all = map now ks in
      let place_now : map now next ≡ place d all (position keys (name x)) x =
      ap (map now) h ∙ put_mapped now replaces ks n b ∙ ap (λ (q : Bool). put q all n x) (r ∙ ap (λ o. replaces_one d o x) f) ∙ ap (λ m. place d all m x) e in
      let later = repeats name d told keys (place d all (position keys (name x)) x) rest in
      ap (λ them. new ++ repeats name d told keys them rest) place_now
      ∙ ap (λ them. them ++ later) g ∙ append_assoc old (told_if_any told found x) later
      ∙ ap (λ o. old ++ (told_if_any told o x ++ later)) (f ∙ ap (slice_get all) e)
