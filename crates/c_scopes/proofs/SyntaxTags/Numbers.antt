-- Names by their places, and tables that have them.
use Rattle.std.proofs.Common.{◌≡◌, ℕ, zero, suc, slice_get, add-one, ◌+◌, List, [], ◌∷◌, ◌++◌, length, Bool, true, false, cond, Option, Some, None, refl}
use Rattle.std.proofs.Common.{sym, ap, ◌∙◌, subst, arith, ◌||◌, if◌then◌else◌}
use Rattle.std.specs.Option.{option_map}
use Rattle.std.specs.Global.{Vec}
use Rattle.std.specs.Map.{lookup}
use Rattle.std.specs.Str.{bytes_eq}
use Rattle.std.proofs.lemmas.Slice.Eq.{bytes_eq-Decides}
use Rattle.indexmap.specs.IndexMap.{insert_entry}
use Rattle.c_erasure.specs.Scopes.{or_else}
use Rattle.c_erasure.specs.Marks.{is_among}
use Rattle.c_scopes.proofs.SyntaxTags.Inserting.{inserted_last}
use Rattle.c_scopes.specs.SyntaxTags.Keys.{found_at}
use Rattle.c_scopes.specs.SyntaxTags.Names.{number_in, with_new}

-- ---- tables

pub found_more : {V : Type 0} (es : List (Vec ℕ × V)) (k : Vec ℕ) (v : V) (x : List ℕ)
    → found_at (es ++ (k, v) ∷ []) x ≡ or_else (found_at es x) (if bytes_eq x k.items then Some v else None)
found_more [] k v x = refl
found_more {V} (e ∷ es) k v x = by (bytes_eq x e.0.items) (found_more es k v x)
  where
    by : (b : Bool) → found_at (es ++ (k, v) ∷ []) x ≡ or_else (found_at es x) (if bytes_eq x k.items then Some v else None)
        → cond b (Some e.1) (found_at (es ++ (k, v) ∷ []) x) ≡ or_else (cond b (Some e.1) (found_at es x)) (if bytes_eq x k.items then Some v else None)
    by true rest = refl
    by false rest = rest

pub noted : (old new : List (Vec ℕ × ℕ)) (k : Vec ℕ) (v : ℕ) (name : List ℕ) → k.items ≡ name → None ≡ found_at old name
    → new ≡ insert_entry (λ a b. bytes_eq a.items b.items) old k v
    → (x : List ℕ) → found_at new x ≡ or_else (found_at old x) (if bytes_eq x name then Some v else None)
noted old new k v name e h i x =
    let absent : lookup (λ (key : Vec ℕ). bytes_eq k.items key.items) old ≡ None = subst (λ y. found_at old y ≡ None) (sym e) (sym h) in
    ap (λ es. found_at es x) (i ∙ inserted_last (λ a b. bytes_eq a.items b.items) old k v absent)
    ∙ (found_more old k v x ∙ ap (λ y. or_else (found_at old x) (if bytes_eq x y then Some v else None)) e)

-- ---- lists of names

abbrev pick : Bool → Option ℕ → Option ℕ → Option ℕ
pick b x y = if b then x else y

abbrev next : Option ℕ → Option ℕ
next o = option_map (λ k. k + 1) o

pub number_more : (names : List (List ℕ)) (y x : List ℕ)
    → number_in (names ++ y ∷ []) x ≡ or_else (number_in names x) (if bytes_eq x y then Some (length names) else None)
number_more [] y x = refl
number_more (name ∷ names) y x = by (bytes_eq x name) (number_in names x) (bytes_eq x y) (number_more names y x)
  where
    by : (b : Bool) (o : Option ℕ) (c : Bool) → number_in (names ++ y ∷ []) x ≡ or_else o (pick c (Some (length names)) None)
        → pick b (Some 0) (next (number_in (names ++ y ∷ []) x)) ≡ or_else (pick b (Some 0) (next o)) (pick c (Some (length (name ∷ names))) None)
    by true o c h = refl
    by false (Some n) c h = ap next h
    by false None true h = ap next h ∙ ap Some (omega arith)
    by false None false h = ap next h

pub number_among : (names : List (List ℕ)) (x : List ℕ) (n : ℕ) → number_in names x ≡ Some n → is_among names x ≡ true
number_among [] x n h = cc
number_among (name ∷ names) x n h = by (bytes_eq x name) (number_in names x) refl h (number_among names x)
  where
    by : (b : Bool) (o : Option ℕ) → number_in names x ≡ o → pick b (Some 0) (next o) ≡ Some n
        → ((k : ℕ) → number_in names x ≡ Some k → is_among names x ≡ true) → (b || is_among names x) ≡ true
    by true o e h rest = refl
    by false None e h rest = cc
    by false (Some k) e h rest = rest k e

pub no_number : (names : List (List ℕ)) (x : List ℕ) → number_in names x ≡ None → is_among names x ≡ false
no_number [] x h = refl
no_number (name ∷ names) x h = by (bytes_eq x name) (number_in names x) refl h (no_number names x)
  where
    by : (b : Bool) (o : Option ℕ) → number_in names x ≡ o → pick b (Some 0) (next o) ≡ None
        → (number_in names x ≡ None → is_among names x ≡ false) → (b || is_among names x) ≡ false
    by true o e h rest = cc
    by false None e h rest = rest e
    by false (Some k) e h rest = cc

pub known_with_new : (names : List (List ℕ)) (x : List ℕ) (n : ℕ) → number_in names x ≡ Some n → names ≡ with_new names x
known_with_new names x n h = rw (number_among names x n h) refl

pub unknown_with_new : (names : List (List ℕ)) (x : List ℕ) → number_in names x ≡ None → with_new names x ≡ names ++ x ∷ []
unknown_with_new names x h = rw (no_number names x h) refl

pub number_noted : (old new : List (Vec ℕ × ℕ)) (names more : List (List ℕ)) (name : List ℕ) (place : ℕ)
    → ((x : List ℕ) → found_at old x ≡ number_in names x)
    → ((x : List ℕ) → found_at new x ≡ or_else (found_at old x) (if bytes_eq x name then Some place else None))
    → more ≡ names ++ name ∷ [] → place ≡ length names → (x : List ℕ) → found_at new x ≡ number_in more x
number_noted old new names more name place known noted e p x =
    noted x ∙ (ap (λ o. or_else o (if bytes_eq x name then Some place else None)) (known x)
    ∙ (ap (λ n. or_else (number_in names x) (if bytes_eq x name then Some n else None)) p
    ∙ (sym (number_more names name x) ∙ ap (λ all. number_in all x) (sym e))))

-- ---- numbers and places

-- a name has the number where it stands
pub stands_at : (names : List (List ℕ)) (x : List ℕ) (n : ℕ) → number_in names x ≡ Some n → slice_get names n ≡ Some x
stands_at [] x n h = cc
stands_at (name ∷ names) x n h = by (bytes_eq x name) (number_in names x) refl refl h (stands_at names x)
  where
    by : (b : Bool) (o : Option ℕ) → bytes_eq x name ≡ b → number_in names x ≡ o → pick b (Some 0) (next o) ≡ Some n
        → ((k : ℕ) → number_in names x ≡ Some k → slice_get names k ≡ Some x) → slice_get (name ∷ names) n ≡ Some x
    by true o s e h rest =
        let z : n ≡ 0 = cc in
        let f : x ≡ name = (bytes_eq-Decides x name).0 s in
        rw (z, f) refl
    by false None s e h rest = cc
    by false (Some k) s e h rest =
        let z : n ≡ k + 1 = cc in
        rw (z, add-one) (rest k e)

-- what has no number stands nowhere
pub stands_nowhere : (names : List (List ℕ)) (x : List ℕ) (n : ℕ) → number_in names x ≡ None → slice_get names n ≡ Some x → ⊥
stands_nowhere [] x n h s = cc
stands_nowhere (name ∷ names) x n h s = by n (bytes_eq x name) (number_in names x) refl refl h s (stands_nowhere names x)
  where
    by : (n : ℕ) (b : Bool) (o : Option ℕ) → bytes_eq x name ≡ b → number_in names x ≡ o → pick b (Some 0) (next o) ≡ None
        → slice_get (name ∷ names) n ≡ Some x → ((k : ℕ) → number_in names x ≡ None → slice_get names k ≡ Some x → ⊥) → ⊥
    by n true o e f h s rest = cc
    by n false (Some k) e f h s rest = cc
    by zero false None e f h s rest =
        let t : name ≡ x = cc in
        let u : bytes_eq x name ≡ true = (bytes_eq-Decides x name).1 (sym t) in
        cc
    by (suc n) false None e f h s rest = rest n f s
