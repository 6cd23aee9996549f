-- A table of names answers as their list does, also after one more name.
use Rattle.std.proofs.Common.{◌≡◌, ℕ, Bool, true, false, ◌||◌, List, [], ◌∷◌, ◌++◌, Vec, Global, refl, sym, ◌∙◌, ap, subst}
use Rattle.std.specs.Prelude.{if◌then◌else◌}
use Rattle.std.specs.List.{list_any}
use Rattle.std.specs.Str.{bytes_eq}
use Rattle.std.proofs.lemmas.List.Folds.{list_any-append}
use Rattle.std.proofs.lemmas.Slice.Eq.{bytes_eq-Decides}
use Rattle.c_ast.specs.WellFormed.{is_typename}

abbrev Keys : Type 0
Keys = List (Vec ℕ Global)

abbrev has_key : Keys → List ℕ → Bool
has_key keys x = list_any (λ key. bytes_eq x key.items) keys

or_false : (a b : Bool) → (a || (b || false)) ≡ (b || a)
or_false true true = refl
or_false true false = refl
or_false false true = refl
or_false false false = refl

-- a name that is there already changes no answer
known : (names : List (List ℕ)) (name x : List ℕ) → is_typename names name ≡ true → is_typename (names ++ name ∷ []) x ≡ is_typename names x
known names name x h =
    list_any-append (bytes_eq x) names (name ∷ []) ∙ same (bytes_eq x name) refl
  where
    same : (b : Bool) → bytes_eq x name ≡ b → (is_typename names x || (b || false)) ≡ is_typename names x
    same true e = sym (let P : List ℕ → Type 0 = λ y. is_typename names y
        ≡ (is_typename names y || true) in subst P (sym ((bytes_eq-Decides x name).0 e)) (rw h refl))
    same false e = or_false (is_typename names x) false

pub one_more : (old new : Keys) (names : List (List ℕ)) (key : Vec ℕ Global) → ((x : List ℕ) → has_key old x ≡ is_typename names x)
    → new ≡ (if has_key old key.items then old else old ++ key ∷ []) → (x : List ℕ) → has_key new x ≡ is_typename (names ++ key.items ∷ []) x
one_more old new names key same put x = ap (λ keys. has_key keys x) put ∙ put_so (has_key old key.items) refl
  where
    put_so : (b : Bool) → has_key old key.items ≡ b → has_key (if b then old else old ++ key ∷ []) x ≡ is_typename (names ++ key.items ∷ []) x
    put_so true h = same x ∙ sym (known names key.items x (sym (same key.items) ∙ h))
    put_so false h =
        list_any-append (λ k. bytes_eq x k.items) old (key ∷ [])
        ∙ ap (λ b. b || (bytes_eq x key.items || false)) (same x)
        ∙ sym (list_any-append (bytes_eq x) names (key.items ∷ []))
