-- What a look-up in a slice of references answers.
use Rattle.std.proofs.Common.{◌≡◌, Bor, ℕ, List, Option, Some, None, map, get_or, length, refl, sym, ap, ◌∙◌}
use Rattle.std.specs.Prelude.{is_some, nat_lt, slice_get, IfSome}
use Rattle.std.specs.Option.{option_copied, option_map}
use Rattle.std.proofs.lemmas.Bool.{ltb-false, ltb-true}
use Rattle.std.proofs.lemmas.Option.{slice_get-get_or, slice_get-map, slice_get_past}

pub looked_up : {X : Type 0} (o : Option (Bor X)) (xs : List X) (n : ℕ) → is_some o ≡ nat_lt n (length xs) → IfSome o (λ x. x.now ≡ get_or xs n x.now)
    → option_copied o ≡ slice_get xs n
looked_up None xs n h k = sym (slice_get_past xs n (ltb-false n (length xs) (sym h)))
looked_up (Some x) xs n h k = ap Some k ∙ sym (slice_get-get_or xs n x.now (ltb-true n (length xs) (sym h)))

pub found_is : {X Y : Type 0} (view : X → Y) (all : List (Bor X)) (n : ℕ) (found : Option (Bor X)) → found ≡ slice_get all n
    → option_map view (option_copied found) ≡ slice_get (map (λ it. view it.now) all) n
found_is {X = X} view all n found h =
    ap (λ o. option_map view (option_copied o)) h ∙ go (slice_get all n) ∙ sym (slice_get-map (λ (it : Bor X). view it.now) all n)
  where
    go : (o : Option (Bor X)) → option_map view (option_copied o) ≡ option_map (λ (it : Bor X). view it.now) o
    go None = refl
    go (Some x) = refl
