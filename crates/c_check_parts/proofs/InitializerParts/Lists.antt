-- The next item of a list that is gone through.
use Rattle.std.proofs.Common.{◌≡◌, ◌∙◌, ◌<◌, ℕ, suc, ◌+◌, List, ◌∷◌, length, drop, get_or, map, sym, ap, add-one, drop-cons}

pub next_mapped : {X Y : Type 0} (f : X → Y) (all : List X) (i : ℕ) (x : X) → i < length all → x ≡ get_or all i x
    → map f (drop i all) ≡ f x ∷ map f (drop (i + 1) all)
next_mapped f all i x h e =
    ap (map f) (drop-cons all i x h)
    ∙ ap (λ y. f y ∷ map f (drop (suc i) all)) (sym e)
    ∙ ap (λ n. f x ∷ map f (drop n all)) (sym (add-one i))
