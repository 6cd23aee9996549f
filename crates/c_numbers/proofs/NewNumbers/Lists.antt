-- Lists of which each item is changed where it stands, one after another.
use Rattle.std.proofs.Common.{◌≡◌, ◌<◌, ℕ, ◌+◌, List, ◌++◌, drop, get_or, length, map, set, take, ap, ◌∙◌}
use Rattle.std.proofs.lemmas.List.{get_or_default}
use Rattle.std.proofs.lemmas.List.Edits.{map_over_more}

-- one more item is changed
pub one_changed : {X : Type 0} (f : X → X) (before all : List X) (i : ℕ) (d x : X) → i < length before → i < length all
    → all ≡ map f (take i before) ++ drop i before → x ≡ f (get_or all i d)
    → set all i x ≡ map f (take (i + 1) before) ++ drop (i + 1) before
one_changed f before all i d x h k e o =
    let old = get_or all i d in
    ap (set all i) o ∙ map_over_more f before all i old h e (get_or_default all i d old k)
