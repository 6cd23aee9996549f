-- A count of a loop rises in the counts of its function.
use Rattle.std.proofs.Common.{◌≡◌, ap, sym, ◌∙◌, ℕ, ◌<◌, List, length, map, slice_get, slice_set, slice_index_or, option_map, Vec, Global}
use Rattle.std.proofs.lemmas.List.{map-set}
use Rattle.std.proofs.lemmas.Option.{slice_get-map, slice_get-get_or}
use Rattle.source_state.specs.Steps.Counting.{raised, raised_in}

pub counted : (rows : List (Vec ℕ Global)) (g l : ℕ) (old new : Vec ℕ Global) → g < length rows → old ≡ slice_index_or rows g old → new.items ≡ raised old.items l
    → map (λ loops. loops.items) (slice_set rows g new) ≡ raised_in (map (λ loops. loops.items) rows) g l (slice_get (map (λ loops. loops.items) rows) g)
counted rows g l old new h e i =
    map-set (λ loops. loops.items) rows g new
    ∙ ap (λ x. slice_set (map (λ loops. loops.items) rows) g x) (i ∙ ap (λ o. raised o.items l) e)
    ∙ sym (ap (λ o. raised_in (map (λ loops. loops.items) rows) g l o)
    (slice_get-map (λ loops. loops.items) rows g ∙ ap (option_map (λ loops. loops.items)) (slice_get-get_or rows g old h)))
