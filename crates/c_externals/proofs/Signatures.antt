-- Types of parameters of another number.
use Rattle.std.proofs.Common.{◌≡◌, ◌≢◌, ◌∙◌, suc, Bool, true, false, ◌&&◌, List, [], ◌∷◌, length, map, refl, sym, ap}
use Rattle.std.proofs.lemmas.List.{length-map}
use Rattle.c_types.specs.Sameness.{same_type, same_types}
use Rattle.c_types.specs.Types.{CType}
use Rattle.c_types.specs.Views.{listed}

both_false : (a : Bool) → (a && false) ≡ false
both_false true = refl
both_false false = refl

pub other_number : (all others : List CType) → length all ≢ length others → same_types (listed all) (listed others) ≡ false
other_number [] [] h = absurd (h refl)
other_number [] (t ∷ others) h = refl
other_number (t ∷ all) [] h = refl
other_number (t ∷ all) (u ∷ others) h = ap (λ b. same_type t u && b) (other_number all others (λ e. h (ap suc e))) ∙ both_false (same_type t u)

pub other_lengths : {X Y : Type 0} (f : X → CType) (g : Y → CType) (all : List X) (others : List Y) → length all ≢ length others
    → same_types (listed (map f all)) (listed (map g others)) ≡ false
other_lengths f g all others h = other_number (map f all) (map g others) (λ e. h (sym (length-map all f) ∙ e ∙ length-map others g))
