-- Lists of fields of two lengths are not the same.
use Rattle.std.proofs.Common.{◌≡◌, ◌≢◌, suc, Bool, true, false, ◌&&◌, List, [], ◌∷◌, length, map, refl, sym, ap, ◌∙◌}
use Rattle.std.proofs.lemmas.List.{length-map}
use Rattle.c_types.specs.declared.record.Field as declared
use Rattle.c_types.specs.Types.{Field}
use Rattle.c_types.specs.Views.{field_of}
use Rattle.c_link.specs.Clashes.{same_field, same_fields}

unlike : (all others : List Field) → length all ≢ length others → same_fields all others ≡ false
unlike [] [] h = absurd (h refl)
unlike (f ∷ more) (g ∷ others) h =
    go (same_field f g) (unlike more others (λ e. h (ap suc e)))
  where
    go : (b : Bool) → same_fields more others ≡ false → (b && same_fields more others) ≡ false
    go true e = e
    go false e = refl
unlike [] (g ∷ others) h = refl
unlike (f ∷ more) [] h = refl

pub unlike_fields : (all others : List declared.Field) → length all ≢ length others → same_fields (map field_of all) (map field_of others) ≡ false
unlike_fields all others h =
    unlike (map field_of all) (map field_of others) (λ e. h (sym (length-map all field_of) ∙ e ∙ length-map others field_of))
