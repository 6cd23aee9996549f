-- When lists of types are the same.
use Rattle.std.proofs.Common.{◌≡◌, ◌≢◌, List, [], ◌∷◌, length, false, refl, sym, ◌∙◌, arith}
use Rattle.std.specs.Prelude.{map}
use Rattle.std.proofs.lemmas.Bool.{and_right}
use Rattle.std.proofs.lemmas.List.{length-map}
use Rattle.c_types.specs.Sameness.{same_type, same_types}
use Rattle.c_types.specs.Types.{CType}
use Rattle.c_types.specs.Views.{listed, types_of, type_of}
use Rattle.c_types.specs.declared.ty.Ty.{Ty}

differ_in_length : (all others : List CType) → length all ≢ length others → same_types (listed all) (listed others) ≡ false
differ_in_length [] [] h = absurd (h refl)
differ_in_length [] (t ∷ others) h = refl
differ_in_length (s ∷ all) [] h = refl
differ_in_length (s ∷ all) (t ∷ others) h =
    and_right (same_type s t) (same_types (listed all) (listed others)) (differ_in_length all others (λ e. h (omega (arith, e))))

-- lists of different lengths are not the same
pub unlike_lists : (all others : List Ty) → length all ≢ length others → same_types (types_of all) (types_of others) ≡ false
unlike_lists all others h =
    differ_in_length (map type_of all) (map type_of others) (λ e. h (sym (length-map all type_of) ∙ e ∙ length-map others type_of))
