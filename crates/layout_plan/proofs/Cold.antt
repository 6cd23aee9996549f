-- The fields that are cold.
use Rattle.std.proofs.Common.{◌≡◌, ℕ, ◌+◌, ◌*◌, ◌/◌, ◌==◌, ◌||◌, not, Bool, true, false, List, [], ◌∷◌, refl, ap, ◌∙◌, arith, sym}
use Rattle.std.specs.Prelude.{cond, filter, if◌then◌else◌, nat_lt, ◌&&◌}
use Rattle.std.proofs.lemmas.Bool.{eq-eqb, eqb-true, ltb-true, ltb-false, or_right, and_right}
use Rattle.c_types.specs.Types.{CType, Record}
use Rattle.affinity.specs.declared.fields.FieldWeights.{FieldWeights}
use Rattle.affinity.specs.FieldWeights.{hotness_in}
use Rattle.layout_plan.specs.declared.outline.Outline.{Outline}
use Rattle.layout_plan.specs.declared.plans.Decision.TheVariants.{Reordered, Split}
use Rattle.layout_plan.specs.Order.{placed}
use Rattle.layout_plan.specs.Outlines.{cold, greatest_hotness, is_worth, outline, planned, split}
use Rattle.layout_plan.specs.Peeling.{is_among}
use Rattle.layout_plan.specs.Sides.{cold_below, side}

-- ---- filters

filter_same : (p q : ℕ → Bool) → ((f : ℕ) → p f ≡ q f) → (all : List ℕ) → filter p all ≡ filter q all
filter_same p q h [] = refl
filter_same p q h (f ∷ all) = ap (λ l. cond l (f ∷ filter p all) (filter p all)) (h f) ∙ ap (λ more. cond (q f) (f ∷ more) more) (filter_same p q h all)

-- among those that pass is who is among all and passes
among : (p : ℕ → Bool) (all : List ℕ) (f : ℕ) → is_among (filter p all) f ≡ (is_among all f && p f)
among p [] f = refl
among p (g ∷ all) f = go (g == f) (p g) refl refl (among p all f)
  where
    go : (e l : Bool) → (g == f) ≡ e → p g ≡ l → is_among (filter p all) f ≡ (is_among all f && p f)
        → is_among (cond l (g ∷ filter p all) (filter p all)) f ≡ ((e || is_among all f) && p f)
    go true true q r h = ap (λ e. e || is_among (filter p all) f) q ∙ sym (ap p (sym (eqb-true g f q)) ∙ r)
    go false true q r h = ap (λ e. e || is_among (filter p all) f) q ∙ h
    go true false q r h =
        let fails : p f ≡ false = ap p (sym (eqb-true g f q)) ∙ r in
        h ∙ and_right (is_among all f) (p f) fails ∙ sym fails
    go false false q r h = h

apart : (p : ℕ → Bool) (all some : List ℕ) → ((f : ℕ) → is_among some f ≡ true → is_among all f ≡ true)
    → filter (λ f. not (is_among (filter p all) f)) some ≡ filter (λ f. not (p f)) some
apart p all [] h = refl
apart p all (f ∷ some) h =
    ap (λ l. cond (not l) (f ∷ filter (λ g. not (is_among (filter p all) g)) some) (filter (λ g. not (is_among (filter p all) g)) some))
    (among p all f ∙ ap (λ l. l && p f) (h f (ap (λ l. l || is_among some f) (eq-eqb f f refl))))
    ∙ ap (λ more. cond (not (p f)) (f ∷ more) more) (apart p all some (λ g k. h g (or_right (f == g) (is_among some g) k)))

-- ---- the bound

below : (h x : ℕ) → nat_lt (1000 * h) x ≡ nat_lt h ((x + 999) / 1000)
below h x = go (nat_lt (1000 * h) x) refl (nat_lt h ((x + 999) / 1000)) refl
  where
    go : (l : Bool) → nat_lt (1000 * h) x ≡ l → (m : Bool) → nat_lt h ((x + 999) / 1000) ≡ m → l ≡ m
    go true e true k = refl
    go true e false k = absurd (omega (arith, ltb-true (1000 * h) x e, ltb-false h ((x + 999) / 1000) k))
    go false e true k = absurd (omega (arith, ltb-false (1000 * h) x e, ltb-true h ((x + 999) / 1000) k))
    go false e false k = refl

module _ (records : List Record) (types : List CType) (w : FieldWeights) where
  cold_same : (by_profile : Bool) (fields : List ℕ) → cold records types w by_profile fields
      ≡ side w (cold_below by_profile (greatest_hotness records types w by_profile fields)) true fields
  cold_same true fields = filter_same _ _ (λ f. below (hotness_in w f) (30 * greatest_hotness records types w true fields)) fields
  cold_same false fields = filter_same _ _ (λ f. below (hotness_in w f) (75 * greatest_hotness records types w false fields)) fields

  abbrev by_worth : (bound : ℕ) (fields : List ℕ) → (worth : Bool) → Outline
  by_worth bound fields worth = if worth
      then outline Split (placed w (side w bound false fields) ∷ placed w (side w bound true fields) ∷ [])
      else outline Reordered (placed w fields ∷ [])

  split_is : (by_profile : Bool) (fields : List ℕ) (bound : ℕ) → bound ≡ cold_below by_profile (greatest_hotness records types w by_profile fields)
      → planned records types w by_profile false fields ≡ by_worth bound fields (is_worth records types w by_profile (side w bound true fields))
  split_is by_profile fields bound e =
      ap (split records types w by_profile fields) (cold_same by_profile fields ∙ ap (λ n. side w n true fields) (sym e))
      ∙ ap (λ warm. if is_worth records types w by_profile (side w bound true fields)
      then outline Split (placed w warm ∷ placed w (side w bound true fields) ∷ [])
      else outline Reordered (placed w fields ∷ []))
      (apart (λ f. nat_lt (hotness_in w f) bound) fields fields (λ f h. h))

  split_by : (by_profile : Bool) (fields : List ℕ) (bound : ℕ) (worth : Bool)
      → bound ≡ cold_below by_profile (greatest_hotness records types w by_profile fields)
      → worth ≡ is_worth records types w by_profile (side w bound true fields) → by_worth bound fields worth ≡ planned records types w by_profile false fields
  split_by by_profile fields bound worth e k = ap (by_worth bound fields) k ∙ sym (split_is by_profile fields bound e)

  pub two : (by_profile : Bool) (fields apart : List ℕ) (bound : ℕ) → bound ≡ cold_below by_profile (greatest_hotness records types w by_profile fields)
      → apart ≡ side w bound true fields → true ≡ is_worth records types w by_profile apart
      → outline Split (placed w (side w bound false fields) ∷ placed w apart ∷ []) ≡ planned records types w by_profile false fields
  two by_profile fields apart bound e same worth = ap (λ it. outline Split (placed w (side w bound false fields) ∷ placed w it ∷ [])) same
      ∙ split_by by_profile fields bound true e (worth ∙ ap (is_worth records types w by_profile) same)

  pub one : (by_profile : Bool) (fields apart : List ℕ) (bound : ℕ) → bound ≡ cold_below by_profile (greatest_hotness records types w by_profile fields)
      → apart ≡ side w bound true fields → false ≡ is_worth records types w by_profile apart
      → outline Reordered (placed w fields ∷ []) ≡ planned records types w by_profile false fields
  one by_profile fields apart bound e same worth = split_by by_profile fields bound false e (worth ∙ ap (is_worth records types w by_profile) same)
