-- Types that each stand once.
use Rattle.std.proofs.Common.{◌≡◌, ◌+◌, ◌<◌, ◌≤◌, ◌⊎◌, inl, inr, suc, zero, ℕ, Bool, true, false, List, [], ◌∷◌, ◌++◌, length, map, refl, sym, ap, ◌∙◌, arith}
use Rattle.std.proofs.Common.{rules}
use Rattle.std.specs.Prelude.{Some, if◌then◌else◌}
use Rattle.std.specs.List.{slice_get}
use Rattle.std.specs.Option.{option_map}
use Rattle.std.proofs.lemmas.Option.{slice_get-map}
use Rattle.c_types.proofs.SameTypes.{same_self}
use Rattle.c_types.specs.Sameness.{same_type}
use Rattle.c_types.specs.Types.{CType}
use Rattle.c_types.specs.Views.{type_of}
use Rattle.c_types.specs.declared.ty.Ty.{Ty}
use Rattle.c_erasure.specs.Units.{number_in}
use Rattle.c_numbers.specs.TypeNumbers.Adding.{AreOnce}

kept : (a b : List CType) (t : CType) → number_in a t < length a → number_in (a ++ b) t ≡ number_in a t
kept [] b t h = absurd (omega (arith, h))
kept (s ∷ more) b t h = go (same_type s t) h (λ k. kept more b t k)
  where
    go : (c : Bool) → (if c then 0 else number_in more t + 1) < length (s ∷ more)
        → (number_in more t < length more → number_in (more ++ b) t ≡ number_in more t)
        → (if c then 0 else number_in (more ++ b) t + 1) ≡ (if c then 0 else number_in more t + 1)
    go true h rest = refl
    go false h rest = ap (λ n. n + 1) (rest (omega (arith, h)))

past : (a : List CType) (t : CType) → length a ≤ number_in a t → number_in (a ++ t ∷ []) t ≡ length a
past [] t h = ap (λ c. if c then 0 else 1) (same_self t t refl)
past (s ∷ more) t h = go (same_type s t) h (λ k. past more t k)
  where
    go : (c : Bool) → length (s ∷ more) ≤ (if c then 0 else number_in more t + 1)
        → (length more ≤ number_in more t → number_in (more ++ t ∷ []) t ≡ length more)
        → (if c then 0 else number_in (more ++ t ∷ []) t + 1) ≡ length (s ∷ more)
    go true h rest = absurd (omega (arith, h))
    go false h rest = omega (arith, rest (omega (arith, h)))

-- what stands in a list with one more at its end
last_or_before : (a : List CType) (t u : CType) (i : ℕ) → slice_get (a ++ t ∷ []) i ≡ Some u
    → ((slice_get a i ≡ Some u) × (i < length a)) ⊎ ((u ≡ t) × (i ≡ length a))
last_or_before [] t u zero h = inr (search rules, refl)
last_or_before [] t u (suc i) h = absurd (search rules)
last_or_before (s ∷ more) t u zero h = inl (h, omega arith)
last_or_before (s ∷ more) t u (suc i) h = go (last_or_before more t u i h)
  where
    go : ((slice_get more i ≡ Some u) × (i < length more)) ⊎ ((u ≡ t) × (i ≡ length more))
        → ((slice_get more i ≡ Some u) × (suc i < length (s ∷ more))) ⊎ ((u ≡ t) × (suc i ≡ length (s ∷ more)))
    go (inl (e, k)) = inl (e, omega (arith, k))
    go (inr (e, k)) = inr (e, omega (arith, k))

pub one_more_once : (types : List CType) (t : CType) → AreOnce types → length types ≤ number_in types t → AreOnce (types ++ t ∷ [])
one_more_once types t once h i u e = go (last_or_before types t u i e)
  where
    go : ((slice_get types i ≡ Some u) × (i < length types)) ⊎ ((u ≡ t) × (i ≡ length types)) → number_in (types ++ t ∷ []) u ≡ i
    go (inl (e, k)) =
        let n = once i u e in
        kept types (t ∷ []) u (omega (arith, n, k)) ∙ n
    go (inr (e, k)) = ap (λ v. number_in (types ++ t ∷ []) v) e ∙ past types t h ∙ sym k

-- a type that is the same as one at a place has that number
pub number_is : (types : List Ty) (i : ℕ) (s : Ty) (t : CType) → AreOnce (map type_of types) → slice_get types i ≡ Some s → type_of s ≡ t
    → i ≡ number_in (map type_of types) t
number_is types i s t once h e =
    sym (once i (type_of s) (slice_get-map type_of types i ∙ ap (option_map type_of) h)) ∙ ap (number_in (map type_of types)) e
