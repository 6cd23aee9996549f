-- What becomes of a record that violates no test: its decision and the fields of each part in their order (own).
use Rattle.std.specs.Prelude.{ℕ, ◌+◌, ◌*◌, nat_lt, nat_le, max, Bool, true, false, not, ◌&&◌, if◌then◌else◌, List, [], ◌∷◌, filter, length, fold, map, take}
use Rattle.c_types.specs.Types.{CType, Record}
use Rattle.c_types.specs.Layouts.{size_of}
use Rattle.c_typed.specs.TypeNumbers.{type_at}
use Rattle.c_typed.specs.RunCounts.Counting.{numbers_below}
use Rattle.affinity.specs.declared.fields.FieldWeights.{FieldWeights}
use Rattle.affinity.specs.FieldWeights.{hotness_in, is_read_in}
use Rattle.layout_plan.specs.declared.outline.Outline.{Outline}
use Rattle.layout_plan.specs.declared.plans.Decision.{Decision}
use Rattle.layout_plan.specs.declared.plans.Decision.TheVariants.{Reordered, Split, Peeled}
use Rattle.layout_plan.specs.Order.{groups, placed}
use Rattle.layout_plan.specs.Parts.{is_too_big}
use Rattle.layout_plan.specs.Peeling.{is_among}

abbrev pub outline : Decision → List (List ℕ) → Outline
outline decision parts = record { decision = decision; parts = parts }

-- ---- the fields that stay: those whose value is loaded somewhere, and the first one where there are none

abbrev pub or_first : (declared stay : List ℕ) → List ℕ
or_first declared [] = take 1 declared
or_first declared (f ∷ more) = f ∷ more

-- of a record with so many fields
abbrev pub live : FieldWeights → (count : ℕ) → List ℕ
live w count = or_first (numbers_below count) (filter (is_read_in w) (numbers_below count))

module _ (records : List Record) (types : List CType) (w : FieldWeights) (by_profile : Bool) where
  abbrev pub in_order : Decision → List (List ℕ) → Outline
  in_order decision parts = outline decision (map (placed w) parts)

  -- ---- a record that may be peeled, by its groups

  abbrev pub peeled : List (List ℕ) → Outline
  peeled (one ∷ other ∷ more) = in_order Peeled (one ∷ other ∷ more)
  peeled few = in_order Reordered few

  -- ---- a record that may not

  abbrev pub greatest_hotness : List ℕ → ℕ
  greatest_hotness fields = fold (λ h f. max h (hotness_in w f)) 0 fields

  -- in thousandths of the greatest hotness
  abbrev pub per_mille : ℕ
  per_mille = if by_profile then 30 else 75

  abbrev pub is_cold : List ℕ → (field : ℕ) → Bool
  is_cold fields f = nat_lt (1000 * hotness_in w f) (per_mille * greatest_hotness fields)

  abbrev pub cold : List ℕ → List ℕ
  cold fields = filter (is_cold fields) fields

  abbrev pub total_size : List ℕ → ℕ
  total_size fields = fold (λ sum f. sum + size_of records (type_at types f)) 0 fields

  -- a link takes 4 bytes
  abbrev pub is_worth : (apart : List ℕ) → Bool
  is_worth apart = nat_le 2 (length apart) && nat_lt 4 (total_size apart)

  abbrev pub split : (fields apart : List ℕ) → Outline
  split fields apart = if is_worth apart
      then in_order Split (filter (λ f. not (is_among apart f)) fields ∷ apart ∷ [])
      else in_order Reordered (fields ∷ [])

  -- ---- either, where no part is too big

  abbrev pub planned : (is_peelable : Bool) → List ℕ → Outline
  planned true fields = peeled (groups w fields)
  planned false fields = split fields (cold fields)

  abbrev pub unless_too_big : (fields : List ℕ) → Outline → Outline
  unless_too_big fields o = if is_too_big records types o.decision o.parts then outline Reordered (fields ∷ []) else o

  abbrev pub outlined : (is_peelable : Bool) → Outline
  outlined is_peelable = unless_too_big (live w (length types)) (planned is_peelable (live w (length types)))
