-- The order of the fields of a part, and groups of fields that are accessed together (own). Fields have their numbers in the record.
use Rattle.std.specs.Prelude.{ℕ, zero, suc, ◌-◌, ◌*◌, ◌==◌, nat_lt, nat_le, min, Bool, true, not, ◌||◌, if◌then◌else◌, List, [], ◌∷◌, ◌++◌, filter, length, fold, Option, Some, None}
use Rattle.affinity.specs.declared.fields.FieldWeights.{FieldWeights}
use Rattle.affinity.specs.FieldWeights.{affinity_in, hotness_in}

abbrev pub others : (field : ℕ) → List ℕ → List ℕ
others f fields = filter (λ g. not (g == f)) fields

module _ (w : FieldWeights) where
  -- ---- order

  -- the hotter one, and of two equal ones the first
  abbrev pub hotter : (best next : ℕ) → ℕ
  hotter f g = if nat_lt (hotness_in w f) (hotness_in w g) then g else f

  -- the one nearer to the last field, and of two equal ones the hotter
  abbrev pub nearer : (last best next : ℕ) → ℕ
  nearer last f g = if nat_lt (affinity_in w last f) (affinity_in w last g)
      then g
      else (if nat_lt (affinity_in w last g) (affinity_in w last f) then f else hotter f g)

  abbrev pub hottest : List ℕ → Option ℕ
  hottest [] = None
  hottest (f ∷ more) = Some (fold hotter f more)

  abbrev pub nearest : (last : ℕ) → List ℕ → Option ℕ
  nearest last [] = None
  nearest last (f ∷ more) = Some (fold (nearer last) f more)

  -- so many fields: the given one, then the nearest to it of those that are left, and so on
  abbrev pub followed : (count : ℕ) → (next : Option ℕ) → List ℕ → List ℕ
  followed count None fields = []
  followed zero (Some f) fields = []
  followed (suc count) (Some f) fields = f ∷ followed count (nearest f (others f fields)) (others f fields)

  -- the hottest field of a part is its first
  abbrev pub placed : List ℕ → List ℕ
  placed fields = followed (length fields) (hottest fields) fields

  -- ---- groups

  -- the field is accessed with the leader of a group, which is its first, at least half as often as the one of both that is accessed less is
  abbrev pub is_with : List ℕ → (field : ℕ) → Bool
  is_with [] f = true
  is_with (leader ∷ group) f = nat_le (min (hotness_in w leader) (hotness_in w f)) (2 * affinity_in w leader f)

  -- a field joins the first group with whose leader it is, or opens one where there is room for more; the last for which there is room takes any
  abbrev pub joined : (room : ℕ) → List (List ℕ) → (field : ℕ) → List (List ℕ)
  joined room [] f = (f ∷ []) ∷ []
  joined room (group ∷ more) f = if room == 1 || is_with group f then (group ++ f ∷ []) ∷ more else group ∷ joined (room - 1) more f

  -- at most eight
  abbrev pub groups : List ℕ → List (List ℕ)
  groups fields = fold (joined 8) [] fields
