-- Where the fields of parts lie, and how large parts are (C99 6.7.2.1, as for records).
use Rattle.std.specs.Prelude.{ℕ, zero, ◌+◌, ◌==◌, nat_lt, Bool, if◌then◌else◌, List, [], ◌∷◌, ◌++◌, map, drop, length, flat_map, Option, Some, None}
use Rattle.std.specs.List.{list_any}
use Rattle.c_types.specs.Types.{CType, void, pointer, Record}
use Rattle.c_types.specs.declared.layout.Layout.{Layout}
use Rattle.c_types.specs.Layouts.{layout, layouts}
use Rattle.c_types.specs.Limits.{greatest_size}
use Rattle.c_typed.specs.TypeNumbers.{type_at}
use Rattle.layout_plan.specs.declared.plans.Decision.{Decision}
use Rattle.layout_plan.specs.declared.plans.Decision.TheVariants.{Split}
use Rattle.layout_plan.specs.declared.plans.PartField.{PartField}
use Rattle.layout_plan.specs.declared.parts.Placed.{Placed}

abbrev pub placed_at : (field part offset : ℕ) → Placed
placed_at field part offset = record { field = field; at = record { part = part; offset = offset } }

-- the first part of a split record begins with the link to the other one
abbrev pub link : Decision → (part : ℕ) → List CType
link Split zero = pointer void ∷ []
link decision part = []

-- over the records of a program and the types of the fields of one of them
module _ (records : List Record) (types : List CType) where
  abbrev pub part_layout : (front : List CType) → List ℕ → Layout
  part_layout front fields = layout (layouts records) (front ++ map (type_at types) fields)

  abbrev pub part_sizes : Decision → (part : ℕ) → List (List ℕ) → List ℕ
  part_sizes decision part [] = []
  part_sizes decision part (fields ∷ more) = (part_layout (link decision part) fields).size ∷ part_sizes decision (part + 1) more

  -- a part, or one record that holds the fields of all parts, is larger than a record may be
  abbrev pub is_too_big : Decision → List (List ℕ) → Bool
  is_too_big decision parts = list_any (nat_lt greatest_size) ((part_layout [] (flat_map (λ fields. fields) parts)).size ∷ part_sizes decision 0 parts)

  abbrev pub with_offsets : (part : ℕ) → List ℕ → (offsets : List ℕ) → List Placed
  with_offsets part (f ∷ more) (offset ∷ offsets) = placed_at f part offset ∷ with_offsets part more offsets
  with_offsets part fields offsets = []

  -- behind the link, if there is one
  abbrev pub placed_in_part : (front : List CType) → (part : ℕ) → List ℕ → List Placed
  placed_in_part front part fields = with_offsets part fields (drop (length front) (part_layout front fields).offsets)

  abbrev pub placed_in_parts : Decision → (part : ℕ) → List (List ℕ) → List Placed
  placed_in_parts decision part [] = []
  placed_in_parts decision part (fields ∷ more) = placed_in_part (link decision part) part fields ++ placed_in_parts decision (part + 1) more

-- where a field lies, if it does
abbrev pub place_in : List Placed → (field : ℕ) → Option PartField
place_in [] f = None
place_in (p ∷ more) f = if p.field == f then Some p.at else place_in more f
