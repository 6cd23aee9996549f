-- What functions on parts ask, and what private ones answer.
use Rattle.std.specs.Prelude.{◌≡◌, ℕ, ◌≤◌, ◌^◌, Bool, IsSomeAnd, IsTrue, List, [], ◌∷◌, length, All, slice_get}
use Rattle.c_types.specs.declared.record.Field.{Field}
use Rattle.c_types.specs.declared.record.Record.{Record}
use Rattle.c_types.specs.Layouts.{size_of}
use Rattle.c_types.specs.Limits.{greatest_size}
use Rattle.c_types.specs.Objects.{is_object}
use Rattle.c_types.specs.Types as Types
use Rattle.c_types.specs.Types.{CType}
use Rattle.c_types.specs.Views.{records_of, type_of}
use Rattle.affinity.specs.declared.fields.FieldWeights.{FieldWeights}
use Rattle.legality.specs.declared.violation.Violation.{Violation}
use Rattle.layout_plan.specs.declared.outline.Outline.{Outline}
use Rattle.layout_plan.specs.declared.parts.Extent.{Extent}
use Rattle.layout_plan.specs.declared.plans.Decision.TheVariants.{Refused}
use Rattle.layout_plan.specs.Outlines.{outline, outlined}
use Rattle.layout_plan.specs.Parts.{part_sizes}
use Rattle.c_typed.specs.RunCounts.Counting.{numbers_below}

-- they are the fields of one of these records
abbrev pub AreFieldsOf : List Record → List Field → Type 0
AreFieldsOf records own = (number : ℕ) × IsSomeAnd (slice_get records number) (λ r. r.fields ≡ own)

abbrev pub AreSmallObjects : List Record → List Field → Type 0
AreSmallObjects records own = All (λ f. IsTrue (is_object (length records) (type_of f.ty)) × (size_of (records_of records) (type_of f.ty) ≤ greatest_size)) own

-- what stands in front of the fields of a part: the link, or nothing
abbrev pub front_of : List CType → Extent
front_of [] = record { end = 0; alignment = 1 }
front_of (t ∷ more) = record { end = 4; alignment = 4 }

-- there are few parts, each no larger than a record may be
pub record IsSmall (records : List Types.Record) (types : List CType) (o : Outline) : Type 0 where
  pub few : length o.parts ≤ 2 ^ 8
  pub sizes : All (λ size. size ≤ greatest_size) (part_sizes records types o.decision 0 o.parts)

-- the outlines that there are of a record
pub record OutlinesAreSmall (records : List Types.Record) (types : List CType) : Type 0 where
  pub refused : (v : Violation) → IsSmall records types (outline (Refused v) (numbers_below (length types) ∷ []))
  pub others : (w : FieldWeights) (by_profile is_peelable : Bool) → IsSmall records types (outlined records types w by_profile is_peelable)
