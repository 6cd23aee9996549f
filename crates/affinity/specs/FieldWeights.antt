-- How often the fields of one record are accessed, alone and two together, and which of them are read: lists over its fields in declared order.
use Rattle.std.specs.Prelude.{ℕ, Bool, false, List, map, Option, Some, None, slice_get, unwrap_or}
use Rattle.c_typed.specs.RunCounts.Counting.{numbers_below}
use Rattle.affinity.specs.declared.fields.FieldWeights.{FieldWeights}
use Rattle.affinity.specs.declared.weights.Weights.{Weights}
use Rattle.affinity.specs.Sums.{affinity, hotness, is_read}

-- of the record of that number, which has so many fields
abbrev pub hotnesses : Weights → (of count : ℕ) → List ℕ
hotnesses w of count = map (λ f. hotness w.groups of f w.accesses) (numbers_below count)

abbrev pub affinities : Weights → (of count : ℕ) → List (List ℕ)
affinities w of count = map (λ f. map (λ g. affinity w.groups of f g w.accesses) (numbers_below count)) (numbers_below count)

abbrev pub field_weights : Weights → (of count : ℕ) → FieldWeights
field_weights w of count = record {
  read = map (λ f. is_read of f w.accesses) (numbers_below count);
  hotness = hotnesses w of count;
  affinity = affinities w of count;
}

-- ---- of a field by its number; none is read, hot or near to another past the last

abbrev pub is_read_in : FieldWeights → (field : ℕ) → Bool
is_read_in w f = unwrap_or (slice_get w.read f) false

abbrev pub hotness_in : FieldWeights → (field : ℕ) → ℕ
hotness_in w f = unwrap_or (slice_get w.hotness f) 0

abbrev pub row : Option (List ℕ) → (other : ℕ) → ℕ
row None g = 0
row (Some all) g = unwrap_or (slice_get all g) 0

abbrev pub affinity_in : FieldWeights → (one other : ℕ) → ℕ
affinity_in w f g = row (slice_get w.affinity f) g
