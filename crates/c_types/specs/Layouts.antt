-- How objects lie in memory: alignments, sizes and offsets, all in bytes (C99 3.2, 6.2.6.1, 6.5.3.4, 6.7.2.1).
use Rattle.std.specs.Prelude.{ℕ, ◌+◌, ◌*◌, max, List, [], ◌∷◌, ◌++◌, fold, slice_get, slice_index, unwrap_or}
use Rattle.std.specs.Int.{next_multiple_of}
use Rattle.c_types.specs.declared.layout.Layout.{Layout}
use Rattle.c_types.specs.IntKinds.{width}
use Rattle.c_types.specs.Types.{CType, void, integer, pointer, array, function, structure, Record, field_types}

-- the layout of a record by its number in a list; there is none past its end
abbrev pub layout_at : List Layout → ℕ → Layout
layout_at known number = unwrap_or (slice_get known number) (record { offsets = []; size = 0; alignment = 1 })

-- the alignment of an object, which begins at a multiple of it; an integer or a pointer has its size as its alignment (own)
abbrev pub alignment_in : List Layout → CType → ℕ
alignment_in known void = 1
alignment_in known (integer kind) = width kind
alignment_in known (pointer t) = 4
alignment_in known (array t n) = alignment_in known t
alignment_in known (function t all) = 1
alignment_in known (structure number) = (layout_at known number).alignment

-- the size of an object; `void` and functions are no objects
abbrev pub size_in : List Layout → CType → ℕ
size_in known void = 0
size_in known (integer kind) = width kind
size_in known (pointer t) = 4
size_in known (array t n) = size_in known t * n
size_in known (function t all) = 0
size_in known (structure number) = (layout_at known number).size

-- ---- fields lie in declared order (6.7.2.1, paragraphs 12 to 15)

-- where a field begins that follows so many bytes: at the least multiple of its alignment from there on
abbrev pub begin_after : List Layout → ℕ → CType → ℕ
begin_after known before t = next_multiple_of before (alignment_in known t)

-- how many bytes there are up to the end of that field
abbrev pub end_after : List Layout → ℕ → CType → ℕ
end_after known before t = begin_after known before t + size_in known t

abbrev pub offsets_after : List Layout → ℕ → List CType → List ℕ
offsets_after known before [] = []
offsets_after known before (t ∷ more) = begin_after known before t ∷ offsets_after known (end_after known before t) more

-- of no field it is 1
abbrev pub greatest_alignment : List Layout → List CType → ℕ
greatest_alignment known [] = 1
greatest_alignment known (t ∷ more) = max (alignment_in known t) (greatest_alignment known more)

-- the first field begins at 0, and the size is rounded up to the greatest alignment
abbrev pub layout : List Layout → List CType → Layout
layout known types = record {
  offsets = offsets_after known 0 types;
  size = next_multiple_of (fold (end_after known) 0 types) (greatest_alignment known types);
  alignment = greatest_alignment known types;
}

-- the layouts of records, each found from those before it
abbrev pub layouts : List Record → List Layout
layouts records = fold (λ known r. known ++ layout known (field_types r) ∷ []) [] records

-- ---- over a list of records

abbrev pub size_of : List Record → CType → ℕ
size_of records t = size_in (layouts records) t

abbrev pub align_of : List Record → CType → ℕ
align_of records t = alignment_in (layouts records) t

-- where a field of the record with that number begins
abbrev pub offset_of : List Record → (number field : ℕ) → ℕ
offset_of records number field = slice_index (layout_at (layouts records) number).offsets field

-- the size of one more record, after those of the list
abbrev pub size_of_record : List Record → Record → ℕ
size_of_record records r = (layout (layouts records) (field_types r)).size
