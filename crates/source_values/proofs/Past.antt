-- What is found past the end of a list: `void`, and sizes and offsets of 0.
use Rattle.std.proofs.Common.{◌≡◌, ◌≤◌, ◌<◌, ℕ, suc, List, [], ◌∷◌, length, take, get_or, refl, sym, ap, ◌∙◌, arith}
use Rattle.std.specs.Prelude.{map, option_map, slice_get, slice_index, unwrap_or, Option, Some, None, IsSomeAnd}
use Rattle.std.proofs.lemmas.List.{length-map, get_or_past}
use Rattle.std.proofs.lemmas.Option.{slice_get_past, slice_get-map, slice_get-get_or}
use Rattle.c_types.specs.declared.layout.Layout.{Layout}
use Rattle.c_types.specs.declared.record.Record as R
use Rattle.c_types.specs.declared.ty.Ty.{Ty}
use Rattle.c_types.specs.Laws.{FieldsLieApart}
use Rattle.c_types.specs.Layouts.{end_after, layout, layout_at, layouts, offset_of, offsets_after, size_of}
use Rattle.c_types.specs.Limits.{AreSmall, greatest_size}
use Rattle.c_types.specs.Types as T
use Rattle.c_types.specs.Types.{CType, Record, field_types, structure, void}
use Rattle.c_types.specs.Views.{field_of, record_of, records_of, type_of}
use Rattle.c_types.proofs.Before.{layout_of, length-layouts}
use Rattle.c_typed.specs.declared.program.Typed.{Typed}
use Rattle.c_typed.specs.Programs.{program_data}
use Rattle.c_meaning.specs.Program.{type_at}
use Rattle.source_values.specs.Rows.{type_if_any}

-- ---- types

if_any_is : (o : Option Ty) → type_if_any o ≡ unwrap_or (option_map type_of o) void
if_any_is None = refl
if_any_is (Some t) = refl

pub type_found : (p : Typed) (n : ℕ) → type_if_any (slice_get p.types n) ≡ type_at (program_data p) n
type_found p n = if_any_is (slice_get p.types n) ∙ sym (ap (λ (o : Option CType). unwrap_or o void) (slice_get-map type_of p.types n))

-- ---- records

abbrev none : Layout
none = record { offsets = []; size = 0; alignment = 1 }

abbrev or_none : Option Layout → Layout
or_none o = unwrap_or o none

no_layout : (records : List R.Record) (number : ℕ) → length records ≤ number → layout_at (layouts (records_of records)) number ≡ none
no_layout records number h =
    let past : length (layouts (records_of records)) ≤ number = omega (arith, length-layouts (records_of records), length-map records record_of) in
    ap or_none (slice_get_past (layouts (records_of records)) number past)

pub no_size : (records : List R.Record) (number : ℕ) → length records ≤ number → 0 ≡ size_of (records_of records) (structure number)
no_size records number h = sym (ap (λ (l : Layout). l.size) (no_layout records number h))

pub small_record : (records : List R.Record) (number : ℕ) → number < length records → AreSmall (records_of records)
    → size_of (records_of records) (structure number) ≤ greatest_size
small_record records number h small =
    let inside : number < length (records_of records) = omega (arith, length-map records record_of) in
    small number inside

pub no_record : (records : List R.Record) (number field : ℕ) → length records ≤ number → 0 ≡ offset_of (records_of records) number field
no_record records number field h = sym (ap (λ (l : Layout). slice_index l.offsets field) (no_layout records number h))

-- ---- fields

length-offsets : (known : List Layout) (before : ℕ) (types : List CType) → length (offsets_after known before types) ≡ length types
length-offsets known before [] = refl
length-offsets known before (t ∷ more) = ap suc (length-offsets known (end_after known before t) more)

length-field_types : (r : R.Record) → length (field_types (record_of r)) ≡ length r.fields
length-field_types r = length-map (map field_of r.fields) (λ (f : T.Field). f.ty) ∙ length-map r.fields field_of

module _ (records : List R.Record) (number : ℕ) (r : R.Record) (is : slice_get records number ≡ Some r) where
  there : slice_get (records_of records) number ≡ Some (record_of r)
  there = slice_get-map record_of records number ∙ ap (option_map record_of) is

  abbrev known : List Layout
  known = layouts (take number (records_of records))

  laid : layout_at (layouts (records_of records)) number ≡ layout known (field_types (record_of r))
  laid = ap or_none (layout_of (records_of records) number (record_of r) there)

  pub no_field : (field : ℕ) → length r.fields ≤ field → 0 ≡ offset_of (records_of records) number field
  no_field field h =
      let past : length (offsets_after known 0 (field_types (record_of r))) ≤ field =
      omega (arith, length-offsets known 0 (field_types (record_of r)), length-field_types r) in
      sym (ap (λ (l : Layout). slice_index l.offsets field) laid ∙ get_or_past (offsets_after known 0 (field_types (record_of r))) field 0 past)

  field_is : (field : ℕ) → field < length r.fields → (t : CType) × (slice_get (field_types (record_of r)) field ≡ Some t)
  field_is field h =
      let inside : field < length (field_types (record_of r)) = omega (arith, length-field_types r) in
      (get_or (field_types (record_of r)) field void, slice_get-get_or (field_types (record_of r)) field void inside)

  pub small_offset : (field : ℕ) → field < length r.fields → FieldsLieApart (records_of records) → AreSmall (records_of records)
      → number < length records → offset_of (records_of records) number field ≤ greatest_size
  small_offset field h apart small known_record =
      let found = field_is field h in
      let it : IsSomeAnd (slice_get (records_of records) number) (λ r. slice_get (field_types r) field ≡ Some found.0) = rw there found.1 in
      let within = apart.within number field found.0 it in
      let inside : number < length (records_of records) = omega (arith, length-map records record_of) in
      omega (arith, within, small number inside)
