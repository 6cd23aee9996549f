-- Sizes of objects and records, and offsets of fields, also of those that are not there.
use Rattle.std.proofs.Common.{◌≡◌, ℕ, zero, suc, ◌-◌, ◌^◌, ◌≤◌, ◌<◌, min, List, [], ◌∷◌, length, take, get_or, map, refl, sym, ap, ◌∙◌, arith}
use Rattle.std.specs.Prelude.{option_map, slice_get, slice_index, unwrap_or, Option, Some}
use Rattle.std.proofs.lemmas.List.{length-map, get_or_past}
use Rattle.std.proofs.lemmas.Option.{slice_get_past, slice_get-map}
use Rattle.c_types.proofs.Before.{layout_of, length-layouts}
use Rattle.c_types.specs.declared.layout.Layout.{Layout}
use Rattle.c_types.specs.declared.record.Record as R
use Rattle.c_types.specs.Layouts.{end_after, layout, layout_at, layouts, offset_of, offsets_after, size_of}
use Rattle.c_types.specs.Limits.{AreSmall, greatest_size}
use Rattle.c_types.specs.Types as T
use Rattle.c_types.specs.Types.{CType, field_types, structure, void}
use Rattle.c_types.specs.Views.{field_of, record_of, records_of, type_of}
use Rattle.c_annotated.specs.declared.file.Object.{Object}
use Rattle.c_initial_values.specs.Values.{object_with}

abbrev none : Layout
none = record { offsets = []; size = 0; alignment = 1 }

abbrev or_none : Option Layout → Layout
or_none o = unwrap_or o none

no_layout : (records : List R.Record) (number : ℕ) → length records ≤ number → layout_at (layouts (records_of records)) number ≡ none
no_layout records number h =
    let past : length (layouts (records_of records)) ≤ number = omega (arith, length-layouts (records_of records), length-map records record_of) in
    ap or_none (slice_get_past (layouts (records_of records)) number past)

pub no_size : (records : List R.Record) (number : ℕ) → length records ≤ number → 0 ≡ size_of (records_of records) (structure number)
no_size records number h = sym (ap (λ (l : Layout). l.size) (no_layout records number h))

pub small_record : (records : List R.Record) (number : ℕ) → number < length records → AreSmall (records_of records)
    → size_of (records_of records) (structure number) ≤ greatest_size
small_record records number h small =
    let inside : number < length (records_of records) = omega (arith, length-map records record_of) in
    small number inside

pub no_record : (records : List R.Record) (number field : ℕ) → length records ≤ number → 0 ≡ offset_of (records_of records) number field
no_record records number field h = sym (ap (λ (l : Layout). slice_index l.offsets field) (no_layout records number h))

length-offsets : (known : List Layout) (before : ℕ) (types : List CType) → length (offsets_after known before types) ≡ length types
length-offsets known before [] = refl
length-offsets known before (t ∷ more) = ap suc (length-offsets known (end_after known before t) more)

length-field_types : (r : R.Record) → length (field_types (record_of r)) ≡ length r.fields
length-field_types r = length-map (map field_of r.fields) (λ (f : T.Field). f.ty) ∙ length-map r.fields field_of

module _ (records : List R.Record) (number : ℕ) (r : R.Record) (is : slice_get records number ≡ Some r) where
  there : slice_get (records_of records) number ≡ Some (record_of r)
  there = slice_get-map record_of records number ∙ ap (option_map record_of) is

  abbrev earlier : List Layout
  earlier = layouts (take number (records_of records))

  laid : layout_at (layouts (records_of records)) number ≡ layout earlier (field_types (record_of r))
  laid = ap or_none (layout_of (records_of records) number (record_of r) there)

  pub no_field : (field : ℕ) → length r.fields ≤ field → 0 ≡ offset_of (records_of records) number field
  no_field field h =
      let past : length (offsets_after earlier 0 (field_types (record_of r))) ≤ field =
      omega (arith, length-offsets earlier 0 (field_types (record_of r)), length-field_types r) in
      sym (ap (λ (l : Layout). slice_index l.offsets field) laid ∙ get_or_past (offsets_after earlier 0 (field_types (record_of r))) field 0 past)

read : (objects : List Object) (n : ℕ) (d : Object) → n < length objects
    → type_of (get_or objects n d).ty ≡ get_or (map (λ o. o.ty) (map object_with (map (λ o. type_of o.ty) objects))) n void
read [] n d h = absurd (omega (arith, h))
read (o ∷ more) zero d h = refl
read (o ∷ more) (suc n) d h = read more n d (omega (arith, h))

pub known : (objects : List Object) (n : ℕ) (o : Object) → n < length objects → o ≡ get_or objects n o
    → type_of o.ty ≡ get_or (map (λ o. o.ty) (map object_with (map (λ o. type_of o.ty) objects))) n void
known objects n o h e = ap (λ it. type_of it.ty) e ∙ read objects n o h

pub unknown : (records : List R.Record) (objects : List Object) (n : ℕ) → length objects ≤ n
    → 0 ≡ min (size_of (records_of records) (get_or (map (λ o. o.ty) (map object_with (map (λ o. type_of o.ty) objects))) n void)) (2 ^ 64 - 1)
unknown records [] n h = refl
unknown records (o ∷ more) zero h = absurd (omega (arith, h))
unknown records (o ∷ more) (suc n) h = unknown records more n (omega (arith, h))
