-- Each field of a record has an offset.
use Rattle.std.proofs.Common.{◌≡◌, ℕ, suc, ◌<◌, List, [], ◌∷◌, length, take, refl, ap, ◌∙◌}
use Rattle.std.specs.Prelude.{map, option_map, slice_get, Option, Some, None, IsSomeAnd}
use Rattle.std.proofs.lemmas.List.{length-map}
use Rattle.std.proofs.lemmas.Option.{slice_get-map}
use Rattle.c_types.specs.declared.layout.Layout.{Layout}
use Rattle.c_types.specs.declared.record.Record as R
use Rattle.c_types.specs.Layouts.{end_after, layouts, layout_at, offsets_after}
use Rattle.c_types.specs.Types.{CType, Record, field_types}
use Rattle.c_types.specs.Types as T
use Rattle.c_types.specs.Views.{field_of, record_of, records_of}
use Rattle.c_types.proofs.Before.{layout_of}

length-offsets : (known : List Layout) (before : ℕ) (types : List CType) → length (offsets_after known before types) ≡ length types
length-offsets known before [] = refl
length-offsets known before (t ∷ more) = ap suc (length-offsets known (end_after known before t) more)

length-field_types : (r : R.Record) → length (field_types (record_of r)) ≡ length r.fields
length-field_types r = length-map (map field_of r.fields) (λ (f : T.Field). f.ty) ∙ length-map r.fields field_of

pub offset_within : (records : List R.Record) (number field : ℕ) → IsSomeAnd (slice_get records number) (λ it. field < length it.fields)
    → field < length (layout_at (layouts (records_of records)) number).offsets
offset_within records number field h = at (slice_get records number) refl h
  where
    at : (o : Option R.Record) → slice_get records number ≡ o → IsSomeAnd o (λ it. field < length it.fields)
        → field < length (layout_at (layouts (records_of records)) number).offsets
    at None e h = absurd h
    at (Some r) e h =
        let there : slice_get (records_of records) number ≡ Some (record_of r) = slice_get-map record_of records number ∙ ap (option_map record_of) e in
        rw (layout_of (records_of records) number (record_of r) there)
        (rw (length-offsets (layouts (take number (records_of records))) 0 (field_types (record_of r)), length-field_types r) h)
