-- The fields of a record of a list: their types, and that they are small objects.
use Rattle.std.proofs.Common.{◌≡◌, ℕ, ◌<◌, ◌≤◌, List, length, slice_index_or, arith, refl, sym, ap, subst, ◌∙◌, IsTrue}
use Rattle.std.specs.Prelude.{IsSomeAnd, Option, Some, None, map, nat_lt, option_map, slice_get}
use Rattle.std.proofs.lemmas.Bool.{and_from, and_parts, lt-ltb, ltb-true}
use Rattle.std.proofs.lemmas.List.{length-map}
use Rattle.std.proofs.lemmas.Option.{get_or_from_slice_get, slice_get-get_or, slice_get-map, slice_get_past, slice_get_within}
use Rattle.c_types.specs.declared.record.Field.{Field}
use Rattle.c_types.specs.declared.record.Record as R
use Rattle.c_types.specs.Laws.{FieldsLieApart}
use Rattle.c_types.specs.Limits.{AreComplete, AreSmall}
use Rattle.c_types.specs.Objects.{is_object}
use Rattle.c_types.specs.Types.{CType, void, integer, pointer, array, function, structure}
use Rattle.c_types.specs.Types as T
use Rattle.c_types.specs.Views.{field_of, record_of, records_of, type_of, types_of_fields}
use Rattle.c_typed.specs.TypeNumbers.{type_at}
use Rattle.layout_plan.specs.PartSizes.{AreFieldsOf, AreSmallObjects}

-- ---- the type of a field

types_at : (own : List Field) (n : ℕ) (f : Field) → n < length own → f ≡ slice_index_or own n f
    → slice_get (types_of_fields own) n ≡ Some (type_of f.ty)
types_at own n f h is =
    slice_get-map (λ (x : T.Field). x.ty) (map field_of own) n
    ∙ ap (option_map (λ (x : T.Field). x.ty)) (slice_get-map field_of own n ∙ ap (option_map field_of) (slice_get-get_or own n f h))
    ∙ ap (λ (x : Field). Some (type_of x.ty)) (sym is)

pub type_found : (own : List Field) (n : ℕ) (f : Field) → n < length own → f ≡ slice_index_or own n f
    → type_at (types_of_fields own) n ≡ type_of f.ty
type_found own n f h is = rw (types_at own n f h is) refl

length-types : (own : List Field) → length (types_of_fields own) ≡ length own
length-types own = length-map (map field_of own) (λ (f : T.Field). f.ty) ∙ length-map own field_of

pub type_missing : (own : List Field) (n : ℕ) → length own ≤ n → type_at (types_of_fields own) n ≡ void
type_missing own n h = rw (slice_get_past (types_of_fields own) n (rw (length-types own) h)) refl

-- ---- that they are small objects

-- what is complete stays so over more records
object_later : (n m : ℕ) (t : CType) → n ≤ m → IsTrue (is_object n t) → IsTrue (is_object m t)
object_later n m void le h = h
object_later n m (integer kind) le h = h
object_later n m (pointer t) le h = h
object_later n m (array t k) le h =
    let parts = and_parts (nat_lt 0 k) (is_object n t) h in
    and_from (nat_lt 0 k) (is_object m t) parts.0 (object_later n m t le parts.1)
object_later n m (function t all) le h = h
object_later n m (structure number) le h = lt-ltb number m (omega (arith, le, ltb-true number n h))

small_at : (records : List R.Record) (number : ℕ) (r : R.Record) → slice_get records number ≡ Some r → AreComplete (records_of records)
    → AreSmall (records_of records) → FieldsLieApart (records_of records) → AreSmallObjects records r.fields
small_at records number r is complete small apart k d h =
    let f = slice_index_or r.fields k d in
    let same : f ≡ slice_index_or r.fields k f = sym (get_or_from_slice_get r.fields k f f (slice_get-get_or r.fields k d h)) in
    let found : slice_get (types_of_fields r.fields) k ≡ Some (type_of f.ty) = types_at r.fields k f h same in
    let there : slice_get (records_of records) number ≡ Some (record_of r) = slice_get-map record_of records number ∙ ap (option_map record_of) is in
    let inside : number < length records = slice_get_within records number r is in
    let t = type_of f.ty in
    let early : IsTrue (is_object number t) =
    rw (sym (get_or_from_slice_get (types_of_fields r.fields) k t t found))
    (complete number (record_of r) there k t (rw (length-types r.fields) h)) in
    let within = apart.within number k t (rw there found) in
    let bounded = small number (rw (length-map records record_of) inside) in
    (object_later number (length records) t (omega (arith, inside)) early, omega (arith, within, bounded))

pub fields_small : (records : List R.Record) (own : List Field) → AreFieldsOf records own → AreComplete (records_of records)
    → AreSmall (records_of records) → FieldsLieApart (records_of records) → AreSmallObjects records own
fields_small records own (number, are) complete small apart = by (slice_get records number) refl are
  where
    by : (o : Option R.Record) → slice_get records number ≡ o → IsSomeAnd o (λ r. r.fields ≡ own) → AreSmallObjects records own
    by None e h = absurd h
    by (Some r) e h = rw (sym h) (small_at records number r e complete small apart)

-- for callers: the fields of a record of the list are such
pub are_own : (records : List R.Record) (own : List Field) (number : ℕ) (r : R.Record) → slice_get records number ≡ Some r → own ≡ r.fields → AreFieldsOf records own
are_own records own number r is same = (number, subst (λ o. IsSomeAnd o (λ it. it.fields ≡ own)) (sym is) (sym same))
