-- Sizes of the fields of a record.
use Rattle.std.proofs.Common.{◌≡◌, ℕ, ◌+◌, ◌<◌, ◌≤◌, ◌^◌, Bool, true, false, List, [], ◌∷◌, length, refl, ap, ◌∙◌, arith, map, sym, subst, drop, drop-cons, get_or, suc}
use Rattle.std.specs.Prelude.{All, IsSomeAnd, IsTrue, slice_get, Option, Some, None, nat_lt, nat_le, unwrap_or}
use Rattle.std.specs.Option.{option_map}
use Rattle.std.specs.Bool.{then_some}
use Rattle.std.proofs.lemmas.Bool.{and_from, and_parts, lt-ltb, ltb-true, leb-true, leb-false}
use Rattle.std.proofs.lemmas.List.Elements.{All-get_or}
use Rattle.std.proofs.lemmas.Option.{get_or_from_slice_get, slice_get-map, slice_get_within}
use Rattle.c_types.specs.declared.record.Field
use Rattle.c_types.specs.declared.record.Record as Records
use Rattle.c_types.specs.Layouts.{size_of}
use Rattle.c_types.specs.Limits.{AreComplete, size_if_small}
use Rattle.c_types.specs.Objects.{is_object}
use Rattle.c_types.specs.Types as T
use Rattle.c_types.specs.Types.{CType, Record, void, integer, pointer, array, function, structure, field_types}
use Rattle.c_types.specs.Views.{field_of, record_of, records_of, types_of_fields, type_of}
use Rattle.c_typed.specs.TypeNumbers.{type_at}
use Rattle.layout_plan.specs.PartSizes.{AreFieldsOf}
use Rattle.layout_plan.specs.Sides.{sizes}

-- ---- types of fields are object types

more_records : (n m : ℕ) → n ≤ m → (t : CType) → IsTrue (is_object n t) → IsTrue (is_object m t)
more_records n m le void h = h
more_records n m le (integer kind) h = h
more_records n m le (pointer t) h = h
more_records n m le (array t count) h =
    let parts = and_parts (nat_lt 0 count) (is_object n t) h in
    and_from (nat_lt 0 count) (is_object m t) parts.0 (more_records n m le t parts.1)
more_records n m le (function t all) h = h
more_records n m le (structure number) h = lt-ltb number m (omega (arith, ltb-true number n h, le))

at : {X : Type 0} (P : X → Type 0) (all : List X) (i : ℕ) (x : X) → All P all → slice_get all i ≡ Some x → P x
at P all i x h e = subst P (get_or_from_slice_get all i x x e) (All-get_or P all i x (slice_get_within all i x e) h)

type_there : (own : List Field.Field) (f : ℕ) (field : Field.Field) → slice_get own f ≡ Some field
    → slice_get (types_of_fields own) f ≡ Some (type_of field.ty)
type_there own f field e = slice_get-map (λ (g : T.Field). g.ty) (map field_of own) f
    ∙ ap (option_map (λ (g : T.Field). g.ty)) (slice_get-map field_of own f ∙ ap (option_map field_of) e)

pub whole : (records : List Records.Record) (own : List Field.Field) (f : ℕ) (field : Field.Field) → AreComplete (records_of records)
    → AreFieldsOf records own → slice_get own f ≡ Some field → IsTrue (is_object (length records) (type_of field.ty))
whole records own f field complete of i = go (slice_get records of.0) refl of.1
  where
    go : (o : Option Records.Record) → slice_get records of.0 ≡ o → IsSomeAnd o (λ r. r.fields ≡ own) → IsTrue (is_object (length records) (type_of field.ty))
    go None e k = absurd k
    go (Some r) e k =
        let there : slice_get (records_of records) of.0 ≡ Some (record_of r) = slice_get-map record_of records of.0 ∙ ap (option_map record_of) e in
        let type : slice_get (field_types (record_of r)) f ≡ Some (type_of field.ty)
        = type_there r.fields f field (subst (λ all. slice_get all f ≡ Some field) (sym k) i) in
        more_records of.0 (length records) (omega (arith, slice_get_within records of.0 r e)) (type_of field.ty)
        (at (λ t. IsTrue (is_object of.0 t)) (field_types (record_of r)) f (type_of field.ty) (complete of.0 (record_of r) there) type)

pub found : (own : List Field.Field) (f : ℕ) (field : Field.Field) → slice_get own f ≡ Some field → type_at (types_of_fields own) f ≡ type_of field.ty
found own f field e = ap (λ t. unwrap_or t void) (type_there own f field e)

pub none_found : (own : List Field.Field) (f : ℕ) → slice_get own f ≡ None → type_at (types_of_fields own) f ≡ void
none_found own f e = ap (λ t. unwrap_or t void) (slice_get-map (λ (g : T.Field). g.ty) (map field_of own) f
    ∙ ap (option_map (λ (g : T.Field). g.ty)) (slice_get-map field_of own f ∙ ap (option_map field_of) e))

-- ---- sums of sizes

at_least : (records : List Record) (types : List CType) (sum : ℕ) (fields : List ℕ) → sum ≤ sizes records types sum fields
at_least records types sum [] = omega arith
at_least records types sum (f ∷ more) = omega (arith, at_least records types (sum + size_of records (type_at types f)) more)

-- with the next one
passed : (records : List Record) (types : List CType) (sum : ℕ) (all : List ℕ) (i : ℕ) → i < length all
    → 4 < sum + size_of records (type_at types (get_or all i 0)) → 4 < sizes records types sum (drop i all)
passed records types sum all i h k =
    let least = at_least records types (sum + size_of records (type_at types (get_or all i 0))) (drop (suc i) all) in
    subst (λ rest. 4 < sizes records types sum rest) (sym (drop-cons all i 0 h)) (omega (arith, k, least))

small : (n size : ℕ) → Some n ≡ size_if_small size → (n ≡ size) × (size ≤ 2 ^ 24)
small n size h = go (nat_le size (2 ^ 24)) refl h
  where
    go : (l : Bool) → nat_le size (2 ^ 24) ≡ l → Some n ≡ then_some l size → (n ≡ size) × (size ≤ 2 ^ 24)
    go true e h = (let k : Some n ≡ Some size = h in cc, leb-true size (2 ^ 24) e)
    go false e h = absurd (let k : Some n ≡ None = h in cc)

large : (size : ℕ) → None ≡ size_if_small size → 2 ^ 24 < size
large size h = go (nat_le size (2 ^ 24)) refl h
  where
    go : (l : Bool) → nat_le size (2 ^ 24) ≡ l → None ≡ then_some l size → 2 ^ 24 < size
    go true e h = absurd (let k : None ≡ Some size = h in cc)
    go false e h = leb-false size (2 ^ 24) e

pub passed_by : (records : List Record) (types : List CType) (sum : ℕ) (all : List ℕ) (i n : ℕ) → i < length all
    → Some n ≡ size_if_small (size_of records (type_at types (get_or all i 0))) → 4 < sum + n → 4 < sizes records types sum (drop i all)
passed_by records types sum all i n h k l =
    passed records types sum all i h (omega (arith, l, (small n (size_of records (type_at types (get_or all i 0))) k).0))

pub passed_alone : (records : List Record) (types : List CType) (sum : ℕ) (all : List ℕ) (i : ℕ) → i < length all
    → None ≡ size_if_small (size_of records (type_at types (get_or all i 0))) → 4 < sizes records types sum (drop i all)
passed_alone records types sum all i h k =
    passed records types sum all i h (omega (arith, large (size_of records (type_at types (get_or all i 0))) k))
