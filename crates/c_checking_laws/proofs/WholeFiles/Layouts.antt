-- Where parts of objects lie, over a list of records that grows (C99 6.7.2.1).
use Rattle.std.proofs.Common.{◌≡◌, ℕ, zero, suc, ◌+◌, ◌≤◌, ◌<◌, true, refl, sym, ap, ◌∙◌, subst, List, [], ◌∷◌, length}
use Rattle.std.proofs.Common.{arith}
use Rattle.std.proofs.lemmas.Bool.{ltb-true}
use Rattle.std.proofs.lemmas.Option.{slice_get_within, get_or_from_slice_get}
use Rattle.std.specs.Prelude.{map, Option, Some, None, slice_get, IsSomeAnd}
use Rattle.std.specs.Option.{option_map}
use Rattle.c_types.specs.Types.{CType, structure, Field, Record, field_types}
use Rattle.c_types.specs.Layouts.{size_of, offset_of}
use Rattle.c_types.specs.Limits.{AreComplete}
use Rattle.c_types.specs.Objects.{is_object}
use Rattle.c_types.specs.Laws.{IsField}
use Rattle.c_types.proofs.Growing.{layouts_stay}
use Rattle.c_types.proofs.Apart.{fields_lie_apart}
use Rattle.c_typed.specs.Typed.{type_in, field_type}
use Rattle.c_erasure.specs.Scopes.{FileScope}
use Rattle.c_checking_laws.proofs.Extends.{Extends, records_grow, record_stays}
use Rattle.c_checking_laws.proofs.Settled.{object_more}

-- what holds of the records of a whole file: their fields are complete, and no object is empty
pub record IsLaid (g : FileScope) : Type 0 where
  pub complete : AreComplete g.records
  pub not_empty : (t : CType) → is_object (length g.records) t ≡ true → 0 < size_of g.records t

-- ---- what is complete stays so, and lies where it did

pub object_stays : {f g : FileScope} → Extends f g → (t : CType) → is_object (length f.records) t ≡ true → is_object (length g.records) t ≡ true
object_stays {f} {g} p t h = object_more (length f.records) (length g.records) (records_grow p) t h

pub size_stays : {f g : FileScope} → Extends f g → (t : CType) → is_object (length f.records) t ≡ true → size_of g.records t ≡ size_of f.records t
size_stays {f} {g} p t h = ap (λ all. size_of all t) p.records.1 ∙ (layouts_stay f.records p.records.0).sizes t h

pub offset_stays : {f g : FileScope} → Extends f g → (r k : ℕ) (rec : Record) → slice_get f.records r ≡ Some rec
    → offset_of g.records r k ≡ offset_of f.records r k
offset_stays {f} {g} p r k rec h =
    ap (λ all. offset_of all r k) p.records.1 ∙ (layouts_stay f.records p.records.0).offsets r k (slice_get_within f.records r rec h)

-- ---- fields

-- the fields of a record from one on
abbrev pub AreFields : List Record → (r k : ℕ) → List Field → Type 0
AreFields records r k fields = (j : ℕ) (f : Field) → slice_get fields j ≡ Some f → field_type records r (k + j) ≡ Some f.ty

type_is : (rec : Record) (k : ℕ) (f : Field) → slice_get rec.fields k ≡ Some f → type_in (Some rec) k ≡ Some f.ty
type_is rec k f e = rw e refl

pub fields_are : (records : List Record) (r : ℕ) (rec : Record) → slice_get records r ≡ Some rec → AreFields records r 0 rec.fields
fields_are records r rec h j f e =
    let n : 0 + j ≡ j = omega arith in
    subst (λ n. field_type records r n ≡ Some f.ty) (sym n) (ap (λ o. type_in o j) h ∙ type_is rec j f e)

pub later_fields : (records : List Record) (r k : ℕ) (f : Field) (later : List Field) → AreFields records r k (f ∷ later) → AreFields records r (k + 1) later
later_fields records r k f later h j g e =
    let n : k + 1 + j ≡ k + suc j = omega arith in
    subst (λ n. field_type records r n ≡ Some g.ty) (sym n) (h (suc j) g e)

pub first_field : (records : List Record) (r k : ℕ) (f : Field) (later : List Field) → AreFields records r k (f ∷ later) → field_type records r k ≡ Some f.ty
first_field records r k f later h = let n : k + 0 ≡ k = omega arith in subst (λ n. field_type records r n ≡ Some f.ty) n (h 0 f refl)

mapped_get : (fields : List Field) (k : ℕ) (t : CType) → option_map (λ f. f.ty) (slice_get fields k) ≡ Some t → slice_get (map (λ f. f.ty) fields) k ≡ Some t
mapped_get [] k t h = cc
mapped_get (f ∷ more) zero t h = h
mapped_get (f ∷ more) (suc k) t h = mapped_get more k t h

is_field : (records : List Record) (r k : ℕ) (t : CType) → field_type records r k ≡ Some t → IsField records r k t
is_field records r k t h = of_record (slice_get records r) h
  where
    of_record : (o : Option Record) → type_in o k ≡ Some t → IsSomeAnd o (λ r. slice_get (field_types r) k ≡ Some t)
    of_record None h = cc
    of_record (Some rec) h = mapped_get rec.fields k t h

pub field_within : (records : List Record) → AreComplete records → (r k : ℕ) (t : CType) → field_type records r k ≡ Some t
    → offset_of records r k + size_of records t ≤ size_of records (structure r)
field_within records c r k t h = (fields_lie_apart records c).within r k t (is_field records r k t h)

pub fields_apart : (records : List Record) → AreComplete records → (r k j : ℕ) (t u : CType) → field_type records r k ≡ Some t → field_type records r j ≡ Some u
    → k < j → offset_of records r k + size_of records t ≤ offset_of records r j
fields_apart records c r k j t u h i less = (fields_lie_apart records c).apart r k j t u (is_field records r k t h) (is_field records r j u i) less

pub field_stays : {f g : FileScope} → Extends f g → (r k : ℕ) (t : CType) → field_type f.records r k ≡ Some t → field_type g.records r k ≡ Some t
field_stays {f} {g} p r k t h = of_record (slice_get f.records r) refl h
  where
    of_record : (o : Option Record) → slice_get f.records r ≡ o → type_in o k ≡ Some t → field_type g.records r k ≡ Some t
    of_record None e h = cc
    of_record (Some rec) e h = ap (λ o. type_in o k) (record_stays p r rec e) ∙ h

-- fields are complete
pub field_object : (records : List Record) → AreComplete records → (r k : ℕ) (t : CType) → field_type records r k ≡ Some t
    → is_object (length records) t ≡ true
field_object records c r k t h = of_record (slice_get records r) refl h
  where
    of_record : (o : Option Record) → slice_get records r ≡ o → type_in o k ≡ Some t → is_object (length records) t ≡ true
    of_record None e h = cc
    of_record (Some rec) e h =
        let f = mapped_get rec.fields k t h in
        let at : is_object r t ≡ true =
        subst (λ u. is_object r u ≡ true) (get_or_from_slice_get (field_types rec) k t t f) (c r rec e k t (slice_get_within (field_types rec) k t f)) in
        object_more r (length records) (let b = slice_get_within records r rec e in omega (arith, b)) t at

-- a complete structure is one of the list
pub record_in : (records : List Record) (r : ℕ) → is_object (length records) (structure r) ≡ true → (rec : Record) × (slice_get records r ≡ Some rec)
record_in records r h = below records r (ltb-true r (length records) h)
  where
    below : (records : List Record) (r : ℕ) → r < length records → (rec : Record) × (slice_get records r ≡ Some rec)
    below [] r h = absurd (omega (arith, h))
    below (rec ∷ more) zero h = (rec, refl)
    below (rec ∷ more) (suc r) h = below more r (omega (arith, h))
