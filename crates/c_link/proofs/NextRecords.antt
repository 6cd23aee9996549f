-- A record that is added next can follow those that are there, where the records of the whole are as they may be.
use Rattle.std.proofs.Common.{◌≡◌, ℕ, zero, suc, ◌≤◌, ◌<◌, ◌+◌, true, false, List, [], ◌∷◌, ◌++◌, Some, length, map, drop, refl, sym, ap, ◌∙◌, subst, append_assoc}
use Rattle.std.proofs.Common.{arith, rules, IsTrue, Vec}
use Rattle.std.specs.Prelude.{All, IsSomeAnd, slice_get, get_or}
use Rattle.std.proofs.lemmas.Bool.{lt-ltb}
use Rattle.std.proofs.lemmas.List.{append-nil, at_drop_more, length-append, length-map}
use Rattle.std.proofs.lemmas.List.Elements.{All-cons, All-head, All-nil, All-tail}
use Rattle.c_types.proofs.Apart.{fields_lie_apart}
use Rattle.c_types.proofs.Growing.{has_its_size, layouts_stay}
use Rattle.c_types.specs.declared.record.Field as declared_field
use Rattle.c_types.specs.declared.record.Record as declared
use Rattle.c_types.specs.Layouts.{offset_of, size_of, size_of_record}
use Rattle.c_types.specs.Limits.{greatest_size}
use Rattle.c_types.specs.Objects.{is_object}
use Rattle.c_types.specs.Types.{CType, Record, field_types, structure}
use Rattle.c_types.specs.Views.{record_of, records_of, type_of, types_of_fields}
use Rattle.c_numbers.specs.KeyNumbers.Keys.{position}
use Rattle.c_link.specs.Placing.{place, placed, put}
use Rattle.c_link.specs.JoinedRecords.{AreWhole, CanFollow}
use Rattle.c_link.specs.JoinedViews.{tagged}
use Rattle.c_link.proofs.Placed.{past, put_mapped}
use Rattle.c_link.proofs.RecordLists.{never}

-- ---- what is there stays in front

put_after : (old : List Record) (n : ℕ) (x : Record) → (more : List Record) × (put false old n x ≡ old ++ more)
put_after [] n x = (x ∷ [], refl)
put_after (y ∷ old) zero x = ([], sym (append-nil (y ∷ old)))
put_after (y ∷ old) (suc n) x = let w = put_after old n x in (w.0, ap (λ ys. y ∷ ys) w.1)

abbrev pub from : List (List ℕ) → List Record → List Record → List Record
from tags old more = placed (λ r. true) tags old (map tagged more)

pub placed_is : (old : List Record) (n : ℕ) (x : Record) → place (λ r. true) old n x ≡ put false old n x
placed_is old n x = sym (ap (λ b. put b old n x) (never (slice_get old n) x))

placed_after : (tags : List (List ℕ)) (old more : List Record) → (rest : List Record) × (from tags old more ≡ old ++ rest)
placed_after tags old [] = ([], sym (append-nil old))
placed_after tags old (r ∷ more) =
    let n = position tags r.tag in
    let a = put_after old n r in
    let b = placed_after tags (place (λ r. true) old n r) more in
    (a.0 ++ b.0, b.1 ∙ ap (λ them. them ++ b.0) (placed_is old n r ∙ a.1) ∙ append_assoc old a.0 b.0)

-- ---- what is asked of all types of fields is asked of each field

each_type : (P : CType → Type 0) (types : List CType) → ((k : ℕ) (t : CType) → slice_get types k ≡ Some t → P t) → All P types
each_type P [] h = All-nil P
each_type P (t ∷ more) h = All-cons P t more (h 0 t refl) (each_type P more (λ k u e. h (suc k) u e))

of_fields : (P : CType → Type 0) (fields : List declared_field.Field) → All P (types_of_fields fields) → All (λ (f : declared_field.Field). P (type_of f.ty)) fields
of_fields P [] h = All-nil (λ (f : declared_field.Field). P (type_of f.ty))
of_fields P (f ∷ more) h =
    All-cons (λ (f : declared_field.Field). P (type_of f.ty)) f more (All-head P (type_of f.ty) (types_of_fields more) h)
    (of_fields P more (All-tail P (type_of f.ty) (types_of_fields more) h))

type_at : (P : CType → Type 0) (types : List CType) (k : ℕ) (t : CType) → All P types → slice_get types k ≡ Some t → P t
type_at P [] k t h e = cc
type_at P (u ∷ more) zero t h e = subst P (some_is u t e) (All-head P u more h)
  where
    some_is : (u t : CType) → Some u ≡ Some t → u ≡ t
    some_is u t e = cc
type_at P (u ∷ more) (suc k) t h e = type_at P more k t (All-tail P u more h) e

-- ---- the next record

module _ (old : List Record) (x : Record) (rest whole : List Record) (is : whole ≡ (old ++ x ∷ []) ++ rest) (h : AreWhole whole) where
  abbrev IsObject : CType → Type 0
  IsObject t = IsTrue (is_object (length old) t)

  here : slice_get whole (length old) ≡ Some x
  here = ap (λ them. slice_get them (length old)) (is ∙ append_assoc old (x ∷ []) rest) ∙ first old
    where
      first : (xs : List Record) → slice_get (xs ++ x ∷ rest) (length xs) ≡ Some x
      first [] = refl
      first (y ∷ more) = first more

  pub objects : All IsObject (field_types x)
  objects = h.complete (length old) x here

  more : length (old ++ x ∷ []) ≡ length old + 1
  more = length-append old (x ∷ [])

  within : length old < length whole
  within =
      let a = ap length is in
      let b = length-append (old ++ x ∷ []) rest in
      let c = more in
      omega (arith, a, b, c)

  size_is : size_of whole (structure (length old)) ≡ size_of_record old x
  size_is =
      ap (λ them. size_of them (structure (length old))) is
      ∙ (layouts_stay (old ++ x ∷ []) rest).sizes (structure (length old)) (lt-ltb (length old) (length (old ++ x ∷ [])) (omega (arith, more)))
      ∙ has_its_size old x

  pub small : size_of_record old x ≤ greatest_size
  small = let s = h.small (length old) within in let e = size_is in omega (arith, s, e)

  bounded_at : (k : ℕ) (t : CType) → slice_get (field_types x) k ≡ Some t → size_of old t ≤ greatest_size
  bounded_at k t e =
      let s : size_of whole t ≡ size_of old t =
      ap (λ them. size_of them t) (is ∙ append_assoc old (x ∷ []) rest) ∙ (layouts_stay old (x ∷ rest)).sizes t (type_at IsObject (field_types x) k t objects e) in
      let w : offset_of whole (length old) k + size_of whole t ≤ size_of whole (structure (length old)) =
      (fields_lie_apart whole h.complete).within (length old) k t (subst (λ o. IsSomeAnd o (λ r. slice_get (field_types r) k ≡ Some t)) (sym here) e) in
      let v = h.small (length old) within in
      omega (arith, s, w, v)

  pub bounded : All (λ t. size_of old t ≤ greatest_size) (field_types x)
  bounded = each_type (λ t. size_of old t ≤ greatest_size) (field_types x) bounded_at

pub can_follow : (tags : List (List ℕ)) (old : List declared.Record) (r : declared.Record) (more whole : List Record)
    → from tags (records_of old) (record_of r ∷ more) ≡ whole → AreWhole whole → length old ≤ position tags r.tag → CanFollow old r
can_follow tags old r more whole is h l =
    let rs = records_of old in
    let x = record_of r in
    let n = position tags r.tag in
    let c : length rs ≡ length old = length-map old record_of in
    let w = placed_after tags (place (λ r. true) rs n x) more in
    let e : whole ≡ (rs ++ x ∷ []) ++ w.0 = sym is ∙ w.1 ∙ ap (λ them. them ++ w.0) (placed_is rs n x ∙ sym (past false rs n x (omega (arith, c, l)))) in
    record {
      objects = subst (λ m. All (λ (f : declared_field.Field). IsTrue (is_object m (type_of f.ty))) r.fields) c
          (of_fields (λ t. IsTrue (is_object (length rs) t)) r.fields (objects rs x w.0 whole e h));
      bounded = of_fields (λ t. size_of rs t ≤ greatest_size) r.fields (bounded rs x w.0 whole e h);
      small = small rs x w.0 whole e h;
    }

-- ---- one more of a list

taken_next : (all : List declared.Record) (n : ℕ) (r : declared.Record) → n < length all → r ≡ get_or all n r → drop n all ≡ r ∷ drop (n + 1) all
taken_next all n r l h = at_drop_more (λ them. them) all n r l ∙ ap (λ y. y ∷ drop (n + 1) all) (sym h)

pub next_records : (tags : List (List ℕ)) (all : List declared.Record) (i : ℕ) (r : declared.Record) (n : ℕ) (old new : List declared.Record) (whole : List Record)
    → i < length all → r ≡ get_or all i r → n ≡ position tags r.tag → new ≡ put false old n r → from tags (records_of old) (records_of (drop i all)) ≡ whole
    → from tags (records_of new) (records_of (drop (i + 1) all)) ≡ whole
next_records tags all i r n old new whole l h m e is =
    let x = record_of r in
    let later = records_of (drop (i + 1) all) in
    let placed_next : records_of new ≡ place (λ r. true) (records_of old) (position tags r.tag) x =
    ap records_of e ∙ put_mapped record_of false old n r ∙ ap (λ k. put false (records_of old) k x) m ∙ sym (placed_is (records_of old) (position tags r.tag) x) in
    ap (λ them. from tags them later) placed_next
    ∙ ap (λ them. from tags (records_of old) (records_of them)) (sym (taken_next all i r l h)) ∙ is

pub next_can_follow : (tags : List (List ℕ)) (all : List declared.Record) (i : ℕ) (r : declared.Record) (n : ℕ) (old : List declared.Record) (whole : List Record)
    → i < length all → r ≡ get_or all i r → n ≡ position tags r.tag → from tags (records_of old) (records_of (drop i all)) ≡ whole → AreWhole whole
    → length old ≤ n → CanFollow old r
next_can_follow tags all i r n old whole l h m is w k =
    can_follow tags old r (records_of (drop (i + 1) all)) whole
    (ap (λ them. from tags (records_of old) (records_of them)) (sym (taken_next all i r l h)) ∙ is) w (omega (arith, k, m))

pub counted : {X Z : Type 0} (v : Vec X Z) → v.len ≡ length v.items
counted v = search rules
