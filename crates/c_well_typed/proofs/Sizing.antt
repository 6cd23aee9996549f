-- Sizes of types: no object is empty, parts lie within objects, and what a typed program's pointers count has a size.
use Rattle.std.proofs.Common.{◌≡◌, ◌≢◌, ℕ, zero, suc, ◌+◌, ◌*◌, ◌<◌, ◌≤◌, true, List, [], ◌∷◌, length, map, Option, Some, None, refl, ap}
use Rattle.std.proofs.Common.{subst, ◌∙◌, arith, slice_get}
use Rattle.std.proofs.Math.Nat.{mul-suc}
use Rattle.std.proofs.lemmas.Bool.{and_from, and_parts, lt-ltb, ltb-true}
use Rattle.std.proofs.lemmas.Nat.{row_fits}
use Rattle.std.proofs.lemmas.Option.{get_or_from_slice_get, slice_get_within}
use Rattle.std.specs.Option.{option_map}
use Rattle.std.specs.Prelude.{All, slice_index, nat_lt, IsSomeAnd}
use Rattle.c_types.proofs.Alignments.{width_positive}
use Rattle.c_types.proofs.Apart.{fields_lie_apart}
use Rattle.c_types.specs.Laws.{IsField, FieldsLieApart}
use Rattle.c_types.specs.Layouts.{size_of, offset_of}
use Rattle.c_types.specs.Limits.{AreComplete}
use Rattle.c_types.specs.Objects.{is_object}
use Rattle.c_types.specs.Types.{CType, void, integer, pointer, array, function, structure, Field, Record, field_types}
use Rattle.c_typed.specs.Parts.{IsPart, itself, of_element, of_field}
use Rattle.c_typed.specs.Typed.{type_in, field_type}

-- what holds of each element holds of one that is there
pub at_all : {A : Type 0} (P : A → Type 0) (all : List A) (k : ℕ) (x : A) → All P all → slice_get all k ≡ Some x → P x
at_all P all k x h e = subst P (get_or_from_slice_get all k x x e) (h k x (slice_get_within all k x e))

pub get_map : {A B : Type 0} (f : A → B) (all : List A) (k : ℕ) (x : A) → slice_get all k ≡ Some x → slice_get (map f all) k ≡ Some (f x)
get_map f [] k x e = cc
get_map f (y ∷ all) zero x e = ap (λ (o : Option _). option_map f o) e
get_map f (y ∷ all) (suc k) x e = get_map f all k x e

pub index_map : {A : Type 0} (f : A → ℕ) (all : List A) (k : ℕ) (x : A) → slice_get all k ≡ Some x → slice_index (map f all) k ≡ f x
index_map f [] k x e = cc
index_map f (y ∷ all) zero x e = ap f (let z : y ≡ x = cc in z)
index_map f (y ∷ all) (suc k) x e = index_map f all k x e

-- what an entry of such a list comes from
pub get_from : {A B : Type 0} (f : A → B) (all : List A) (k : ℕ) (y : B) → slice_get (map f all) k ≡ Some y → (x : A) × (slice_get all k ≡ Some x) × (f x ≡ y)
get_from f [] k y e = cc
get_from f (x ∷ all) zero y e = (x, refl, (let z : f x ≡ y = cc in z))
get_from f (x ∷ all) (suc k) y e = get_from f all k y e

-- an entry below the end
pub entry : {A : Type 0} (all : List A) (k : ℕ) → k < length all → (x : A) × (slice_get all k ≡ Some x)
entry [] k h = absurd (let r : k < 0 = h in omega (arith, r))
entry (x ∷ all) zero h = (x, refl)
entry (x ∷ all) (suc k) h = entry all k (omega (arith, h))

object_more : (r n : ℕ) → r ≤ n → (t : CType) → is_object r t ≡ true → is_object n t ≡ true
object_more r n h void e = cc
object_more r n h (integer kind) e = refl
object_more r n h (pointer t) e = refl
object_more r n h (array t k) e =
    let p = and_parts (nat_lt 0 k) (is_object r t) e in
    and_from (nat_lt 0 k) (is_object n t) p.0 (object_more r n h t p.1)
object_more r n h (function t all) e = cc
object_more r n h (structure s) e = let l = ltb-true s r e in lt-ltb s n (omega (arith, h, l))

field_is : (records : List Record) (r k : ℕ) (t : CType) → field_type records r k ≡ Some t → IsField records r k t
field_is records r k t h = of_record (slice_get records r) h
  where
    of_fields : (fields : List Field) (k : ℕ) → option_map (λ (x : Field). x.ty) (slice_get fields k) ≡ Some t
        → slice_get (map (λ (x : Field). x.ty) fields) k ≡ Some t
    of_fields [] k h = cc
    of_fields (x ∷ more) zero h = h
    of_fields (x ∷ more) (suc k) h = of_fields more k h

    of_record : (o : Option Record) → type_in o k ≡ Some t → IsSomeAnd o (λ rec. slice_get (field_types rec) k ≡ Some t)
    of_record None h = cc
    of_record (Some rec) h = of_fields rec.fields k h

module _ (records : List Record) (complete : AreComplete records) where
  apart : FieldsLieApart records
  apart = fields_lie_apart records complete

  field_within : (r k : ℕ) (t : CType) → field_type records r k ≡ Some t → offset_of records r k + size_of records t ≤ size_of records (structure r)
  field_within r k t e = let a = apart in a.within r k t (field_is records r k t e)

  -- a part ends in its object
  pub part_ends : (t u : CType) (at : ℕ) → IsPart records t at u → at + size_of records u ≤ size_of records t
  part_ends t u at (itself s) = omega arith
  part_ends t u at (of_element s v n k b l p) =
      let inner = part_ends s v b p in
      let m = size_of records s in
      let whole : k * m + m ≤ n * m = row_fits k m n m l (omega arith) in
      let turned : n * m ≡ m * n = omega arith in
      omega (arith, inner, whole, turned)
  part_ends t u at (of_field s v r field b e p) =
      let inner = part_ends s v b p in
      let whole = field_within r field s e in
      omega (arith, inner, whole)

  -- ---- where each record has a member, no object is empty

  module _ (filled : All (λ (r : Record). r.fields ≢ []) records) where
    -- a record is as large as its first field
    record_positive : (r : ℕ) (rec : Record) → slice_get records r ≡ Some rec → ((t : CType) → is_object r t ≡ true → 0 < size_of records t)
        → 0 < size_of records (structure r)
    record_positive r rec e h = by_fields rec.fields refl
      where
        by_fields : (fields : List Field) → rec.fields ≡ fields → 0 < size_of records (structure r)
        by_fields [] f = absurd (at_all (λ (r : Record). r.fields ≢ []) records r rec filled e f)
        by_fields (f ∷ more) g =
            let t : field_type records r 0 ≡ Some f.ty =
            ap (λ (o : Option Record). type_in o 0) e ∙ ap (λ (all : List Field). option_map (λ (f : Field). f.ty) (slice_get all 0)) g in
            let within = field_within r 0 f.ty t in
            let there : slice_get (field_types rec) 0 ≡ Some f.ty = ap (λ (all : List Field). slice_get (map (λ (f : Field). f.ty) all) 0) g in
            let own = h f.ty (at_all (λ t. is_object r t ≡ true) (field_types rec) 0 f.ty (complete r rec e) there) in
            omega (arith, within, own)

    many_positive : (size k : ℕ) → 0 < size → 0 < k → 0 < size * k
    many_positive size zero l m = absurd (omega (arith, m))
    many_positive size (suc k) l m = let e = mul-suc size k in omega (arith, e, l)

    by_type : (n : ℕ) → ((r : ℕ) → r < n → 0 < size_of records (structure r)) → (t : CType) → is_object n t ≡ true → 0 < size_of records t
    by_type n h void e = cc
    by_type n h (integer kind) e = width_positive kind
    by_type n h (pointer t) e = omega arith
    by_type n h (array t k) e =
        let p = and_parts (nat_lt 0 k) (is_object n t) e in
        many_positive (size_of records t) k (by_type n h t p.1) (ltb-true 0 k p.0)
    by_type n h (function t all) e = cc
    by_type n h (structure r) e = h r (ltb-true r n e)

    -- each type over fewer records
    structures : (n : ℕ) → n ≤ length records → (r : ℕ) → r < n → 0 < size_of records (structure r)
    structures zero l r m = absurd (omega (arith, m))
    structures (suc n) l r m =
        let rec = entry records r (omega (arith, l, m)) in
        record_positive r rec.0 rec.1 (λ t e. by_type n (structures n (omega (arith, l))) t (object_more r n (omega (arith, m)) t e))

    pub not_empty : (t : CType) → is_object (length records) t ≡ true → 0 < size_of records t
    not_empty t e = by_type (length records) (structures (length records) (omega arith)) t e
