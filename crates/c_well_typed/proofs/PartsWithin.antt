-- The parts of an object lie in it, each at a multiple of its alignment (C99 6.2.8, 6.7.2.1), and so do the values that an object holds at first.
use Rattle.std.proofs.Common.{◌≡◌, ◌∙◌, ℕ, zero, suc, ◌+◌, ◌*◌, ◌%◌, ◌≤◌, refl, sym, ap, subst, List, [], ◌∷◌, map, arith, inl, inr}
use Rattle.std.proofs.lemmas.List.Elements.{recursion_from_All, All-from_recursion}
use Rattle.std.proofs.lemmas.Nat.{mul-mod, row_fits}
use Rattle.std.specs.Prelude.{◌⊎◌, Option, Some, None, slice_get, IsSomeAnd}
use Rattle.std.specs.List.{AllByRecursion}
use Rattle.std.specs.Option.{option_map}
use Rattle.c_types.proofs.Apart.{fields_lie_apart}
use Rattle.c_types.proofs.Multiples.{sizes_are_multiples}
use Rattle.c_types.specs.Laws.{IsField, FieldsLieApart, SizesAreMultiples}
use Rattle.c_types.specs.Layouts.{size_of, align_of, offset_of}
use Rattle.c_types.specs.Limits.{AreComplete}
use Rattle.c_types.specs.Types.{CType, integer, array, structure, Field, Record, field_types}
use Rattle.c_typed.specs.declared.program.Initial.{Initial}
use Rattle.c_typed.specs.declared.program.InitialValue.{InitialValue}
use Rattle.c_typed.specs.declared.program.InitialValue.TheVariants as V
use Rattle.c_typed.specs.Parts.{IsPart, itself, of_element, of_field}
use Rattle.c_typed.specs.Typed.{type_in, field_type}
use Rattle.c_well_typed.specs.WellTyped.{Lists, ty, IsTypedInitial, IsTypedInitialValue, AreInitials}
use Rattle.c_well_typed.specs.Within.{value_size, IsWithin, AreWithin, InitialsLieWithin, IsNumber, AreNumbers, TextsHoldNumbers}

-- ---- multiples of alignments

abbrev IsOneOf : ℕ → Type 0
IsOneOf a = (a ≡ 1) ⊎ (a ≡ 2) ⊎ (a ≡ 4)

-- what is true of the three
of_three : (P : ℕ → Type 0) (a : ℕ) → IsOneOf a → P 1 → P 2 → P 4 → P a
of_three P a (inl e) x y z = subst P (sym e) x
of_three P a (inr (inl e)) x y z = subst P (sym e) y
of_three P a (inr (inr e)) x y z = subst P (sym e) z

zero_multiple : (a : ℕ) → IsOneOf a → 0 % a ≡ 0
zero_multiple a h = of_three (λ a. 0 % a ≡ 0) a h refl refl refl

own_multiple : (a : ℕ) → IsOneOf a → a % a ≡ 0
own_multiple a h = of_three (λ a. a % a ≡ 0) a h refl refl refl

sum_multiple : (a x y : ℕ) → IsOneOf a → x % a ≡ 0 → y % a ≡ 0 → (x + y) % a ≡ 0
sum_multiple a x y h = of_three (λ a. x % a ≡ 0 → y % a ≡ 0 → (x + y) % a ≡ 0) a h
    (λ p q. omega arith) (λ p q. omega (arith, p, q)) (λ p q. omega (arith, p, q))

by_zero : (a k m : ℕ) → m % a ≡ 0 → (k * m) % a ≡ (k % a * 0) % a
by_zero a k m h = mul-mod k m a ∙ ap (λ z. (k % a * z) % a) h

product_multiple : (a k m : ℕ) → IsOneOf a → m % a ≡ 0 → (k * m) % a ≡ 0
product_multiple a k m h = of_three (λ a. m % a ≡ 0 → (k * m) % a ≡ 0) a h
    (λ p. let z = by_zero 1 k m p in omega (arith, z)) (λ p. let z = by_zero 2 k m p in omega (arith, z)) (λ p. let z = by_zero 4 k m p in omega (arith, z))

-- a multiple of a multiple
finer : (a c x : ℕ) → IsOneOf a → IsOneOf c → c % a ≡ 0 → x % c ≡ 0 → x % a ≡ 0
finer a c x h k = of_three (λ a. c % a ≡ 0 → x % c ≡ 0 → x % a ≡ 0) a h
    (λ p q. omega arith)
    (of_three (λ c. c % 2 ≡ 0 → x % c ≡ 0 → x % 2 ≡ 0) c k (λ p q. cc) (λ p q. q) (λ p q. omega (arith, q)))
    (of_three (λ c. c % 4 ≡ 0 → x % c ≡ 0 → x % 4 ≡ 0) c k (λ p q. cc) (λ p q. cc) (λ p q. q))

-- ---- fields

field_is : (records : List Record) (r k : ℕ) (t : CType) → field_type records r k ≡ Some t → IsField records r k t
field_is records r k t h = of_record (slice_get records r) h
  where
    of_fields : (fields : List Field) (k : ℕ) → option_map (λ (x : Field). x.ty) (slice_get fields k) ≡ Some t
        → slice_get (map (λ (x : Field). x.ty) fields) k ≡ Some t
    of_fields [] k h = cc
    of_fields (x ∷ more) zero h = h
    of_fields (x ∷ more) (suc k) h = of_fields more k h

    of_record : (o : Option Record) → type_in o k ≡ Some t → IsSomeAnd o (λ rec. slice_get (field_types rec) k ≡ Some t)
    of_record None h = cc
    of_record (Some rec) h = of_fields rec.fields k h

module _ (records : List Record) (complete : AreComplete records) where
  apart : FieldsLieApart records
  apart = fields_lie_apart records complete

  sizes : SizesAreMultiples records
  sizes = sizes_are_multiples records

  one_of : (t : CType) → IsOneOf (align_of records t)
  one_of t = let s = sizes in s.one_of t

  part_ends : (t u : CType) (at : ℕ) → IsPart records t at u → at + size_of records u ≤ size_of records t
  part_ends t u at (itself s) = omega arith
  part_ends t u at (of_element s v n k b l p) =
      let inner = part_ends s v b p in
      let m = size_of records s in
      let whole : k * m + m ≤ n * m = row_fits k m n m l (omega arith) in
      let turned : n * m ≡ m * n = omega arith in
      omega (arith, inner, whole, turned)
  part_ends t u at (of_field s v r field b e p) =
      let inner = part_ends s v b p in
      let a = apart in
      let whole = a.within r field s (field_is records r field s e) in
      omega (arith, inner, whole)

  part_aligned : (t u : CType) (at : ℕ) → IsPart records t at u → (at % align_of records u ≡ 0) × (align_of records t % align_of records u ≡ 0)
  part_aligned t u at (itself s) = (zero_multiple (align_of records s) (one_of s), own_multiple (align_of records s) (one_of s))
  part_aligned t u at (of_element s v n k b l p) =
      let inner = part_aligned s v b p in
      let a = align_of records v in
      let m = size_of records s in
      let z = sizes in
      let size = finer a (align_of records s) m (one_of v) (one_of s) inner.1 (z.multiple s) in
      (sum_multiple a (k * m) b (one_of v) (product_multiple a k m (one_of v) size) inner.0, inner.1)
  part_aligned t u at (of_field s v r field b e p) =
      let inner = part_aligned s v b p in
      let a = align_of records v in
      let own = field_is records r field s e in
      let o = offset_of records r field in
      let x = apart in
      let offset = finer a (align_of records s) o (one_of v) (one_of s) inner.1 (x.aligned r field s own) in (
        sum_multiple a o b (one_of v) offset inner.0,
        finer a (align_of records s) (align_of records (structure r)) (one_of v) (one_of s) inner.1 (x.divides r field s own),
      )

-- ---- values

module _ (l : Lists) (complete : AreComplete l.records) where
  -- a value has the size and the alignment of its type
  value_fits : (u : CType) (v : InitialValue) → IsTypedInitialValue l u v
      → (value_size v ≡ size_of l.records u) × (value_size v ≡ align_of l.records u)
  value_fits u (V.Number kind v) (own, e, w, f) = (w ∙ ap (size_of l.records) (sym e), w ∙ ap (align_of l.records) (sym e))
  value_fits u (V.Address i n offset) (o, w, less, e, p, there, fits) = (ap (size_of l.records) (sym p), ap (align_of l.records) (sym p))
  value_fits u (V.Function i n) (g, w, less, e, p, there, points) = (ap (size_of l.records) (sym p), ap (align_of l.records) (sym p))

  initial_within : (t : CType) (i : Initial) → IsTypedInitial l t i → IsWithin l t i
  initial_within t i (u, p, v) =
      let fits = value_fits u i.value v in
      record {
        ends = subst (λ n. i.offset + n ≤ size_of l.records t) (sym fits.0) (part_ends l.records complete t u i.offset p);
        aligned = subst (λ n. i.offset % n ≡ 0) (sym fits.1) (part_aligned l.records complete t u i.offset p).0;
      }

  each_within : (t : CType) (all : List Initial) → AllByRecursion (IsTypedInitial l t) all → AllByRecursion (IsWithin l t) all
  each_within t [] h = tt
  each_within t (i ∷ all) h = (initial_within t i h.0, each_within t all h.1)

  all_within : (t : CType) (all : Option (List Initial)) → AreInitials l t all → AreWithin l t all
  all_within t None h = tt
  all_within t (Some all) h =
      All-from_recursion (IsWithin l t) all (each_within t all (recursion_from_All (IsTypedInitial l t) all h))

pub initials_lie_within : InitialsLieWithin
initials_lie_within l complete o h = all_within l complete (ty l o.ty) o.initial h.1

-- ---- parts of arrays of numbers are no pointers

abbrev HasNoPointer : CType → Type 0
HasNoPointer (integer kind) = Unit {0}
HasNoPointer (array t n) = HasNoPointer t
HasNoPointer t = ⊥

no_pointer : (records : List Record) (t u : CType) (at : ℕ) → IsPart records t at u → HasNoPointer t → HasNoPointer u
no_pointer records t u at (itself s) h = h
no_pointer records t u at (of_element s v n k b l p) h = no_pointer records s v b p h
no_pointer records t u at (of_field s v r field b e p) h = absurd h

number_alone : (l : Lists) (u : CType) (v : InitialValue) → HasNoPointer u → IsTypedInitialValue l u v → IsNumber v
number_alone l u (V.Number kind v) n h = tt
number_alone l u (V.Address i k offset) n (o, w, less, e, p, there, fits) = absurd (subst HasNoPointer p n)
number_alone l u (V.Function i k) n (g, w, less, e, p, there, points) = absurd (subst HasNoPointer p n)

numbers_alone : (l : Lists) (t : CType) (all : List Initial) → HasNoPointer t → AllByRecursion (IsTypedInitial l t) all
    → AllByRecursion (λ (i : Initial). IsNumber i.value) all
numbers_alone l t [] n h = tt
numbers_alone l t (i ∷ all) n h =
    (number_alone l h.0.0 i.value (no_pointer l.records t h.0.0 i.offset h.0.1 n) h.0.2, numbers_alone l t all n h.1)

pub texts_hold_numbers : TextsHoldNumbers
texts_hold_numbers l o h text is = by_initial o.initial h.1
  where
    none : HasNoPointer (ty l o.ty)
    none = let k = text is in subst HasNoPointer (sym k.1) tt

    by_initial : (all : Option (List Initial)) → AreInitials l (ty l o.ty) all → AreNumbers all
    by_initial None i = tt
    by_initial (Some all) i =
        All-from_recursion (λ (i : Initial). IsNumber i.value) all
        (numbers_alone l (ty l o.ty) all none (recursion_from_All (IsTypedInitial l (ty l o.ty)) all i))
