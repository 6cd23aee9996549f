-- Fields lie in their record, in declared order, and do not overlap.
use Rattle.std.proofs.Common.{◌≡◌, ◌≤◌, ◌<◌, ◌+◌, ◌%◌, ℕ, zero, suc, List, [], ◌∷◌, length, take, drop, IsTrue, refl, sym, ap, ◌∙◌, subst, arith}
use Rattle.std.specs.Prelude.{All, fold, slice_get, slice_index, unwrap_or, Option, Some, None, IsSomeAnd}
use Rattle.std.proofs.lemmas.List.{length-take-le, take-append-drop}
use Rattle.std.proofs.lemmas.Option.{get_or_from_slice_get, slice_get_within}
use Rattle.c_types.specs.declared.layout.Layout.{Layout}
use Rattle.c_types.specs.Laws.{FieldsLieApart}
use Rattle.c_types.specs.Layouts.{align_of, alignment_in, end_after, greatest_alignment, layout, layout_at, layouts, offset_of, offsets_after, size_in, size_of}
use Rattle.c_types.specs.Limits.{AreComplete}
use Rattle.c_types.specs.Objects.{is_object}
use Rattle.c_types.specs.Types.{CType, Record, field_types, structure}
use Rattle.c_types.proofs.Before.{layout_of}
use Rattle.c_types.proofs.Ends.{end_from, next_multiple_from}
use Rattle.c_types.proofs.Growing.{layouts_stay}
use Rattle.c_types.proofs.Multiples.{IsEven, layouts_even, less_divides, multiple_is, type_one_of, greatest_one_of}

-- ---- fields, by the layouts that are known before them

abbrev offset : List Layout → ℕ → List CType → ℕ → ℕ
offset known before types k = slice_index (offsets_after known before types) k

starts : (known : List Layout) (before : ℕ) (types : List CType) (k : ℕ) (t : CType) → slice_get types k ≡ Some t → before ≤ offset known before types k
starts known before [] k t e = cc
starts known before (x ∷ more) zero t e = next_multiple_from before (alignment_in known x)
starts known before (x ∷ more) (suc k) t e =
    omega (arith, starts known (end_after known before x) more k t e, next_multiple_from before (alignment_in known x))

ends : (known : List Layout) (before : ℕ) (types : List CType) (k : ℕ) (t : CType) → slice_get types k ≡ Some t
    → offset known before types k + size_in known t ≤ fold (end_after known) before types
ends known before [] k t e = cc
ends known before (x ∷ more) zero t e =
    let same : x ≡ t = cc in
    subst (λ y. offset known before (x ∷ more) 0 + size_in known y ≤ fold (end_after known) before (x ∷ more)) same
    (end_from known (end_after known before x) more)
ends known before (x ∷ more) (suc k) t e = ends known (end_after known before x) more k t e

follows : (known : List Layout) (before : ℕ) (types : List CType) (k m : ℕ) (t u : CType) → slice_get types k ≡ Some t → slice_get types m ≡ Some u
    → k < m → offset known before types k + size_in known t ≤ offset known before types m
follows known before [] k m t u e f h = cc
follows known before (x ∷ more) k zero t u e f h = absurd (omega arith)
follows known before (x ∷ more) zero (suc m) t u e f h =
    let same : x ≡ t = cc in
    subst (λ y. offset known before (x ∷ more) 0 + size_in known y ≤ offset known before (x ∷ more) (suc m)) same
    (starts known (end_after known before x) more m u f)
follows known before (x ∷ more) (suc k) (suc m) t u e f h = follows known (end_after known before x) more k m t u e f (omega arith)

aligned_at : (known : List Layout) (before : ℕ) (types : List CType) (k : ℕ) (t : CType) → All IsEven known → slice_get types k ≡ Some t
    → offset known before types k % alignment_in known t ≡ 0
aligned_at known before [] k t all e = cc
aligned_at known before (x ∷ more) zero t all e =
    let same : x ≡ t = cc in
    subst (λ y. offset known before (x ∷ more) 0 % alignment_in known y ≡ 0) same (multiple_is before (alignment_in known x) (type_one_of known x all))
aligned_at known before (x ∷ more) (suc k) t all e = aligned_at known (end_after known before x) more k t all e

at_most_greatest : (known : List Layout) (types : List CType) (k : ℕ) (t : CType) → slice_get types k ≡ Some t
    → alignment_in known t ≤ greatest_alignment known types
at_most_greatest known [] k t e = cc
at_most_greatest known (x ∷ more) zero t e =
    let same : x ≡ t = cc in
    subst (λ y. alignment_in known y ≤ greatest_alignment known (x ∷ more)) same (omega arith)
at_most_greatest known (x ∷ more) (suc k) t e = omega (arith, at_most_greatest known more k t e)

-- ---- fields of one record of a list

abbrev or_none : Option Layout → Layout
or_none o = unwrap_or o (record { offsets = []; size = 0; alignment = 1 })

module _ (records : List Record) (complete : AreComplete records) (number : ℕ) (r : Record) (is : slice_get records number ≡ Some r) where
  abbrev known : List Layout
  known = layouts (take number records)

  laid : layout_at (layouts records) number ≡ layout known (field_types r)
  laid = ap or_none (layout_of records number r is)

  before : length (take number records) ≡ number
  before = let inside : number < length records = slice_get_within records number r is in length-take-le number records (omega arith)

  object : (field : ℕ) (t : CType) → slice_get (field_types r) field ≡ Some t → IsTrue (is_object (length (take number records)) t)
  object field t e =
      let at : IsTrue (is_object number t) =
      rw (get_or_from_slice_get (field_types r) field t t e) at
      (complete number r is field t (slice_get_within (field_types r) field t e)) in
      rw before at

  size_is : (field : ℕ) (t : CType) → slice_get (field_types r) field ≡ Some t → size_of records t ≡ size_in known t
  size_is field t e =
      ap (λ all. size_of all t) (sym (take-append-drop number records))
      ∙ (layouts_stay (take number records) (drop number records)).sizes t (object field t e)

  alignment_is : (field : ℕ) (t : CType) → slice_get (field_types r) field ≡ Some t → align_of records t ≡ alignment_in known t
  alignment_is field t e =
      ap (λ all. align_of all t) (sym (take-append-drop number records))
      ∙ (layouts_stay (take number records) (drop number records)).alignments t (object field t e)

  offset_is : (field : ℕ) → offset_of records number field ≡ offset known 0 (field_types r) field
  offset_is field = ap (λ (l : Layout). slice_index l.offsets field) laid

  record_size_is : size_of records (structure number) ≡ (layout known (field_types r)).size
  record_size_is = ap (λ (l : Layout). l.size) laid

  record_alignment_is : align_of records (structure number) ≡ greatest_alignment known (field_types r)
  record_alignment_is = ap (λ (l : Layout). l.alignment) laid

  aligned_one : (field : ℕ) (t : CType) → slice_get (field_types r) field ≡ Some t → offset_of records number field % align_of records t ≡ 0
  aligned_one field t e =
      rw (offset_is field, alignment_is field t e) (aligned_at known 0 (field_types r) field t (layouts_even (take number records)) e)

  divides_one : (field : ℕ) (t : CType) → slice_get (field_types r) field ≡ Some t → align_of records (structure number) % align_of records t ≡ 0
  divides_one field t e =
      let all = layouts_even (take number records) in
      rw (record_alignment_is, alignment_is field t e)
      (less_divides (alignment_in known t) (greatest_alignment known (field_types r)) (type_one_of known t all) (greatest_one_of known (field_types r) all)
      (at_most_greatest known (field_types r) field t e))

  within_one : (field : ℕ) (t : CType) → slice_get (field_types r) field ≡ Some t
      → offset_of records number field + size_of records t ≤ size_of records (structure number)
  within_one field t e =
      let end : fold (end_after known) 0 (field_types r) ≤ (layout known (field_types r)).size =
      next_multiple_from (fold (end_after known) 0 (field_types r)) (greatest_alignment known (field_types r)) in
      rw (offset_is field, size_is field t e, record_size_is) (omega (arith, ends known 0 (field_types r) field t e, end))

  apart_one : (field later : ℕ) (t u : CType) → slice_get (field_types r) field ≡ Some t → slice_get (field_types r) later ≡ Some u → field < later
      → offset_of records number field + size_of records t ≤ offset_of records number later
  apart_one field later t u e f h =
      rw (offset_is field, offset_is later, size_is field t e) (follows known 0 (field_types r) field later t u e f h)

-- ---- all records

abbrev Has : ℕ → CType → Record → Type 0
Has field t r = slice_get (field_types r) field ≡ Some t

module _ (records : List Record) (number : ℕ) where
  from_record : (P : Type 0) (Q : Record → Type 0) → ((r : Record) → slice_get records number ≡ Some r → Q r → P)
      → IsSomeAnd (slice_get records number) Q → P
  from_record P Q found h = at (slice_get records number) refl h
    where
      at : (o : Option Record) → slice_get records number ≡ o → IsSomeAnd o Q → P
      at None e h = absurd h
      at (Some r) e h = found r e h

  both_of : (Q R : Record → Type 0) → IsSomeAnd (slice_get records number) Q → IsSomeAnd (slice_get records number) R
      → IsSomeAnd (slice_get records number) (λ r. Q r × R r)
  both_of Q R h k = at (slice_get records number) h k
    where
      at : (o : Option Record) → IsSomeAnd o Q → IsSomeAnd o R → IsSomeAnd o (λ r. Q r × R r)
      at None h k = h
      at (Some r) h k = (h, k)

pub fields_lie_apart : (records : List Record) → AreComplete records → FieldsLieApart records
fields_lie_apart records complete = record {
  aligned = λ number field t h. from_record records number _ (Has field t) (λ r is e. aligned_one records complete number r is field t e) h;
  divides = λ number field t h. from_record records number _ (Has field t) (λ r is e. divides_one records complete number r is field t e) h;
  within = λ number field t h. from_record records number _ (Has field t) (λ r is e. within_one records complete number r is field t e) h;
  apart = λ number field later t u h k less.
      from_record records number _ (λ r. Has field t r × Has later u r) (λ r is e. apart_one records complete number r is field later t u e.0 e.1 less)
      (both_of records number (Has field t) (Has later u) h k);
}
