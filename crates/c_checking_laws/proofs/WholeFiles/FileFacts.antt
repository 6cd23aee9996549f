-- What holds of the records of a file: no object is empty, and no tag stands twice (C99 6.2.6.1, 6.7.2.1, 6.7.2.3).
use Rattle.std.proofs.Common.{◌≡◌, ◌≢◌, ℕ, zero, suc, ◌+◌, ◌≤◌, ◌<◌, ◌*◌, true, refl, sym, ap, ◌∙◌, List, [], ◌∷◌, length, arith}
use Rattle.std.proofs.Math.Nat.{mul-suc}
use Rattle.std.proofs.lemmas.Bool.{and_parts, ltb-true}
use Rattle.std.proofs.lemmas.List.Elements.{All-cons, All-nil}
use Rattle.std.specs.Prelude.{All, map, Some, slice_get, nat_lt}
use Rattle.c_types.specs.Layouts.{size_of}
use Rattle.c_types.specs.Objects.{is_object}
use Rattle.c_types.specs.Types.{CType, void, integer, pointer, array, function, structure, Field, Record}
use Rattle.c_types.proofs.Alignments.{width_positive}
use Rattle.c_typed.specs.Typed.{field_type}
use Rattle.c_erasure.specs.Declarators.{AreDifferent}
use Rattle.c_erasure.specs.Scopes.{FileScope}
use Rattle.c_erasure.specs.Checking.Declaring.{number_among}
use Rattle.c_checking_laws.proofs.Settled.{AreSettled, are_complete, object_more}
use Rattle.c_checking_laws.proofs.WholeFiles.Layouts.{IsLaid, fields_are, field_within, record_in}

module _ (numbered : List (List ℕ)) (records : List Record) (s : AreSettled numbered records) where
  -- a record is as large as its first field
  record_positive : (r : ℕ) (rec : Record) → slice_get records r ≡ Some rec → ((t : CType) → is_object r t ≡ true → 0 < size_of records t)
      → 0 < size_of records (structure r)
  record_positive r rec e h = by_fields rec.fields refl
    where
      by_fields : (fields : List Field) → rec.fields ≡ fields → 0 < size_of records (structure r)
      by_fields [] f = absurd (s.filled r rec e f)
      by_fields (f ∷ more) g =
          let there : slice_get rec.fields 0 ≡ Some f = ap (λ all. slice_get all 0) g in
          let t : field_type records r (0 + 0) ≡ Some f.ty = fields_are records r rec e 0 f there in
          let within = field_within records (are_complete s) r (0 + 0) f.ty t in
          let own = h f.ty (s.whole r rec e 0 f there) in
          omega (arith, within, own)

  many_positive : (size k : ℕ) → 0 < size → 0 < k → 0 < size * k
  many_positive size zero l m = absurd (omega (arith, m))
  many_positive size (suc k) l m = let e = mul-suc size k in omega (arith, e, l)

  by_type : (n : ℕ) → ((r : ℕ) → r < n → 0 < size_of records (structure r)) → (t : CType) → is_object n t ≡ true → 0 < size_of records t
  by_type n h void e = cc
  by_type n h (integer kind) e = width_positive kind
  by_type n h (pointer t) e = omega arith
  by_type n h (array t k) e =
      let p = and_parts (nat_lt 0 k) (is_object n t) e in
      many_positive (size_of records t) k (by_type n h t p.1) (ltb-true 0 k p.0)
  by_type n h (function t all) e = cc
  by_type n h (structure r) e = h r (ltb-true r n e)

  structures : (n : ℕ) → n ≤ length records → (r : ℕ) → r < n → 0 < size_of records (structure r)
  structures zero l r m = absurd (omega (arith, m))
  structures (suc n) l r m =
      let rec = record_in records r (Rattle.std.proofs.lemmas.Bool.lt-ltb r (length records) (omega (arith, l, m))) in
      record_positive r rec.0 rec.1
      (λ t e. by_type n (structures n (omega (arith, l))) t (object_more r n (omega (arith, m)) t e))

  pub not_empty : (t : CType) → is_object (length records) t ≡ true → 0 < size_of records t
  not_empty t e = by_type (length records) (structures (length records) (omega arith)) t e

pub laid_file : (f : FileScope) → AreSettled f.numbered f.records → IsLaid f
laid_file f s = record { complete = are_complete s; not_empty = not_empty f.numbered f.records s }

-- ---- tags of records

other_numbers : (k : ℕ) (j : ℕ) → Some (k + 0) ≡ Some (k + suc j) → ⊥
other_numbers k j e = let f : k + 0 ≡ k + suc j = cc in omega (arith, f)

different_from : (numbered : List (List ℕ)) (k : ℕ) (records : List Record)
    → ((j : ℕ) (r : Record) → slice_get records j ≡ Some r → number_among numbered r.tag ≡ Some (k + j)) → AreDifferent (map (λ r. r.tag) records)
different_from numbered k [] h = tt
different_from numbered k (r ∷ records) h = (
  each 0 records (λ j q e. h (suc j) q e ∙ ap Some (let z : k + suc j ≡ k + suc (0 + j) = omega arith in z)),
  different_from numbered (k + 1) records (λ j q e. h (suc j) q e ∙ ap Some (let z : k + suc j ≡ k + 1 + j = omega arith in z)),
)
  where
    each : (i : ℕ) (more : List Record) → ((j : ℕ) (q : Record) → slice_get more j ≡ Some q → number_among numbered q.tag ≡ Some (k + suc (i + j)))
        → All (λ y. r.tag ≢ y) (map (λ r. r.tag) more)
    each i [] g = All-nil (λ y. r.tag ≢ y)
    each i (q ∷ more) g =
        All-cons (λ y. r.tag ≢ y) q.tag (map (λ r. r.tag) more)
        (λ e. other_numbers k (i + 0) (sym (h 0 r refl) ∙ ap (number_among numbered) e ∙ g 0 q refl))
        (each (i + 1) more (λ j p e. g (suc j) p e ∙ ap Some (let z : k + suc (i + suc j) ≡ k + suc (i + 1 + j) = omega arith in z)))

pub tags_different : (numbered : List (List ℕ)) (records : List Record) → AreSettled numbered records → AreDifferent (map (λ r. r.tag) records)
tags_different numbered records s =
    different_from numbered 0 records (λ j r e. s.first j r e ∙ ap Some (let z : j ≡ 0 + j = omega arith in z))
