-- Records of a file: they are numbered by their tags, their fields are complete and there are some, and they are small (C99 6.7.2.1).
use Rattle.std.proofs.Common.{◌≡◌, ◌≢◌, ℕ, zero, suc, ◌+◌, ◌≤◌, true, refl, sym, ap, ◌∙◌, subst, List, [], ◌∷◌, ◌++◌, length, arith, inl, inr}
use Rattle.std.proofs.lemmas.Bool.{and_from, and_parts, lt-ltb, ltb-true}
use Rattle.std.proofs.lemmas.List.Elements.{All-cons, All-nil}
use Rattle.std.proofs.lemmas.Option.{slice_get_within}
use Rattle.std.specs.Prelude.{◌⊎◌, All, map, Some, Ok, slice_get, nat_lt}
use Rattle.c_types.specs.Layouts.{size_of, size_of_record}
use Rattle.c_types.specs.Limits.{AreComplete}
use Rattle.c_types.specs.Objects.{is_object}
use Rattle.c_types.specs.Types.{CType, void, integer, pointer, array, function, structure, Field, Record}
use Rattle.c_types.proofs.Growing.{layouts_stay, has_its_size}
use Rattle.c_erasure.specs.Scopes.{FileScope}
use Rattle.c_erasure.specs.Checking.Declaring.{number_among, object_at}
use Rattle.c_erasure.specs.Checking.Nodes.{is_complete}
use Rattle.c_checking_laws.proofs.Results.{given, only_if}
use Rattle.c_checking_laws.proofs.Extends.{one_of_both, last_or}

-- ---- what is complete stays so, where more records are complete

pub object_more : (n m : ℕ) → n ≤ m → (t : CType) → is_object n t ≡ true → is_object m t ≡ true
object_more n m h void e = cc
object_more n m h (integer kind) e = refl
object_more n m h (pointer t) e = refl
object_more n m h (array t k) e =
    let parts = and_parts (nat_lt 0 k) (is_object n t) e in
    and_from (nat_lt 0 k) (is_object m t) parts.0 (object_more n m h t parts.1)
object_more n m h (function t all) e = cc
object_more n m h (structure r) e = lt-ltb r m (omega (arith, h, ltb-true r n e))

pub object_whole : (records : List Record) (count at : ℕ) (t u : CType) → object_at records count at t ≡ Ok u → is_object (length records) u ≡ true
unfolding object_at
object_whole records count at t u h =
    let c = only_if (is_complete records count t) _ _ _ u h in
    given (λ u. is_object (length records) u ≡ true) t u c.1 (and_parts (is_object count t) (is_object (length records) t) c.0).1

-- ---- fields of complete types, where so many records are complete

abbrev pub AreWhole : (count : ℕ) → List Field → Type 0
AreWhole count fields = (j : ℕ) (x : Field) → slice_get fields j ≡ Some x → is_object count x.ty ≡ true

pub more_whole : (n m : ℕ) → n ≤ m → (fields : List Field) → AreWhole n fields → AreWhole m fields
more_whole n m l fields h j x e = object_more n m l x.ty (h j x e)

pub first_whole : (n : ℕ) (f : Field) (more : List Field) → is_object n f.ty ≡ true → AreWhole n more → AreWhole n (f ∷ more)
first_whole n f more is h zero x e = let same : f ≡ x = cc in subst (λ (x : Field). is_object n x.ty ≡ true) same is
first_whole n f more is h (suc j) x e = h j x e

pub both_whole : (n : ℕ) (own rest : List Field) → AreWhole n own → AreWhole n rest → AreWhole n (own ++ rest)
both_whole n own rest p q j x e = by_part (one_of_both own rest j x e)
  where
    by_part : (slice_get own j ≡ Some x) ⊎ ((k : ℕ) × (j ≡ length own + k) × (slice_get rest k ≡ Some x)) → is_object n x.ty ≡ true
    by_part (inl g) = p j x g
    by_part (inr g) = q g.0 x g.2

-- ---- records

pub record AreSettled (numbered : List (List ℕ)) (records : List Record) : Type 0 where
  pub first : (k : ℕ) (r : Record) → slice_get records k ≡ Some r → number_among numbered r.tag ≡ Some k
  pub whole : (k : ℕ) (r : Record) → slice_get records k ≡ Some r → AreWhole k r.fields
  pub filled : (k : ℕ) (r : Record) → slice_get records k ≡ Some r → r.fields ≢ []
  pub small : (k : ℕ) (r : Record) → slice_get records k ≡ Some r → size_of records (structure k) ≤ 16777216

-- where a file goes on to another one
abbrev pub Settles : FileScope → FileScope → Type 0
Settles f g = AreSettled f.numbered f.records → AreSettled g.numbered g.records

all_fields : (count : ℕ) (fields : List Field) → AreWhole count fields → All (λ t. is_object count t ≡ true) (map (λ f. f.ty) fields)
all_fields count [] h = All-nil (λ t. is_object count t ≡ true)
all_fields count (f ∷ more) h =
    All-cons (λ t. is_object count t ≡ true) f.ty (map (λ f. f.ty) more) (h 0 f refl) (all_fields count more (λ j x e. h (suc j) x e))

pub are_complete : {numbered : List (List ℕ)} {records : List Record} → AreSettled numbered records → AreComplete records
are_complete s k r e = all_fields k r.fields (s.whole k r e)

pub one_more_settled : (numbered : List (List ℕ)) (records : List Record) (r : Record) → number_among numbered r.tag ≡ Some (length records)
    → size_of_record records r ≤ 16777216 → AreWhole (length records) r.fields → r.fields ≢ [] → AreSettled numbered records
    → AreSettled numbered (records ++ r ∷ [])
one_more_settled numbered records r n small whole filled s = record {
  first = λ k q e. first_of k q (last_or records r k q e);
  whole = λ k q e. whole_of k q (last_or records r k q e);
  filled = λ k q e. filled_of k q (last_or records r k q e);
  small = λ k q e. small_of k q (last_or records r k q e);
}
  where
    first_of : (k : ℕ) (q : Record) → (slice_get records k ≡ Some q) ⊎ ((k ≡ length records) × (r ≡ q)) → number_among numbered q.tag ≡ Some k
    first_of k q (inl e) = s.first k q e
    first_of k q (inr e) = subst (λ (q : Record). number_among numbered q.tag ≡ Some k) e.1 (n ∙ ap Some (sym e.0))

    whole_of : (k : ℕ) (q : Record) → (slice_get records k ≡ Some q) ⊎ ((k ≡ length records) × (r ≡ q)) → AreWhole k q.fields
    whole_of k q (inl e) = s.whole k q e
    whole_of k q (inr e) = subst (λ (q : Record). AreWhole k q.fields) e.1 (subst (λ k. AreWhole k r.fields) (sym e.0) whole)

    filled_of : (k : ℕ) (q : Record) → (slice_get records k ≡ Some q) ⊎ ((k ≡ length records) × (r ≡ q)) → q.fields ≢ []
    filled_of k q (inl e) = s.filled k q e
    filled_of k q (inr e) = subst (λ (q : Record). q.fields ≢ []) e.1 filled

    below : (k : ℕ) (q : Record) → slice_get records k ≡ Some q → is_object (length records) (structure k) ≡ true
    below k q e = lt-ltb k (length records) (slice_get_within records k q e)

    small_of : (k : ℕ) (q : Record) → (slice_get records k ≡ Some q) ⊎ ((k ≡ length records) × (r ≡ q))
        → size_of (records ++ r ∷ []) (structure k) ≤ 16777216
    small_of k q (inl e) =
        subst (λ n. n ≤ 16777216) (sym ((layouts_stay records (r ∷ [])).sizes (structure k) (below k q e))) (s.small k q e)
    small_of k q (inr e) =
        subst (λ k. size_of (records ++ r ∷ []) (structure k) ≤ 16777216) (sym e.0) (subst (λ n. n ≤ 16777216) (sym (has_its_size records r)) small)
