-- What is found of each record is what it is and holds.
use Rattle.std.proofs.Common.{◌≡◌, ◌⊎◌, inl, inr, ap, ℕ, suc, ◌+◌, ◌<◌, ◌≤◌, ◌==◌, nat_lt, Bool, true, false, ◌||◌, IsTrue, List, [], ◌∷◌, ◌++◌, fold, length, map, refl, sym, ◌∙◌, subst, arith, length-append}
use Rattle.std.specs.Prelude.{◌↔◌, if◌then◌else◌, All, get_or, slice_get, Some}
use Rattle.std.proofs.lemmas.Bool.{and_parts, eq-eqb, eqb-true, ltb-true, ltb-false}
use Rattle.std.proofs.lemmas.List.{get_or_append_left, get_or-append-add}
use Rattle.std.proofs.lemmas.List.Elements.{All-head, All-tail}
use Rattle.c_types.specs.Limits.{AreComplete}
use Rattle.c_types.specs.Objects.{is_object}
use Rattle.c_types.specs.Types.{CType, void, integer, pointer, array, function, structure, Field, Record, field_types}
use Rattle.legality.specs.Holdings.{Holds, itself, in_element, in_field, HoldingsAreExact, IsFieldOf, held_in, holdings_of, is_among, new_in, with_field, with_record}

abbrev Among : ℕ → List ℕ → Type 0
Among r all = is_among r all ≡ true

-- ---- lists of records

to_left : (r : ℕ) (xs ys : List ℕ) → Among r xs → Among r (xs ++ ys)
to_left r [] ys h = absurd (let k : false ≡ true = h in cc)
to_left r (x ∷ xs) ys h = go (x == r) (to_left r xs ys) h
  where
    go : (e : Bool) → (Among r xs → Among r (xs ++ ys)) → (e || is_among r xs) ≡ true → (e || is_among r (xs ++ ys)) ≡ true
    go true next h = refl
    go false next h = next h

to_right : (r : ℕ) (xs ys : List ℕ) → Among r ys → Among r (xs ++ ys)
to_right r [] ys h = h
to_right r (x ∷ xs) ys h = go (x == r) (to_right r xs ys h)
  where
    go : (e : Bool) → Among r (xs ++ ys) → (e || is_among r (xs ++ ys)) ≡ true
    go true next = refl
    go false next = next

apart : (r : ℕ) (xs ys : List ℕ) → Among r (xs ++ ys) → Among r xs ⊎ Among r ys
apart r [] ys h = inr h
apart r (x ∷ xs) ys h = go (x == r) (apart r xs ys) h
  where
    go : (e : Bool) → (Among r (xs ++ ys) → Among r xs ⊎ Among r ys) → (e || is_among r (xs ++ ys)) ≡ true → ((e || is_among r xs) ≡ true) ⊎ Among r ys
    go true next h = inl refl
    go false next h = next h

was_there : (r : ℕ) (all more : List ℕ) → Among r (new_in all more) → Among r more
was_there r all [] h = h
was_there r all (s ∷ more) h = go (is_among s all) (s == r) (was_there r all more) h refl
  where
    go : (there e : Bool) → (Among r (new_in all more) → Among r more) → Among r (if there then new_in all more else s ∷ new_in all more) → (s == r) ≡ e
        → (e || is_among r more) ≡ true
    go there true next h p = refl
    go true false next h p = next h
    go false false next h p = next (subst (λ e. (e || is_among r (new_in all more)) ≡ true) p h)

joined : (r : ℕ) (all more : List ℕ) → Among r more → Among r (all ++ new_in all more)
joined r all [] h = absurd (let k : false ≡ true = h in cc)
joined r all (s ∷ more) h = go (is_among s all) refl (s == r) refl (joined r all more) h
  where
    go : (there : Bool) → is_among s all ≡ there → (e : Bool) → (s == r) ≡ e → (Among r more → Among r (all ++ new_in all more))
        → (e || is_among r more) ≡ true → Among r (all ++ (if there then new_in all more else s ∷ new_in all more))
    go true p true q next h = to_left r all (new_in all more) (subst (λ n. Among n all) (eqb-true s r q) p)
    go true p false q next h = next h
    go false p true q next h = to_right r all (s ∷ new_in all more) (subst (λ e. (e || is_among r (new_in all more)) ≡ true) (sym q) refl)
    go false p false q next h = elim (apart r all (new_in all more) (next h)) [
      | inl k ↦ to_left r all (s ∷ new_in all more) k
      | inr k ↦ to_right r all (s ∷ new_in all more) (subst (λ e. (e || is_among r (new_in all more)) ≡ true) (sym q) k)
    ]

-- ---- the fields of a record

abbrev InFields : (known : List (List ℕ)) (r : ℕ) (fields : List Field) → Type 0
InFields known r fields = (f : Field) × IsFieldOf f fields × Among r (held_in known f.ty)

from_fields : (known : List (List ℕ)) (r : ℕ) (all : List ℕ) (fields : List Field) → Among r (fold (with_field known) all fields)
    → Among r all ⊎ InFields known r fields
from_fields known r all [] h = inl h
from_fields known r all (f ∷ more) h = elim (from_fields known r (with_field known all f) more h) [
  | inl k ↦ elim (apart r all (new_in all (held_in known f.ty)) k) [
    | inl l ↦ inl l
    | inr l ↦ inr (f, inl refl, was_there r all (held_in known f.ty) l)
  ]
  | inr k ↦ inr (k.0, inr k.1, k.2)
]

stays : (known : List (List ℕ)) (r : ℕ) (all : List ℕ) (fields : List Field) → Among r all → Among r (fold (with_field known) all fields)
stays known r all [] h = h
stays known r all (f ∷ more) h = stays known r (with_field known all f) more (to_left r all (new_in all (held_in known f.ty)) h)

comes : (known : List (List ℕ)) (r : ℕ) (all : List ℕ) (fields : List Field) (f : Field) → IsFieldOf f fields → Among r (held_in known f.ty)
    → Among r (fold (with_field known) all fields)
comes known r all [] f i h = absurd i
comes known r all (g ∷ more) f (inl e) h =
    stays known r (with_field known all g) more (joined r all (held_in known g.ty) (subst (λ (g : Field). Among r (held_in known g.ty)) e h))
comes known r all (g ∷ more) f (inr i) h = comes known r (with_field known all g) more f i h

objects : (count : ℕ) (fields : List Field) (f : Field) → All (λ t. IsTrue (is_object count t)) (map (λ f. f.ty) fields) → IsFieldOf f fields
    → IsTrue (is_object count f.ty)
objects count [] f h i = absurd i
objects count (g ∷ more) f h (inl e) =
    subst (λ (g : Field). IsTrue (is_object count g.ty)) (sym e) (All-head (λ t. IsTrue (is_object count t)) g.ty (map (λ f. f.ty) more) h)
objects count (g ∷ more) f h (inr i) = objects count more f (All-tail (λ t. IsTrue (is_object count t)) g.ty (map (λ f. f.ty) more) h) i

-- ---- what is known of the records so far

abbrev IsTable : (records : List Record) (known : List (List ℕ)) → Type 0
IsTable records known = (s r : ℕ) → s < length known → Among r (get_or known s []) ↔ Holds records (structure s) r

it_holds : (records : List Record) (known : List (List ℕ)) → IsTable records known → (t : CType) (r : ℕ) → IsTrue (is_object (length known) t)
    → Among r (held_in known t) → Holds records t r
it_holds records known table void r o h = absurd (let k : false ≡ true = h in cc)
it_holds records known table (integer kind) r o h = absurd (let k : false ≡ true = h in cc)
it_holds records known table (pointer t) r o h = absurd (let k : false ≡ true = h in cc)
it_holds records known table (array t n) r o h =
    in_element t n r (it_holds records known table t r (and_parts (nat_lt 0 n) (is_object (length known) t) o).1 h)
it_holds records known table (function t all) r o h = absurd (let k : false ≡ true = h in cc)
it_holds records known table (structure s) r o h = (table s r (ltb-true s (length known) o)).0 h

is_found : (records : List Record) (known : List (List ℕ)) → IsTable records known → (t : CType) (r : ℕ) → IsTrue (is_object (length known) t)
    → Holds records t r → Among r (held_in known t)
is_found records known table t r o (itself s) = (table s s (ltb-true s (length known) o)).1 (itself s)
is_found records known table t r o (in_element u n w h) = is_found records known table u w (and_parts (nat_lt 0 n) (is_object (length known) u) o).1 h
is_found records known table t r o (in_field s w owner f e i h) = (table s w (ltb-true s (length known) o)).1 (in_field s w owner f e i h)

-- ---- one record more

abbrev row : (known : List (List ℕ)) → Record → List ℕ
row known owner = fold (with_field known) (length known ∷ []) owner.fields

row_holds : (records : List Record) (known : List (List ℕ)) (owner : Record) (r : ℕ) → IsTable records known → slice_get records (length known) ≡ Some owner
    → All (λ t. IsTrue (is_object (length known) t)) (field_types owner) → Among r (row known owner) → Holds records (structure (length known)) r
row_holds records known owner r table e o h = elim (from_fields known r (length known ∷ []) owner.fields h) [
  | inl k ↦ go (length known == r) refl k
  | inr k ↦ in_field (length known) r owner k.0 e k.1 (it_holds records known table k.0.ty r (objects (length known) owner.fields k.0 o k.1) k.2)
]
  where
    go : (l : Bool) → (length known == r) ≡ l → (l || false) ≡ true → Holds records (structure (length known)) r
    go true p q = subst (λ n. Holds records (structure (length known)) n) (eqb-true (length known) r p) (itself (length known))
    go false p q = absurd (let k : false ≡ true = q in cc)

row_has : (records : List Record) (known : List (List ℕ)) (owner : Record) (t : CType) (r : ℕ) → IsTable records known
    → slice_get records (length known) ≡ Some owner → All (λ t. IsTrue (is_object (length known) t)) (field_types owner)
    → t ≡ structure (length known) → Holds records t r → Among r (row known owner)
row_has records known owner t r table e o is (itself s) =
    let same : length known ≡ s = cc in
    stays known s (length known ∷ []) owner.fields (subst (λ n. Among n (length known ∷ [])) same (ap (λ l. l || false) (eq-eqb (length known) (length known) refl)))
row_has records known owner t r table e o is (in_element u n w h) = cc
row_has records known owner t r table e o is (in_field s w other f i k h) =
    let same : other ≡ owner = cc in
    let it : IsFieldOf f owner.fields = subst (λ (g : Record). IsFieldOf f g.fields) same k in
    comes known w (length known ∷ []) owner.fields f it (is_found records known table f.ty w (objects (length known) owner.fields f o it) h)

longer : (records : List Record) (known : List (List ℕ)) (owner : Record) → IsTable records known → slice_get records (length known) ≡ Some owner
    → All (λ t. IsTrue (is_object (length known) t)) (field_types owner) → IsTable records (with_record known owner)
longer records known owner table e o s r lt = go (nat_lt s (length known)) refl
  where
    here : get_or (known ++ row known owner ∷ []) (length known + 0) [] ≡ row known owner
    here = get_or-append-add known (row known owner ∷ []) 0 []

    go : (l : Bool) → nat_lt s (length known) ≡ l → Among r (get_or (with_record known owner) s []) ↔ Holds records (structure s) r
    go true p =
        let low : s < length known = ltb-true s (length known) p in
        subst (λ all. Among r all ↔ Holds records (structure s) r) (sym (get_or_append_left known (row known owner ∷ []) [] s low)) (table s r low)
    go false p =
        let high : length known ≤ s = ltb-false s (length known) p in
        let end : s ≡ length known + 0 = omega (arith, high, lt, length-append known (row known owner ∷ [])) in
        let at : length known ≡ s = omega (arith, end) in
        let known_row : get_or (with_record known owner) s [] ≡ row known owner = ap (λ n. get_or (with_record known owner) n []) end ∙ here in
        let both : Among r (row known owner) ↔ Holds records (structure (length known)) r =
        (row_holds records known owner r table e o, row_has records known owner (structure (length known)) r table e o refl) in
        subst (λ n. Among r (get_or (with_record known owner) s []) ↔ Holds records (structure n) r) at
        (subst (λ all. Among r all ↔ Holds records (structure (length known)) r) (sym known_row) both)

abbrev GoesOn : (records : List Record) (known : List (List ℕ)) (rest : List Record) → Type 0
GoesOn records known rest = (j : ℕ) → slice_get records (length known + j) ≡ slice_get rest j

all_known : (records : List Record) (known : List (List ℕ)) (rest : List Record) → AreComplete records → GoesOn records known rest → IsTable records known
    → IsTable records (fold with_record known rest)
all_known records known [] complete on table = table
all_known records known (owner ∷ rest) complete on table =
    let e : slice_get records (length known) ≡ Some owner = let zero_more : length known + 0 ≡ length known = omega arith in
    subst (λ n. slice_get records n ≡ Some owner) zero_more (on 0) in
    all_known records (with_record known owner) rest complete
    (λ j. let n : length (with_record known owner) + j ≡ length known + suc j = omega (arith, length-append known (row known owner ∷ [])) in
    ap (slice_get records) n ∙ on (suc j))
    (longer records known owner table e (complete (length known) owner e))

all_counted : (known : List (List ℕ)) (rest : List Record) → length (fold with_record known rest) ≡ length known + length rest
all_counted known [] = omega arith
all_counted known (owner ∷ rest) = omega (arith, all_counted (with_record known owner) rest, length-append known (row known owner ∷ []))

pub holdings_are_exact : (records : List Record) → AreComplete records → HoldingsAreExact records
holdings_are_exact records complete t r o =
    let none : IsTable records [] = λ s r lt. absurd (let k : s < 0 = lt in omega (arith, k)) in
    let table : IsTable records (holdings_of records) = all_known records [] records complete (λ j. let n : 0 + j ≡ j = omega arith in ap (slice_get records) n) none in
    let count : length (holdings_of records) ≡ length records = omega (arith, all_counted [] records) in
    let it : IsTrue (is_object (length (holdings_of records)) t) = subst (λ n. IsTrue (is_object n t)) (sym count) o in
    (it_holds records (holdings_of records) table t r it, is_found records (holdings_of records) table t r it)
