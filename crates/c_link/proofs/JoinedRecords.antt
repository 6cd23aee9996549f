-- Of units without a clash of tags, the structures of each stand among the program's with the same members.
use Rattle.std.proofs.Common.{◌≡◌, ℕ, zero, suc, ◌⊎◌, inl, inr, Bool, true, false, List, [], ◌∷◌, ◌++◌, Option, Some, None, fold, map, flat_map, get_or, refl}
use Rattle.std.proofs.Common.{sym, ap, ◌∙◌, subst}
use Rattle.std.specs.Prelude.{if◌then◌else◌, slice_get}
use Rattle.std.specs.Str.{bytes_eq}
use Rattle.std.proofs.lemmas.Slice.Eq.{bytes_eq-Decides}
use Rattle.c_numbers.specs.TypeNumbers.Renumbered.{field_in, record_in, renumbered}
use Rattle.c_types.specs.Types.{CType, Field, Record, field_types}
use Rattle.c_typed.specs.Programs.{UnitData}
use Rattle.c_numbers.proofs.KeyNumbers.Laws.{all_new}
use Rattle.c_numbers.specs.KeyNumbers.Keys.{new_keys, position, with_key}
use Rattle.c_link.specs.Joining.{all_records_in, all_tags, chosen, complete_in, complete_tags, if_any, records, records_in, structure_in, under, with_tag}
use Rattle.c_link.specs.Placing.{placed}
use Rattle.c_link.specs.JoinedViews.{tagged}
use Rattle.c_link.proofs.UnderKeys.{found_at}
use Rattle.c_link.proofs.Whole.{records_are, tags_of_all, with_tag_is}
use Rattle.c_link.specs.Clashes.{same_fields}
use Rattle.c_link.specs.Gaps.{HasNone, IsTagClash}
use Rattle.c_link.proofs.Layouts.{StandAmong}
use Rattle.c_link.proofs.TagClashes.{same_then, then_same}

-- ---- what stands in a list of lists

-- something of some list
abbrev pub IsAmong : {A : Type 0} → A → List A → Type 0
IsAmong x [] = ⊥
IsAmong x (y ∷ more) = (x ≡ y) ⊎ IsAmong x more

pub among_left : {A : Type 0} (x : A) (xs ys : List A) → IsAmong x xs → IsAmong x (xs ++ ys)
among_left x [] ys h = absurd h
among_left x (y ∷ more) ys (inl e) = inl e
among_left x (y ∷ more) ys (inr h) = inr (among_left x more ys h)

pub among_right : {A : Type 0} (x : A) (xs ys : List A) → IsAmong x ys → IsAmong x (xs ++ ys)
among_right x [] ys h = h
among_right x (y ∷ more) ys h = inr (among_right x more ys h)

pub among_flat : {A B : Type 0} (f : A → List B) (y : A) (all : List A) (x : B) → IsAmong y all → IsAmong x (f y) → IsAmong x (flat_map f all)
among_flat f y [] x h k = absurd h
among_flat f y (z ∷ more) x (inl e) k = among_left x (f z) (flat_map f more) (subst (λ w. IsAmong x (f w)) e k)
among_flat f y (z ∷ more) x (inr h) k = among_right x (f z) (flat_map f more) (among_flat f y more x h k)

pub among_map : {A B : Type 0} (f : A → B) (y : A) (all : List A) → IsAmong y all → IsAmong (f y) (map f all)
among_map f y [] h = absurd h
among_map f y (z ∷ more) (inl e) = inl (ap f e)
among_map f y (z ∷ more) (inr h) = inr (among_map f y more h)

pub among_at : {A : Type 0} (xs : List A) (n : ℕ) (x : A) → slice_get xs n ≡ Some x → IsAmong x xs
among_at [] n x h = cc
among_at (y ∷ more) zero x h = inl (some_is y x h)
  where
    some_is : {A : Type 0} (x y : A) → Some x ≡ Some y → y ≡ x
    some_is x y h = cc
among_at (y ∷ more) (suc n) x h = inr (among_at more n x h)

split_at : {A : Type 0} (x : A) (all : List A) → IsAmong x all → (before after : List A) × (all ≡ before ++ x ∷ after)
split_at x [] h = absurd h
split_at x (y ∷ more) (inl e) = ([], more, ap (λ z. z ∷ more) (sym e))
split_at x (y ∷ more) (inr h) = let s = split_at x more h in (y ∷ s.0, s.1, ap (λ rest. y ∷ rest) s.2)

-- ---- the first of a tag

false_is_true : false ≡ true → ⊥
false_is_true h = cc

with_tag_append : (tag : List ℕ) (before after : List Record) (first : Record) (rest : List Record) → with_tag tag before ≡ first ∷ rest
    → with_tag tag (before ++ after) ≡ first ∷ rest
with_tag_append tag [] after first rest h = cc
with_tag_append tag (r ∷ more) after first rest h =
    go (bytes_eq tag r.tag) h (with_tag_append tag more after first rest)
  where
    go : (b : Bool) → (if b then r ∷ [] else with_tag tag more) ≡ first ∷ rest
        → (with_tag tag more ≡ first ∷ rest → with_tag tag (more ++ after) ≡ first ∷ rest) → (if b then r ∷ [] else with_tag tag (more ++ after)) ≡ first ∷ rest
    go true e k = e
    go false e k = k e

with_tag_after : (tag : List ℕ) (before after : List Record) (r : Record) → with_tag tag before ≡ [] → bytes_eq tag r.tag ≡ true
    → with_tag tag (before ++ r ∷ after) ≡ r ∷ []
with_tag_after tag [] after r h e = ap (λ b. if b then r ∷ [] else with_tag tag after) e
with_tag_after tag (s ∷ more) after r h e =
    go (bytes_eq tag s.tag) h (λ k. with_tag_after tag more after r k e)
  where
    go : (b : Bool) → (if b then s ∷ [] else with_tag tag more) ≡ [] → (with_tag tag more ≡ [] → with_tag tag (more ++ r ∷ after) ≡ r ∷ [])
        → (if b then s ∷ [] else with_tag tag (more ++ r ∷ after)) ≡ r ∷ []
    go true k f = cc
    go false k f = f k

types_of_members : (all others : List Field) → map {B = List ℕ × CType} (λ f. (f.name, f.ty)) all ≡ map {B = List ℕ × CType} (λ f. (f.name, f.ty)) others
    → map (λ f. f.ty) all ≡ map (λ f. f.ty) others
types_of_members all others h = sym (only_types all) ∙ ap (map {A = List ℕ × CType} (λ m. m.1)) h ∙ only_types others
  where
    only_types : (fields : List Field) → map {A = List ℕ × CType} (λ m. m.1) (map (λ f. (f.name, f.ty)) fields) ≡ map (λ f. f.ty) fields
    only_types [] = refl
    only_types (f ∷ more) = ap (λ rest. f.ty ∷ rest) (only_types more)

-- a record of the units has the members of the first of its tag
first_is_alike : (units : List UnitData) → HasNone (IsTagClash units) → (x : Record) → IsAmong x (all_records_in units)
    → (first : Record) × (rest : List Record) × (with_tag x.tag (all_records_in units) ≡ first ∷ rest) × (field_types first ≡ field_types x)
first_is_alike units none x h =
    let s = split_at x (all_records_in units) h in
    go s.0 s.1 s.2 (with_tag x.tag s.0) refl
  where
    self : bytes_eq x.tag x.tag ≡ true
    self = (bytes_eq-Decides x.tag x.tag).1 refl

    members_differ : (before after : List Record) → all_records_in units ≡ before ++ x ∷ after → (first : Record) (rest : List Record)
        → with_tag x.tag before ≡ first ∷ rest → (b : Bool) → same_fields x.fields first.fields ≡ b → field_types first ≡ field_types x
    members_differ before after e first rest k true d = sym (types_of_members x.fields first.fields (same_then x.fields first.fields d))
    members_differ before after e first rest k false d =
        absurd (none (record { name = x.tag; place = x.place; first = first.place })
        (before, after, x, first, rest, e, k, (λ same. false_is_true (sym d ∙ then_same x.fields first.fields same)), refl))

    go : (before after : List Record) → all_records_in units ≡ before ++ x ∷ after → (found : List Record) → with_tag x.tag before ≡ found
        → (first : Record) × (rest : List Record) × (with_tag x.tag (all_records_in units) ≡ first ∷ rest) × (field_types first ≡ field_types x)
    go before after e [] k = (x, [], ap (with_tag x.tag) e ∙ with_tag_after x.tag before after x k self, refl)
    go before after e (first ∷ rest) k = (
      first,
      rest,
      ap (with_tag x.tag) e ∙ with_tag_append x.tag before (x ∷ after) first rest k,
      members_differ before after e first rest k (same_fields x.fields first.fields) refl,
    )

-- ---- the program's record of a tag

pub tags_are : (all : List Record) → map {B = List ℕ} (λ p. p.0) (map tagged all) ≡ map (λ r. r.tag) all
tags_are [] = refl
tags_are (r ∷ more) = ap (λ rest. r.tag ∷ rest) (tags_are more)

record_at : (units : List UnitData) (tag : List ℕ) → slice_get (records units) (position (all_tags units) tag)
    ≡ chosen (λ r. true) (under tag (map tagged (all_records_in units)))
record_at units tag =
    let ps = map tagged (all_records_in units) in
    let rest = new_keys (complete_tags units) (flat_map (λ u. u.incomplete) units) in
    let e : all_tags units ≡ fold with_key [] (map {B = List ℕ} (λ p. p.0) ps) ++ rest =
    ap (λ ks. ks ++ rest) (sym (all_new (flat_map complete_in units)) ∙ ap (fold with_key []) (sym (tags_of_all (all_tags units) units))) in
    ap (λ rs. slice_get rs (position (all_tags units) tag)) (sym (records_are units))
    ∙ ap (λ ks. slice_get (placed (λ r. true) ks [] ps) (position ks tag)) e
    ∙ found_at (λ r. true) ps rest tag

only : (o : Option Record) (x : Record) (xs : List Record) → if_any o ≡ x ∷ xs → o ≡ Some x
only None x xs h = cc
only (Some y) x xs h = ap Some (heads_are y x xs h)
  where
    heads_are : (a b : Record) (bs : List Record) → a ∷ [] ≡ b ∷ bs → a ≡ b
    heads_are a b bs e = cc

-- ---- the number of a unit's record

pub tag_at : (rs : List Record) (more : List (List ℕ)) (n : ℕ) (r : Record) → slice_get rs n ≡ Some r → get_or (map (λ r. r.tag) rs ++ more) n [] ≡ r.tag
tag_at [] more n r h = cc
tag_at (x ∷ rs) more zero r h = some_is x r h
  where
    some_is : (x y : Record) → Some x ≡ Some y → x.tag ≡ y.tag
    some_is x y h = cc
tag_at (x ∷ rs) more (suc n) r h = tag_at rs more n r h

pub types_renumbered : (f : ℕ → ℕ) (fields : List Field) → map (λ f. f.ty) (map (field_in f) fields) ≡ map (renumbered f) (map (λ f. f.ty) fields)
types_renumbered f [] = refl
types_renumbered f (x ∷ more) = ap (λ rest. renumbered f x.ty ∷ rest) (types_renumbered f more)

pub stand_among : (units : List UnitData) → HasNone (IsTagClash units) → (u : UnitData) → IsAmong u units
    → StandAmong (structure_in (all_tags units) u) u.records (records units)
stand_among units none u there n r h =
    let f = structure_in (all_tags units) u in
    let x = record_in f r in
    let in_unit : IsAmong x (records_in (all_tags units) u) = among_map (record_in f) r u.records (among_at u.records n r h) in
    let w = first_is_alike units none x (among_flat (records_in (all_tags units)) u units x there in_unit) in
    let number : f n ≡ position (all_tags units) r.tag = ap (position (all_tags units)) (tag_at u.records u.incomplete n r h) in
    let at : slice_get (records units) (position (all_tags units) r.tag) ≡ Some w.0 =
    record_at units r.tag ∙ only _ w.0 w.1 (with_tag_is r.tag (all_records_in units) ∙ w.2) in
    (w.0, ap (slice_get (records units)) number ∙ at, w.3 ∙ types_renumbered f r.fields)
