-- The troubles that are found record after record are those with tags.
use Rattle.std.proofs.Common.{◌≡◌, ℕ, inl, inr, Bool, true, false, ◌&&◌, List, [], ◌∷◌, ◌++◌, Option, Some, None, fold, map, flat_map, refl, sym, ap, ◌∙◌}
use Rattle.std.specs.Prelude.{if◌then◌else◌, MatchOption}
use Rattle.std.specs.Option.{option_map}
use Rattle.std.specs.Str.{bytes_eq}
use Rattle.std.proofs.lemmas.Bool.{and_parts}
use Rattle.std.proofs.lemmas.Slice.Eq.{bytes_eq-Decides}
use Rattle.c_types.proofs.SameTypes.{same_is, same_self}
use Rattle.c_types.specs.Sameness.{same_type}
use Rattle.c_types.specs.Types.{CType, Field, Record}
use Rattle.c_typed.specs.Programs.{UnitData}
use Rattle.c_numbers.proofs.KeyNumbers.Laws.{all_new}
use Rattle.c_numbers.specs.KeyNumbers.Keys.{new_keys, with_key}
use Rattle.c_link.specs.Joining.{all_records_in, all_tags, complete_in, complete_tags, if_any, with_tag}
use Rattle.c_link.specs.JoinedViews.{tagged}
use Rattle.c_link.proofs.Whole.{tags_of_all, with_tag_is}
use Rattle.c_link.specs.Clashes.{clashes, differing, same_fields, trouble_of}
use Rattle.c_link.specs.declared.troubles.Trouble as troubles
use Rattle.c_link.specs.Earliest.{earliest_of}
use Rattle.c_link.specs.Gaps.{HasNone, HaveSameMembers, IsEarliest, IsIn, IsTagClash, Trouble}
use Rattle.c_link.specs.Repeats.{of_that_name}
use Rattle.c_link.proofs.Earliest.{earliest_or_none}
use Rattle.c_link.proofs.Repeats.{IsTold, in_is_told, told_is_in}

-- ---- members

abbrev Member : Type 0
Member = List ℕ × CType

abbrev members : List Field → List Member
members fields = map {B = Member} (λ f. (f.name, f.ty)) fields

pub same_then : (all others : List Field) → same_fields all others ≡ true → members all ≡ members others
same_then [] [] h = refl
same_then (f ∷ more) (g ∷ others) h =
    let parts = and_parts (bytes_eq f.name g.name && same_type f.ty g.ty) (same_fields more others) h in
    let both = and_parts (bytes_eq f.name g.name) (same_type f.ty g.ty) parts.0 in
    ap (λ x. (x, f.ty) ∷ members more) ((bytes_eq-Decides f.name g.name).0 both.0)
    ∙ ap (λ t. (g.name, t) ∷ members more) (same_is f.ty g.ty both.1)
    ∙ ap (λ rest. (g.name, g.ty) ∷ rest) (same_then more others parts.1)
same_then [] (g ∷ others) h = absurd (let k : false ≡ true = h in cc)
same_then (f ∷ more) [] h = absurd (let k : false ≡ true = h in cc)

abbrev head_of : List Member → Member → Member
head_of [] m = m
head_of (m ∷ more) n = m

abbrev rest_of : List Member → List Member
rest_of [] = []
rest_of (m ∷ more) = more

alike : (f g : Field) → bytes_eq f.name g.name ≡ true → same_type f.ty g.ty ≡ true → (bytes_eq f.name g.name && same_type f.ty g.ty) ≡ true
alike f g h k = ap (λ b. b && same_type f.ty g.ty) h ∙ k

pub then_same : (all others : List Field) → members all ≡ members others → same_fields all others ≡ true
then_same [] [] h = refl
then_same (f ∷ more) (g ∷ others) h =
    let m : (f.name, f.ty) ≡ (g.name, g.ty) = ap (λ ms. head_of ms (f.name, f.ty)) h in
    let a = alike f g ((bytes_eq-Decides f.name g.name).1 (ap (λ x. x.0) m)) (same_self f.ty g.ty (ap (λ x. x.1) m)) in
    ap (λ b. b && same_fields more others) a ∙ then_same more others (ap rest_of h)
then_same [] (g ∷ others) h = absurd (nil_is_no_cons _ _ h)
  where
    nil_is_no_cons : (m : Member) (ms : List Member) → [] ≡ m ∷ ms → ⊥
    nil_is_no_cons m ms e = cc
then_same (f ∷ more) [] h = absurd (cons_is_no_nil _ _ h)
  where
    cons_is_no_nil : (m : Member) (ms : List Member) → m ∷ ms ≡ [] → ⊥
    cons_is_no_nil m ms e = cc

-- ---- the tags of records, each once

abbrev tags_in : List Record → List (List ℕ)
tags_in all = map {B = List ℕ} (λ p. p.0) (map tagged all)

tags_are : (all : List Record) → tags_in all ≡ map (λ r. r.tag) all
tags_are [] = refl
tags_are (r ∷ more) = ap (λ rest. r.tag ∷ rest) (tags_are more)

-- the tags of a program begin with those of its units' records
all_begin : (units : List UnitData)
    → all_tags units ≡ fold with_key [] (map (λ r. r.tag) (all_records_in units)) ++ new_keys (complete_tags units) (flat_map (λ u. u.incomplete) units)
all_begin units =
    ap (λ ks. ks ++ new_keys (complete_tags units) (flat_map (λ u. u.incomplete) units))
    (sym (all_new (flat_map complete_in units)) ∙ ap (fold with_key []) (sym (tags_of_all (all_tags units) units) ∙ tags_are (all_records_in units)))

-- ---- what is told of records is what is wrong with them

abbrev IsDiffering : List Record → Trouble → Type 0
IsDiffering all t = IsTold (λ r. r.tag) (λ r. true) differing all t

first_is : (tag : List ℕ) (all : List Record) (o : Option Record) → of_that_name (λ (r : Record). r.tag) (λ r. true) differing tag all ≡ o → with_tag tag all ≡ if_any o
first_is tag all o h = sym (with_tag_is tag all) ∙ ap if_any h

only : (o : Option Record) (x : Record) (xs : List Record) → if_any o ≡ x ∷ xs → o ≡ Some x
only None x xs h = absurd (nil_is_no_cons x xs h)
  where
    nil_is_no_cons : (m : Record) (ms : List Record) → [] ≡ m ∷ ms → ⊥
    nil_is_no_cons m ms e = cc
only (Some y) x xs h = ap Some (heads_are y x xs h)
  where
    heads_are : (a b : Record) (bs : List Record) → a ∷ [] ≡ b ∷ bs → a ≡ b
    heads_are a b bs e = cc

false_is_true : false ≡ true → ⊥
false_is_true h = cc

clash_is_told : (units : List UnitData) (t : Trouble) → IsTagClash units t → IsDiffering (all_records_in units) t
clash_is_told units t w =
    let before = w.0 in
    let r = w.2 in
    let first = w.3 in
    let e : of_that_name (λ (r : Record). r.tag) (λ r. true) differing r.tag before ≡ Some first =
    only _ first w.4 (with_tag_is r.tag before ∙ w.6) in
    (before, w.1, r, first, w.5, e, here r first w.7 w.8)
  where
    here : (r first : Record) → (HaveSameMembers r first → ⊥) → t ≡ record { name = r.tag; place = r.place; first = first.place } → IsIn t (differing first r)
    here r first h e = go (same_fields r.fields first.fields) refl
      where
        go : (b : Bool) → same_fields r.fields first.fields ≡ b
            → IsIn t (if b then [] else record { name = r.tag; place = r.place; first = first.place } ∷ [])
        go true k = absurd (h (same_then r.fields first.fields k))
        go false k = inl e

told_is_clash : (units : List UnitData) (t : Trouble) → IsDiffering (all_records_in units) t → IsTagClash units t
told_is_clash units t w =
    let before = w.0 in
    let r = w.2 in
    let first = w.3 in
    let b = both r first w.6 in
    (before, w.1, r, first, [], w.4, first_is r.tag before (Some first) w.5, b.0, b.1)
  where
    both : (r first : Record) → IsIn t (differing first r) → (HaveSameMembers r first → ⊥) × (t ≡ record { name = r.tag; place = r.place; first = first.place })
    both r first h = go (same_fields r.fields first.fields) refl h
      where
        go : (b : Bool) → same_fields r.fields first.fields ≡ b
            → IsIn t (if b then [] else record { name = r.tag; place = r.place; first = first.place } ∷ [])
            → (HaveSameMembers r first → ⊥) × (t ≡ record { name = r.tag; place = r.place; first = first.place })
        go true k h = absurd h
        go false k (inl e) = (λ same. false_is_true (sym k ∙ then_same r.fields first.fields same), e)
        go false k (inr e) = absurd e

pub clash_or_none : (units : List UnitData) (o : Option troubles.Trouble) → option_map trouble_of o ≡ earliest_of (clashes (all_tags units) [] (all_records_in units))
    → MatchOption o (HasNone (IsTagClash units)) (λ t. IsEarliest (IsTagClash units) (trouble_of t))
clash_or_none units o h =
    let all = all_records_in units in
    let rest = new_keys (complete_tags units) (flat_map (λ u. u.incomplete) units) in
    earliest_or_none (IsTagClash units) (clashes (all_tags units) [] all)
    (λ t w. told_is_in (λ (r : Record). r.tag) (λ r. true) differing (all_tags units) rest all (all_begin units) t (clash_is_told units t w))
    (λ t w. told_is_clash units t (in_is_told (λ (r : Record). r.tag) (λ r. true) differing (all_tags units) rest all (all_begin units) t w)) o h
