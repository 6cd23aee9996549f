-- What is told of names is what is wrong with them: a name of two types, and one that is defined twice.
use Rattle.std.proofs.Common.{◌≡◌, ◌≢◌, ℕ, inl, inr, Bool, true, false, ◌&&◌, List, [], ◌∷◌, ◌++◌, Option, Some, None, fold, map, refl, sym, ap, ◌∙◌, subst}
use Rattle.std.specs.Prelude.{if◌then◌else◌, filter, MatchOption}
use Rattle.std.specs.Option.{option_map}
use Rattle.std.specs.Str.{bytes_eq}
use Rattle.std.proofs.lemmas.Bool.{and_parts}
use Rattle.std.proofs.lemmas.List.{append-nil}
use Rattle.std.proofs.lemmas.Slice.Eq.{bytes_eq-Decides}
use Rattle.c_types.proofs.SameTypes.{same_is, same_self}
use Rattle.c_types.specs.Sameness.{same_type}
use Rattle.c_typed.specs.Programs.{UnitData}
use Rattle.c_numbers.specs.KeyNumbers.Keys.{with_key}
use Rattle.c_link.specs.Joining.{chosen, chosen_among, or_first, under}
use Rattle.c_link.specs.Clashes.{trouble_of}
use Rattle.c_link.specs.declared.names.Asked.{Asked}
use Rattle.c_link.specs.declared.names.Asked.TheVariants.{OneType, OneDefinition}
use Rattle.c_link.specs.declared.troubles.Trouble as troubles
use Rattle.c_link.specs.Earliest.{earliest_of}
use Rattle.c_link.specs.Gaps.{HasNone, IsEarliest, IsIn, IsNameClash, IsTwice, Linked, Trouble, linked_in, of_name, trouble}
use Rattle.c_link.specs.Names.{IsAsked, counts, defined_twice, of_two_types, told_by, troubles_with_names}
use Rattle.c_link.specs.Repeats.{of_that_name}
use Rattle.c_link.proofs.Earliest.{earliest_or_none}
use Rattle.c_link.proofs.Repeats.{IsTold, in_is_told, told_is_in}

false_is_true : false ≡ true → ⊥
false_is_true h = cc

some_is : {A : Type 0} (x y : A) → Some x ≡ Some y → x ≡ y
some_is x y h = cc

none_is_some : {A : Type 0} (x : A) → None ≡ Some x → ⊥
none_is_some x h = cc

heads_are : {A : Type 0} (a b : A) (xs ys : List A) → a ∷ xs ≡ b ∷ ys → a ≡ b
heads_are a b xs ys h = cc

nil_is_no_cons : {A : Type 0} (b : A) (bs : List A) → [] ≡ b ∷ bs → ⊥
nil_is_no_cons b bs h = cc

-- ---- those of a name

turned : (x y : List ℕ) → bytes_eq x y ≡ bytes_eq y x
turned x y = go (bytes_eq x y) (bytes_eq y x) refl refl
  where
    go : (a b : Bool) → bytes_eq x y ≡ a → bytes_eq y x ≡ b → a ≡ b
    go true true e f = refl
    go false false e f = refl
    go true false e f = absurd (false_is_true (sym f ∙ (bytes_eq-Decides y x).1 (sym ((bytes_eq-Decides x y).0 e))))
    go false true e f = absurd (false_is_true (sym e ∙ (bytes_eq-Decides x y).1 (sym ((bytes_eq-Decides y x).0 f))))

abbrev named : Linked → List ℕ × Linked
named l = (l.name, l)

under_is : (x : List ℕ) (all : List Linked) → under x (map {B = List ℕ × Linked} named all) ≡ of_name x all
under_is x [] = refl
under_is x (l ∷ more) =
    go (bytes_eq x l.name) (bytes_eq l.name x) (turned x l.name) (under_is x more)
  where
    go : (a b : Bool) → a ≡ b → under x (map {B = List ℕ × Linked} named more) ≡ of_name x more
        → (if a then l ∷ under x (map {B = List ℕ × Linked} named more) else under x (map {B = List ℕ × Linked} named more))
        ≡ (if b then l ∷ of_name x more else of_name x more)
    go true true e h = ap (λ rest. l ∷ rest) h
    go false false e h = h
    go true false e h = absurd (false_is_true (sym e))
    go false true e h = absurd (false_is_true e)

-- the first of some
first_is : (xs : List Linked) (f : Linked) → chosen (λ l. true) xs ≡ Some f → (rest : List Linked) × (xs ≡ f ∷ rest)
first_is [] f h = absurd (none_is_some f h)
first_is (x ∷ more) f h = (more, ap (λ y. y ∷ more) (some_is x f h))

is_first : (xs rest : List Linked) (f : Linked) → xs ≡ f ∷ rest → chosen (λ l. true) xs ≡ Some f
is_first xs rest f h = ap (chosen (λ l. true)) h

-- the first that is defined
abbrev d : Linked → Bool
d l = l.is_defined

among_is : (xs : List Linked) (f : Linked) → chosen_among d xs ≡ Some f → (rest : List Linked) × (filter d xs ≡ f ∷ rest)
among_is [] f h = absurd (none_is_some f h)
among_is (x ∷ more) f h =
    go (d x) h (among_is more f)
  where
    go : (b : Bool) → (if b then Some x else chosen_among d more) ≡ Some f → (chosen_among d more ≡ Some f → (rest : List Linked) × (filter d more ≡ f ∷ rest))
        → (rest : List Linked) × ((if b then x ∷ filter d more else filter d more) ≡ f ∷ rest)
    go true e k = (filter d more, ap (λ y. y ∷ filter d more) (some_is x f e))
    go false e k = k e

defined_is : (xs : List Linked) (f : Linked) → chosen d xs ≡ Some f → d f ≡ true → (rest : List Linked) × (filter d xs ≡ f ∷ rest)
defined_is [] f h g = absurd (none_is_some f h)
defined_is (x ∷ more) f h g =
    go (d x) refl (chosen_among d more) refl h
  where
    go : (b : Bool) → d x ≡ b → (o : Option Linked) → chosen_among d more ≡ o → (if b then Some x else or_first x o) ≡ Some f
        → (rest : List Linked) × ((if b then x ∷ filter d more else filter d more) ≡ f ∷ rest)
    go true e o k w = (filter d more, ap (λ y. y ∷ filter d more) (some_is x f w))
    go false e (Some y) k w = among_is more f (k ∙ ap Some (some_is y f w))
    go false e None k w = absurd (false_is_true (sym e ∙ ap d (some_is x f w) ∙ g))

is_among : (xs rest : List Linked) (f : Linked) → filter d xs ≡ f ∷ rest → chosen_among d xs ≡ Some f
is_among [] rest f h = absurd (nil_is_no_cons f rest h)
is_among (x ∷ more) rest f h =
    go (d x) h (is_among more rest f)
  where
    go : (b : Bool) → (if b then x ∷ filter d more else filter d more) ≡ f ∷ rest → (filter d more ≡ f ∷ rest → chosen_among d more ≡ Some f)
        → (if b then Some x else chosen_among d more) ≡ Some f
    go true e k = ap Some (heads_are x f (filter d more) rest e)
    go false e k = k e

is_defined : (xs rest : List Linked) (f : Linked) → filter d xs ≡ f ∷ rest → chosen d xs ≡ Some f
is_defined [] rest f h = absurd (nil_is_no_cons f rest h)
is_defined (x ∷ more) rest f h =
    go (d x) h (is_among more rest f)
  where
    go : (b : Bool) → (if b then x ∷ filter d more else filter d more) ≡ f ∷ rest → (filter d more ≡ f ∷ rest → chosen_among d more ≡ Some f)
        → (if b then Some x else or_first x (chosen_among d more)) ≡ Some f
    go true e k = ap Some (heads_are x f (filter d more) rest e)
    go false e k = ap (or_first x) (k e)

-- all that stand first are defined, where they are picked from those that are
first_defined : (xs rest : List Linked) (f : Linked) → filter d xs ≡ f ∷ rest → d f ≡ true
first_defined [] rest f h = absurd (nil_is_no_cons f rest h)
first_defined (x ∷ more) rest f h =
    go (d x) refl h (first_defined more rest f)
  where
    go : (b : Bool) → d x ≡ b → (if b then x ∷ filter d more else filter d more) ≡ f ∷ rest → (filter d more ≡ f ∷ rest → d f ≡ true) → d f ≡ true
    go true e k later = ap d (sym (heads_are x f (filter d more) rest k)) ∙ e
    go false e k later = later k

-- ---- names of two types

abbrev OfTwoTypes : List Linked → Trouble → Type 0
OfTwoTypes all t = IsTold (λ l. l.name) (counts OneType) (told_by OneType) all t

clash_is_told : (units : List UnitData) (t : Trouble) → IsNameClash units t → OfTwoTypes (linked_in units) t
clash_is_told units t w =
    let before = w.0 in
    let l = w.2 in
    let first = w.3 in
    let e : of_that_name (λ (l : Linked). l.name) (counts OneType) (told_by OneType) l.name before ≡ Some first =
    ap (chosen (λ (l : Linked). true)) (under_is l.name before) ∙ is_first (of_name l.name before) w.4 first w.6 in
    (before, w.1, l, first, w.5, e, here l first w.7 w.8)
  where
    here : (l first : Linked) → l.ty ≢ first.ty → t ≡ trouble l first → IsIn t (of_two_types first l)
    here l first h e = go (same_type l.ty first.ty) refl
      where
        go : (b : Bool) → same_type l.ty first.ty ≡ b → IsIn t (if b then [] else trouble l first ∷ [])
        go true k = absurd (h (same_is l.ty first.ty k))
        go false k = inl e

told_is_clash : (units : List UnitData) (t : Trouble) → OfTwoTypes (linked_in units) t → IsNameClash units t
told_is_clash units t w =
    let before = w.0 in
    let l = w.2 in
    let first = w.3 in
    let r = first_is (of_name l.name before) first (sym (ap (chosen (λ (l : Linked). true)) (under_is l.name before)) ∙ w.5) in
    let b = both l first w.6 in
    (before, w.1, l, first, r.0, w.4, r.1, b.0, b.1)
  where
    both : (l first : Linked) → IsIn t (of_two_types first l) → (l.ty ≢ first.ty) × (t ≡ trouble l first)
    both l first h = go (same_type l.ty first.ty) refl h
      where
        go : (b : Bool) → same_type l.ty first.ty ≡ b → IsIn t (if b then [] else trouble l first ∷ []) → (l.ty ≢ first.ty) × (t ≡ trouble l first)
        go true k h = absurd h
        go false k (inl e) = (λ s. false_is_true (sym k ∙ same_self l.ty first.ty s), e)
        go false k (inr e) = absurd e

-- ---- names that are defined twice

abbrev DefinedTwice : List Linked → Trouble → Type 0
DefinedTwice all t = IsTold (λ l. l.name) (counts OneDefinition) (told_by OneDefinition) all t

twice_is_told : (units : List UnitData) (t : Trouble) → IsTwice units t → DefinedTwice (linked_in units) t
twice_is_told units t w =
    let before = w.0 in
    let l = w.2 in
    let first = w.3 in
    let e : of_that_name (λ (l : Linked). l.name) (counts OneDefinition) (told_by OneDefinition) l.name before ≡ Some first =
    ap (chosen d) (under_is l.name before) ∙ is_defined (of_name l.name before) w.4 first w.7 in
    (before, w.1, l, first, w.5, e, here l first w.6 (first_defined (of_name l.name before) w.4 first w.7) w.8)
  where
    here : (l first : Linked) → l.is_defined ≡ true → first.is_defined ≡ true → t ≡ trouble l first → IsIn t (defined_twice first l)
    here l first h k e =
        subst (λ b. IsIn t (if b then trouble l first ∷ [] else [])) (sym (ap (λ b. b && l.is_defined) k ∙ h)) (inl e)

told_is_twice : (units : List UnitData) (t : Trouble) → DefinedTwice (linked_in units) t → IsTwice units t
told_is_twice units t w =
    let before = w.0 in
    let l = w.2 in
    let first = w.3 in
    let b = both l first w.6 in
    let r = defined_is (of_name l.name before) first (sym (ap (chosen d) (under_is l.name before)) ∙ w.5) b.0 in
    (before, w.1, l, first, r.0, w.4, b.1, r.1, b.2)
  where
    both : (l first : Linked) → IsIn t (defined_twice first l) → (first.is_defined ≡ true) × (l.is_defined ≡ true) × (t ≡ trouble l first)
    both l first h = go (first.is_defined && l.is_defined) refl h
      where
        go : (b : Bool) → (first.is_defined && l.is_defined) ≡ b → IsIn t (if b then trouble l first ∷ [] else [])
            → (first.is_defined ≡ true) × (l.is_defined ≡ true) × (t ≡ trouble l first)
        go true k (inl e) = let p = and_parts first.is_defined l.is_defined k in (p.0, p.1, e)
        go true k (inr e) = absurd e
        go false k h = absurd h

-- ---- the earliest

all_keys : (all : List Linked) → fold with_key [] (map (λ l. l.name) all) ≡ fold with_key [] (map (λ l. l.name) all) ++ []
all_keys all = sym (append-nil (fold with_key [] (map (λ l. l.name) all)))

clash_or_none : (units : List UnitData) (o : Option troubles.Trouble) → option_map trouble_of o ≡ earliest_of (troubles_with_names OneType (linked_in units))
    → MatchOption o (HasNone (IsNameClash units)) (λ t. IsEarliest (IsNameClash units) (trouble_of t))
clash_or_none units o h =
    let all = linked_in units in
    let keys = fold with_key [] (map (λ (l : Linked). l.name) all) in
    earliest_or_none (IsNameClash units) (troubles_with_names OneType all)
    (λ t w. told_is_in (λ (l : Linked). l.name) (counts OneType) (told_by OneType) keys [] all (all_keys all) t (clash_is_told units t w))
    (λ t w. told_is_clash units t (in_is_told (λ (l : Linked). l.name) (counts OneType) (told_by OneType) keys [] all (all_keys all) t w)) o h

twice_or_none : (units : List UnitData) (o : Option troubles.Trouble) → option_map trouble_of o ≡ earliest_of (troubles_with_names OneDefinition (linked_in units))
    → MatchOption o (HasNone (IsTwice units)) (λ t. IsEarliest (IsTwice units) (trouble_of t))
twice_or_none units o h =
    let all = linked_in units in
    let keys = fold with_key [] (map (λ (l : Linked). l.name) all) in
    earliest_or_none (IsTwice units) (troubles_with_names OneDefinition all)
    (λ t w. told_is_in (λ (l : Linked). l.name) (counts OneDefinition) (told_by OneDefinition) keys [] all (all_keys all) t (twice_is_told units t w))
    (λ t w. told_is_twice units t (in_is_told (λ (l : Linked). l.name) (counts OneDefinition) (told_by OneDefinition) keys [] all (all_keys all) t w)) o h

pub asked_or_none : (units : List UnitData) (asked : Asked) (all : List Linked) (o : Option troubles.Trouble) → all ≡ linked_in units
    → option_map trouble_of o ≡ earliest_of (troubles_with_names asked all)
    → MatchOption o (HasNone (IsAsked asked units)) (λ t. IsEarliest (IsAsked asked units) (trouble_of t))
asked_or_none units OneType all o e h = clash_or_none units o (h ∙ ap (λ them. earliest_of (troubles_with_names OneType them)) e)
asked_or_none units OneDefinition all o e h = twice_or_none units o (h ∙ ap (λ them. earliest_of (troubles_with_names OneDefinition them)) e)
