-- No part of an outline is larger than a record may be.
use Rattle.std.proofs.Common.{◌≡◌, ◌⊎◌, ⊎_elim, inl, inr, ℕ, zero, suc, ◌+◌, ◌-◌, ◌<◌, ◌≤◌, List, [], ◌∷◌, ◌++◌, length, take, drop}
use Rattle.std.proofs.Common.{Bool, true, false, cond, add-one, append_assoc, arith, length-append, refl, ◌∙◌, sym, ap, subst}
use Rattle.std.specs.Prelude.{All, IsSomeAnd, IsTrue, Option, Some, None, ◌==◌, ◌||◌, if◌then◌else◌, not, nat_lt, max}
use Rattle.std.specs.Prelude.{filter, flat_map, fold, map, option_map, slice_get}
use Rattle.std.specs.Int.{next_multiple_of}
use Rattle.std.specs.List.{list_any}
use Rattle.std.proofs.lemmas.Bool.{lt-ltb, ltb-false, or_parts}
use Rattle.std.proofs.lemmas.Bool.Decides.{nat_tests}
use Rattle.std.proofs.lemmas.List.{drop_more, length-map, length-take-le, map-append, take-append-drop, take_all, take_more}
use Rattle.std.proofs.lemmas.List.Elements.{All-cons, All-nil}
use Rattle.std.proofs.lemmas.Option.{get_or_from_slice_get, slice_get-map, slice_get_within, unwrap_or-slice_get}
use Rattle.c_types.specs.declared.layout.Layout.{Layout}
use Rattle.c_types.specs.declared.record.Field.{Field}
use Rattle.c_types.specs.declared.record.Record as R
use Rattle.c_types.specs.Laws.{HasItsSize, LayoutsStay, SizesAreMultiples}
use Rattle.c_types.specs.Layouts.{align_of, alignment_in, end_after, greatest_alignment, layout, layouts, size_in, size_of}
use Rattle.c_types.specs.Limits.{AreComplete, AreSmall, greatest_size}
use Rattle.c_types.specs.Objects.{is_object}
use Rattle.c_types.specs.Types.{CType, Record, field_types, structure, void}
use Rattle.c_types.specs.Views.{record_of, records_of, types_of_fields}
use Rattle.c_typed.specs.RunCounts.Counting.{numbers_below}
use Rattle.c_typed.specs.TypeNumbers.{type_at}
use Rattle.affinity.specs.declared.fields.FieldWeights.{FieldWeights}
use Rattle.affinity.specs.declared.weights.Weights.{Weights}
use Rattle.affinity.specs.FieldWeights.{field_weights, is_read_in}
use Rattle.legality.specs.declared.violation.Violation.{Violation}
use Rattle.layout_plan.specs.declared.outline.Outline.{Outline}
use Rattle.layout_plan.specs.declared.plans.Decision.TheVariants.{Reordered, Split}
use Rattle.layout_plan.specs.Order.{groups, is_with, joined, placed}
use Rattle.layout_plan.specs.Outlines.{cold, in_order, is_worth, live, or_first, outline, peeled, planned, split, unless_too_big}
use Rattle.layout_plan.specs.Parts.{is_too_big, part_layout, part_sizes}
use Rattle.layout_plan.specs.PartSizes.{AreFieldsOf, IsSmall, OutlinesAreSmall}
use Rattle.layout_plan.specs.Peeling.{is_among, is_peelable}
use Rattle.layout_plan.specs.Plans.{outline_of}
use Rattle.layout_plan.proofs.Ends.{end_from, greatest_positive}

-- ---- alignments

abbrev pub IsOne : ℕ → Type 0
IsOne a = (a ≡ 1) ⊎ (a ≡ 2) ⊎ (a ≡ 4)

at_one : (P : ℕ → Type 0) (a : ℕ) → IsOne a → P 1 → P 2 → P 4 → P a
at_one P a is p q r = ⊎_elim (λ e. subst P (sym e) p) (λ more. ⊎_elim (λ e. subst P (sym e) q) (λ e. subst P (sym e) r) more) is

pub one_positive : (a : ℕ) → IsOne a → 0 < a
one_positive a is = at_one (λ a. 0 < a) a is (omega arith) (omega arith) (omega arith)

max_one : (a b : ℕ) → IsOne a → IsOne b → IsOne (max a b)
max_one a b x y =
    at_one (λ a. IsOne (max a b)) a x (at_one (λ b. IsOne (max 1 b)) b y (inl refl) (inr (inl refl)) (inr (inr refl)))
    (at_one (λ b. IsOne (max 2 b)) b y (inr (inl refl)) (inr (inl refl)) (inr (inr refl)))
    (at_one (λ b. IsOne (max 4 b)) b y (inr (inr refl)) (inr (inr refl)) (inr (inr refl)))

begin_less : (n m a : ℕ) → IsOne a → n ≤ m → next_multiple_of n a ≤ next_multiple_of m a
begin_less n m a is le =
    at_one (λ a. next_multiple_of n a ≤ next_multiple_of m a) a is (omega (arith, le)) (omega (arith, le)) (omega (arith, le))

round_less : (n a b : ℕ) → IsOne a → IsOne b → a ≤ b → next_multiple_of n a ≤ next_multiple_of n b
round_less n a b x y =
    at_one (λ a. a ≤ b → next_multiple_of n a ≤ next_multiple_of n b) a x
    (at_one (λ b. 1 ≤ b → next_multiple_of n 1 ≤ next_multiple_of n b) b y (λ h. omega arith) (λ h. omega arith) (λ h. omega arith))
    (at_one (λ b. 2 ≤ b → next_multiple_of n 2 ≤ next_multiple_of n b) b y (λ h. absurd (omega (arith, h))) (λ h. omega arith) (λ h. omega arith))
    (at_one (λ b. 4 ≤ b → next_multiple_of n 4 ≤ next_multiple_of n b) b y (λ h. absurd (omega (arith, h))) (λ h. absurd (omega (arith, h))) (λ h. omega arith))

-- ---- fewer fields end no later

module _ (known : List Layout) (ones : (t : CType) → IsOne (alignment_in known t)) where
  greatest_one : (types : List CType) → IsOne (greatest_alignment known types)
  greatest_one [] = inl refl
  greatest_one (t ∷ more) = max_one (alignment_in known t) (greatest_alignment known more) (ones t) (greatest_one more)

  -- a part with fewer fields is no larger
  abbrev IsLess : (some all : List CType) → Type 0
  IsLess some all = (fold (end_after known) 0 some ≤ fold (end_after known) 0 all) × (greatest_alignment known some ≤ greatest_alignment known all)

  size_less : (some all : List CType) → IsLess some all → (layout known some).size ≤ (layout known all).size
  size_less some all less =
      let a = greatest_alignment known some in
      let b = greatest_alignment known all in
      let n = fold (end_after known) 0 some in
      let m = fold (end_after known) 0 all in
      omega (arith, begin_less n m a (greatest_one some) less.0, round_less m a b (greatest_one some) (greatest_one all) less.1)

  end_less : (n m : ℕ) (t : CType) → n ≤ m → end_after known n t ≤ end_after known m t
  end_less n m t le = omega (arith, begin_less n m (alignment_in known t) (ones t) le)

  module _ (type_in : ℕ → CType) where
    first_less : (fields : List ℕ) → IsLess (map type_in (take 1 fields)) (map type_in fields)
    first_less [] = (omega arith, omega arith)
    first_less (f ∷ more) =
        (end_from known (end_after known 0 (type_in f)) (map type_in more), omega (arith, greatest_positive known (map type_in more)))

    module _ (keeps : ℕ → Bool) where
      ends_less : (fields : List ℕ) (n m : ℕ) → n ≤ m
          → fold (end_after known) n (map type_in (filter keeps fields)) ≤ fold (end_after known) m (map type_in fields)
      ends_less [] n m le = le
      ends_less (f ∷ more) n m le =
          by (keeps f) (ends_less more (end_after known n (type_in f)) (end_after known m (type_in f)) (end_less n m (type_in f) le))
          (ends_less more n (end_after known m (type_in f)) (omega (arith, le, end_from known m (type_in f ∷ []))))
        where
          IsNoLater : (start : ℕ) → List ℕ → Type 0
          IsNoLater start fields =
              fold (end_after known) start (map type_in fields) ≤ fold (end_after known) (end_after known m (type_in f)) (map type_in more)

          by : (b : Bool) → IsNoLater (end_after known n (type_in f)) (filter keeps more) → IsNoLater n (filter keeps more)
              → fold (end_after known) n (map type_in (cond b (f ∷ filter keeps more) (filter keeps more)))
              ≤ fold (end_after known) (end_after known m (type_in f)) (map type_in more)
          by true kept less = kept
          by false kept less = less

      greatest_less : (fields : List ℕ) → greatest_alignment known (map type_in (filter keeps fields)) ≤ greatest_alignment known (map type_in fields)
      greatest_less [] = omega arith
      greatest_less (f ∷ more) = by (keeps f) (greatest_less more)
        where
          by : (b : Bool) → greatest_alignment known (map type_in (filter keeps more)) ≤ greatest_alignment known (map type_in more)
              → greatest_alignment known (map type_in (cond b (f ∷ filter keeps more) (filter keeps more))) ≤ greatest_alignment known (map type_in (f ∷ more))
          by true h = omega (arith, h)
          by false h = omega (arith, h)

      filter_less : (fields : List ℕ) → IsLess (map type_in (filter keeps fields)) (map type_in fields)
      filter_less fields = (ends_less fields 0 0 (omega arith), greatest_less fields)

-- ---- all fields in declared order

numbered : (types : List CType) (n : ℕ) → n ≤ length types → map (type_at types) (numbers_below n) ≡ take n types
numbered types zero h = refl
numbered types (suc n) h =
    map-append (type_at types) (numbers_below n) (n ∷ [])
    ∙ ap (λ xs. xs ++ type_at types n ∷ []) (numbered types n (omega (arith, h)))
    ∙ ap (λ t. take n types ++ t ∷ []) (unwrap_or-slice_get types n void)
    ∙ sym (take_more types n void (omega (arith, h)))
    ∙ ap (λ k. take k types) (add-one n)

all_numbered : (types : List CType) → map (type_at types) (numbers_below (length types)) ≡ types
all_numbered types = numbered types (length types) (omega arith) ∙ take_all (length types) types (omega arith)

-- layouts that say the same of each type of a list
abbrev AreAlike : (known later : List Layout) → List CType → Type 0
AreAlike known later types =
    (k : ℕ) (t : CType) → slice_get types k ≡ Some t → (size_in later t ≡ size_in known t) × (alignment_in later t ≡ alignment_in known t)

same_ends : (known later : List Layout) (types : List CType) (n : ℕ) → AreAlike known later types
    → fold (end_after later) n types ≡ fold (end_after known) n types
same_ends known later [] n same = refl
same_ends known later (t ∷ more) n same =
    let here = same 0 t refl in
    ap (λ a. fold (end_after later) (next_multiple_of n a + size_in later t) more) here.1
    ∙ ap (λ s. fold (end_after later) (next_multiple_of n (alignment_in known t) + s) more) here.0
    ∙ same_ends known later more (end_after known n t) (λ k u e. same (suc k) u e)

same_greatest : (known later : List Layout) (types : List CType) → AreAlike known later types
    → greatest_alignment later types ≡ greatest_alignment known types
same_greatest known later [] same = refl
same_greatest known later (t ∷ more) same =
    let here = same 0 t refl in
    ap (λ a. max a (greatest_alignment later more)) here.1
    ∙ ap (max (alignment_in known t)) (same_greatest known later more (λ k u e. same (suc k) u e))

-- the fields of a record, one after the other, have the size of the record
module _ (stays : (records more : List Record) → LayoutsStay records more) (its_size : (records : List Record) (r : Record) → HasItsSize records r)
    (records : List Record) (number : ℕ) (r : Record) (is : slice_get records number ≡ Some r) where
  inside : number < length records
  inside = slice_get_within records number r is

  abbrev before : List Record
  before = take number records

  length-before : length before ≡ number
  length-before = length-take-le number records (omega (arith, inside))

  parted : records ≡ before ++ r ∷ drop (number + 1) records
  parted = sym (take-append-drop number records)
      ∙ ap (λ all. before ++ all) (drop_more records number r inside ∙ ap (λ x. x ∷ drop (number + 1) records) (get_or_from_slice_get records number r r is))

  record_size : size_of records (structure number) ≡ (layout (layouts before) (field_types r)).size
  record_size = ap (λ all. size_of all (structure number)) (parted ∙ sym (append_assoc before (r ∷ []) (drop (number + 1) records)))
      ∙ (stays (before ++ r ∷ []) (drop (number + 1) records)).sizes (structure number)
      (lt-ltb number (length (before ++ r ∷ [])) (omega (arith, length-before, length-append before (r ∷ []))))
      ∙ ap (λ n. size_of (before ++ r ∷ []) (structure n)) (sym length-before)
      ∙ its_size before r

  whole_size : AreComplete records → (layout (layouts records) (field_types r)).size ≡ size_of records (structure number)
  whole_size complete =
      let known = layouts before in
      let later = layouts records in
      ap (λ end. next_multiple_of end (greatest_alignment later (field_types r))) (same_ends known later (field_types r) 0 same)
      ∙ ap (next_multiple_of (fold (end_after known) 0 (field_types r))) (same_greatest known later (field_types r) same)
      ∙ sym record_size
    where
      same : AreAlike (layouts before) (layouts records) (field_types r)
      same k t e =
          let at : IsTrue (is_object number t) =
          rw (sym (get_or_from_slice_get (field_types r) k t t e)) (complete number r is k t (slice_get_within (field_types r) k t e)) in
          let object : IsTrue (is_object (length before) t) = rw length-before at in
          let all = sym (take-append-drop number records) in (
            ap (λ them. size_of them t) all ∙ (stays before (drop number records)).sizes t object,
            ap (λ them. align_of them t) all ∙ (stays before (drop number records)).alignments t object,
          )

-- ---- outlines

or_first_is : (P : List ℕ → Type 0) (declared stay : List ℕ) → P (take 1 declared) → P stay → P (or_first declared stay)
or_first_is P declared [] first all = first
or_first_is P declared (f ∷ more) first all = all

none_greater : (limit : ℕ) (sizes : List ℕ) → list_any (nat_lt limit) sizes ≡ false → All (λ size. size ≤ limit) sizes
none_greater limit [] none = All-nil (λ size. size ≤ limit)
none_greater limit (size ∷ more) none =
    let parts = or_parts (nat_lt limit size) (list_any (nat_lt limit) more) none in
    All-cons (λ size. size ≤ limit) size more (ltb-false limit size parts.0) (none_greater limit more parts.1)

module _ (records : List Record) (types : List CType) where
  abbrev IsSmallPart : List ℕ → Type 0
  IsSmallPart fields = (part_layout records types [] fields).size ≤ greatest_size

  one_small : (fields : List ℕ) → IsSmallPart fields → All (λ size. size ≤ greatest_size) ((part_layout records types [] fields).size ∷ [])
  one_small fields h = All-cons (λ size. size ≤ greatest_size) (part_layout records types [] fields).size [] h (All-nil (λ size. size ≤ greatest_size))

  unless_small : (w : FieldWeights) (by_profile : Bool) (fields : List ℕ) (o : Outline) → IsSmallPart fields → length o.parts ≤ 8
      → IsSmall records types (unless_too_big records types w by_profile fields o)
  unless_small w by_profile fields o h le = by (is_too_big records types o.decision o.parts) refl
    where
      by : (b : Bool) → is_too_big records types o.decision o.parts ≡ b → IsSmall records types (if b then outline Reordered (fields ∷ []) else o)
      by true e = record { few = omega arith; sizes = one_small fields h }
      by false e = record {
        few = omega (arith, le);
        sizes = none_greater greatest_size (part_sizes records types o.decision 0 o.parts)
            (or_parts (nat_lt greatest_size (part_layout records types [] (flat_map (λ them. them) o.parts)).size)
            (list_any (nat_lt greatest_size) (part_sizes records types o.decision 0 o.parts)) e).1;
      }

-- ---- how many parts there are

module _ (w : FieldWeights) where
  count_joined : (room : ℕ) (all : List (List ℕ)) (f : ℕ) → 0 < room → length all ≤ room → length (joined w room all f) ≤ room
  count_joined room [] f h le = omega (arith, h)
  count_joined room (group ∷ more) f h le =
      by (room == 1 || is_with w group f) refl (λ less. count_joined (room - 1) more f (omega (arith, less)) (omega (arith, le)))
    where
      by : (b : Bool) → (room == 1 || is_with w group f) ≡ b → (1 < room → length (joined w (room - 1) more f) ≤ room - 1)
          → length (if b then (group ++ f ∷ []) ∷ more else group ∷ joined w (room - 1) more f) ≤ room
      by true e next = le
      by false e next =
          let more_room : 1 < room = grind (arith, nat_tests, h, (or_parts (room == 1) (is_with w group f) e).0) in
          omega (arith, next more_room, more_room)

  count_groups : (fields : List ℕ) (all : List (List ℕ)) → length all ≤ 8 → length (fold (joined w 8) all fields) ≤ 8
  count_groups [] all le = le
  count_groups (f ∷ more) all le = count_groups more (joined w 8 all f) (count_joined 8 all f (omega arith) le)

  module _ (records : List Record) (types : List CType) (by_profile : Bool) where
    count_peeled : (all : List (List ℕ)) → length all ≤ 8 → length (peeled records types w by_profile all).parts ≤ 8
    count_peeled [] le = le
    count_peeled (group ∷ []) le = le
    count_peeled (one ∷ other ∷ more) le = omega (arith, le, length-map (one ∷ other ∷ more) (placed w))

    count_split : (fields apart : List ℕ) → length (split records types w by_profile fields apart).parts ≤ 8
    count_split fields apart = by (is_worth records types w by_profile apart)
      where
        by : (b : Bool) → length (if b then in_order records types w by_profile Split (filter (λ f. not (is_among apart f)) fields ∷ apart ∷ [])
            else in_order records types w by_profile Reordered (fields ∷ [])).parts ≤ 8
        by true = omega arith
        by false = omega arith

    count_planned : (is_peelable : Bool) (fields : List ℕ) → length (planned records types w by_profile is_peelable fields).parts ≤ 8
    count_planned true fields = count_peeled (groups w fields) (count_groups fields [] (omega arith))
    count_planned false fields = count_split fields (cold records types w by_profile fields)

-- ---- the outlines of a record of a list

module _ (stays : (records more : List Record) → LayoutsStay records more) (its_size : (records : List Record) (r : Record) → HasItsSize records r)
    (multiples : (records : List Record) → SizesAreMultiples records) (records : List Record) (complete : AreComplete records) (small : AreSmall records)
    (number : ℕ) (r : Record) (is : slice_get records number ≡ Some r) where
  abbrev types : List CType
  types = field_types r

  all_small : IsSmallPart records types (numbers_below (length types))
  all_small =
      let whole = whole_size stays its_size records number r is complete in
      let bounded = small number (slice_get_within records number r is) in
      rw (all_numbered types) (omega (arith, whole, bounded))

  less_small : (fields : List ℕ)
      → IsLess (layouts records) (multiples records).one_of (map (type_at types) fields) (map (type_at types) (numbers_below (length types)))
      → IsSmallPart records types fields
  less_small fields less =
      omega (
        arith,
        all_small,
        size_less (layouts records) (multiples records).one_of (map (type_at types) fields)
            (map (type_at types) (numbers_below (length types))) less,
      )

  live_small : (w : FieldWeights) → IsSmallPart records types (live w (length types))
  live_small w =
      let known = layouts records in
      let ones = (multiples records).one_of in
      let all = numbers_below (length types) in
      or_first_is (IsSmallPart records types) all (filter (is_read_in w) all) (less_small (take 1 all) (first_less known ones (type_at types) all))
      (less_small (filter (is_read_in w) all) (filter_less known ones (type_at types) (is_read_in w) all))

  record_outlines_small : OutlinesAreSmall records types
  record_outlines_small = record {
    refused = λ v. record { few = omega arith; sizes = one_small records types (numbers_below (length types)) all_small };
    others = λ w by_profile is_peelable. unless_small records types w by_profile (live w (length types))
        (planned records types w by_profile is_peelable (live w (length types))) (live_small w)
        (count_planned w records types by_profile is_peelable (live w (length types)));
  }

pub outlines_small : ((records more : List Record) → LayoutsStay records more) → ((records : List Record) (r : Record) → HasItsSize records r)
    → ((records : List Record) → SizesAreMultiples records) → (records : List R.Record) (own : List Field) → AreFieldsOf records own
    → AreComplete (records_of records) → AreSmall (records_of records) → OutlinesAreSmall (records_of records) (types_of_fields own)
outlines_small stays its_size multiples records own (number, are) complete small = by (slice_get records number) refl are
  where
    by : (o : Option R.Record) → slice_get records number ≡ o → IsSomeAnd o (λ r. r.fields ≡ own) → OutlinesAreSmall (records_of records) (types_of_fields own)
    by None e h = absurd h
    by (Some r) e h =
        let there : slice_get (records_of records) number ≡ Some (record_of r) = slice_get-map record_of records number ∙ ap (option_map record_of) e in
        rw (sym h) (record_outlines_small stays its_size multiples (records_of records) complete small number (record_of r) there)

-- for callers: so is what becomes of a record of a program
pub outline_small : (records : List Record) (w : Weights) (is_peelable : Bool) (v : Option Violation) (number : ℕ) (types : List CType) (o : Outline)
    → OutlinesAreSmall records types → o ≡ outline_of records w is_peelable v number types → IsSmall records types o
outline_small records w is_peelable (Some v) number types o small is = rw is (small.refused v)
outline_small records w is_peelable None number types o small is = rw is (small.others (field_weights w number (length types)) w.by_profile is_peelable)
