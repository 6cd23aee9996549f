-- Where the fields of parts end, in numbers that stop at a greatest one, and how large parts are.
use Rattle.std.proofs.Common.{◌≡◌, ℕ, zero, suc, ◌+◌, ◌<◌, ◌≤◌, List, [], ◌∷◌, ◌++◌, length, drop, slice_index_or}
use Rattle.std.proofs.Common.{append_assoc, arith, refl, ◌∙◌, sym, ap, subst}
use Rattle.std.specs.Prelude.{All, min, max, flat_map, fold, map}
use Rattle.std.specs.Int.{next_multiple_of}
use Rattle.std.proofs.lemmas.List.{drop_more, map-append}
use Rattle.std.proofs.lemmas.List.Elements.{All-head, All-rest, All-same}
use Rattle.std.proofs.lemmas.List.Sums.{fold-append}
use Rattle.c_types.specs.declared.layout.Layout.{Layout}
use Rattle.c_types.specs.Layouts.{alignment_in, begin_after, end_after, greatest_alignment, layouts, offsets_after}
use Rattle.c_types.specs.Types.{CType, Record}
use Rattle.c_typed.specs.TypeNumbers.{type_at}
use Rattle.layout_plan.specs.declared.parts.Placed.{Placed}
use Rattle.layout_plan.specs.declared.plans.Decision.{Decision}
use Rattle.layout_plan.specs.declared.plans.Decision.TheVariants.{Refused, Reordered, Split, Peeled}
use Rattle.layout_plan.specs.Parts.{link, part_layout, part_sizes, placed_at, placed_in_part, placed_in_parts, with_offsets}
use Rattle.layout_plan.specs.PartSizes.{front_of}

-- a greatest number in between changes nothing
capped_multiple : (n unit most : ℕ) → min (next_multiple_of (min n most) unit) most ≡ min (next_multiple_of n unit) most
capped_multiple n unit most = grind arith

pub end_from : (known : List Layout) (n : ℕ) (types : List CType) → n ≤ fold (end_after known) n types
end_from known n [] = omega arith
end_from known n (t ∷ more) = omega (arith, end_from known (end_after known n t) more)

pub greatest_positive : (known : List Layout) (types : List CType) → 0 < greatest_alignment known types
greatest_positive known [] = omega arith
greatest_positive known (t ∷ more) = omega (arith, greatest_positive known more)

pub greatest-append : (known : List Layout) (types more : List CType)
    → greatest_alignment known (types ++ more) ≡ max (greatest_alignment known types) (greatest_alignment known more)
greatest-append known [] more = omega (arith, greatest_positive known more)
greatest-append known (t ∷ types) more = omega (arith, greatest-append known types more)

capped_end : (known : List Layout) (n most : ℕ) (t : CType) → min (end_after known (min n most) t) most ≡ min (end_after known n t) most
capped_end known n most t = omega (arith, capped_multiple n (alignment_in known t) most)

capped_ends : (known : List Layout) (n most : ℕ) (types : List CType)
    → min (fold (end_after known) (min n most) types) most ≡ min (fold (end_after known) n types) most
capped_ends known n most [] = omega arith
capped_ends known n most (t ∷ more) =
    sym (capped_ends known (end_after known (min n most) t) most more)
    ∙ ap (λ k. min (fold (end_after known) k more) most) (capped_end known n most t)
    ∙ capped_ends known (end_after known n t) most more

-- ---- from one field on, one field more

module _ (known : List Layout) (type_in : ℕ → CType) (fields : List ℕ) (i d : ℕ) (h : i < length fields) where
  abbrev here : ℕ
  here = slice_index_or fields i d

  abbrev after : List ℕ
  after = drop (i + 1) fields

  pub end_more : (n m most total : ℕ) → m ≡ min (end_after known n (type_in here)) most
      → min (fold (end_after known) n (map type_in (drop i fields))) most ≡ total → min (fold (end_after known) m (map type_in after)) most ≡ total
  end_more n m most total e far =
      ap (λ k. min (fold (end_after known) k (map type_in after)) most) e
      ∙ capped_ends known (end_after known n (type_in here)) most (map type_in after)
      ∙ sym (ap (λ all. min (fold (end_after known) n (map type_in all)) most) (drop_more fields i d h))
      ∙ far

  pub alignment_more : (a b total : ℕ) → b ≡ max a (alignment_in known (type_in here))
      → max a (greatest_alignment known (map type_in (drop i fields))) ≡ total → max b (greatest_alignment known (map type_in after)) ≡ total
  alignment_more a b total e far =
      let one : max a (greatest_alignment known (map type_in (drop i fields)))
      ≡ max a (max (alignment_in known (type_in here)) (greatest_alignment known (map type_in after))) =
      ap (λ all. max a (greatest_alignment known (map type_in all))) (drop_more fields i d h) in
      omega (arith, one, e, far)

  pub rest_within : (n limit : ℕ) → fold (end_after known) n (map type_in (drop i fields)) ≤ limit
      → fold (end_after known) (end_after known n (type_in here)) (map type_in after) ≤ limit
  rest_within n limit far = subst (λ all. fold (end_after known) n (map type_in all) ≤ limit) (drop_more fields i d h) far

  pub this_within : (n limit : ℕ) → fold (end_after known) n (map type_in (drop i fields)) ≤ limit → end_after known n (type_in here) ≤ limit
  this_within n limit far = omega (arith, rest_within n limit far, end_from known (end_after known n (type_in here)) (map type_in after))

  pub placed_more : (records : List Record) (types : List CType) (part n begin end : ℕ) (done new all : List Placed)
      → begin ≡ begin_after known n (type_in here) → end ≡ end_after known n (type_in here) → new ≡ done ++ placed_at here part begin ∷ []
      → done ++ with_offsets records types part (drop i fields) (offsets_after known n (map type_in (drop i fields))) ≡ all
      → new ++ with_offsets records types part after (offsets_after known end (map type_in after)) ≡ all
  placed_more records types part n begin end done new all b e added far =
      let rest : ℕ → List Placed = λ k. with_offsets records types part after (offsets_after known k (map type_in after)) in
      ap (λ some. some ++ rest end) added
      ∙ append_assoc done (placed_at here part begin ∷ []) (rest end)
      ∙ ap (λ k. done ++ placed_at here part k ∷ rest end) b
      ∙ ap (λ k. done ++ placed_at here part (begin_after known n (type_in here)) ∷ rest k) e
      ∙ sym (ap (λ some. done ++ with_offsets records types part some (offsets_after known n (map type_in some))) (drop_more fields i d h))
      ∙ far

-- ---- parts from one of them on, one part more

pub part_here : (parts shown : List (List ℕ)) (i : ℕ) (item fields : List ℕ) → shown ≡ parts → i < length shown → item ≡ slice_index_or shown i item
    → fields ≡ item → drop i parts ≡ fields ∷ drop (i + 1) parts
part_here parts shown i item fields same h is e =
    let at : drop i shown ≡ fields ∷ drop (i + 1) shown = drop_more shown i item h ∙ ap (λ x. x ∷ drop (i + 1) shown) (sym is ∙ sym e) in
    subst (λ (all : List (List ℕ)). drop i all ≡ fields ∷ drop (i + 1) all) same at

module _ (known : List Layout) (type_in : ℕ → CType) (here more : List (List ℕ)) (fields : List ℕ) (is : here ≡ fields ∷ more) where
  abbrev all_more : List ℕ
  all_more = flat_map (λ them. them) more

  joined : map type_in (flat_map (λ them. them) here) ≡ map type_in fields ++ map type_in all_more
  joined = ap (λ all. map type_in (flat_map (λ them. them) all)) is ∙ map-append type_in fields all_more

  pub end_parts : (n m most total : ℕ) → m ≡ min (fold (end_after known) n (map type_in fields)) most
      → min (fold (end_after known) n (map type_in (flat_map (λ them. them) here))) most ≡ total
      → min (fold (end_after known) m (map type_in all_more)) most ≡ total
  end_parts n m most total e far =
      ap (λ k. min (fold (end_after known) k (map type_in all_more)) most) e
      ∙ capped_ends known (fold (end_after known) n (map type_in fields)) most (map type_in all_more)
      ∙ sym (ap (λ k. min k most) (fold-append (end_after known) n (map type_in fields) (map type_in all_more)))
      ∙ sym (ap (λ all. min (fold (end_after known) n all) most) joined)
      ∙ far

  pub alignment_parts : (a b total : ℕ) → b ≡ max a (greatest_alignment known (map type_in fields))
      → max a (greatest_alignment known (map type_in (flat_map (λ them. them) here))) ≡ total → max b (greatest_alignment known (map type_in all_more)) ≡ total
  alignment_parts a b total e far =
      let one = ap (greatest_alignment known) joined in
      omega (arith, one, greatest-append known (map type_in fields) (map type_in all_more), e, far)

-- ---- parts behind their front

module _ (records : List Record) (types : List CType) where
  abbrev known_of : List Layout
  known_of = layouts records

  pub part_size_is : (decision : Decision) (part : ℕ) (fields : List ℕ) → (part_layout records types (link decision part) fields).size
      ≡ next_multiple_of (fold (end_after known_of) (front_of (link decision part)).end (map (type_at types) fields))
      (max (front_of (link decision part)).alignment (greatest_alignment known_of (map (type_at types) fields)))
  part_size_is Split zero fields = refl
  part_size_is Split (suc n) fields = ap (next_multiple_of _) (omega (arith, greatest_positive known_of (map (type_at types) fields)))
  part_size_is (Refused v) part fields = ap (next_multiple_of _) (omega (arith, greatest_positive known_of (map (type_at types) fields)))
  part_size_is Reordered part fields = ap (next_multiple_of _) (omega (arith, greatest_positive known_of (map (type_at types) fields)))
  part_size_is Peeled part fields = ap (next_multiple_of _) (omega (arith, greatest_positive known_of (map (type_at types) fields)))

  pub ends_within : (decision : Decision) (part : ℕ) (fields : List ℕ) (limit : ℕ) → (part_layout records types (link decision part) fields).size ≤ limit
      → fold (end_after known_of) (front_of (link decision part)).end (map (type_at types) fields) ≤ limit
  ends_within decision part fields limit small = omega (arith, part_size_is decision part fields, small)

  pub placed_part_is : (decision : Decision) (part : ℕ) (fields : List ℕ) → placed_in_part records types (link decision part) part fields
      ≡ with_offsets records types part fields (offsets_after known_of (front_of (link decision part)).end (map (type_at types) fields))
  placed_part_is Split zero fields = refl
  placed_part_is Split (suc n) fields = refl
  placed_part_is (Refused v) part fields = refl
  placed_part_is Reordered part fields = refl
  placed_part_is Peeled part fields = refl

  module _ (decision : Decision) (part : ℕ) (here more : List (List ℕ)) (fields : List ℕ) (is : here ≡ fields ∷ more) where
    abbrev size_here : ℕ
    size_here = (part_layout records types (link decision part) fields).size

    sizes_are : part_sizes records types decision part here ≡ size_here ∷ part_sizes records types decision (part + 1) more
    sizes_are = ap (part_sizes records types decision part) is

    pub small_here : (limit : ℕ) → All (λ size. size ≤ limit) (part_sizes records types decision part here) → size_here ≤ limit
    small_here limit all =
        All-head (λ size. size ≤ limit) size_here (part_sizes records types decision (part + 1) more)
        (All-same (λ size. size ≤ limit) _ (part_sizes records types decision part here) (sym sizes_are) all)

    pub small_more : (limit : ℕ) → All (λ size. size ≤ limit) (part_sizes records types decision part here)
        → All (λ size. size ≤ limit) (part_sizes records types decision (part + 1) more)
    small_more limit =
        All-rest (λ size. size ≤ limit) size_here (part_sizes records types decision (part + 1) more) (part_sizes records types decision part here) sizes_are

    pub size_more : (size : ℕ) (done new all : List ℕ) → size ≡ size_here → new ≡ done ++ size ∷ []
        → done ++ part_sizes records types decision part here ≡ all → new ++ part_sizes records types decision (part + 1) more ≡ all
    size_more size done new all e added far =
        ap (λ some. some ++ part_sizes records types decision (part + 1) more) added
        ∙ append_assoc done (size ∷ []) (part_sizes records types decision (part + 1) more)
        ∙ ap (λ k. done ++ k ∷ part_sizes records types decision (part + 1) more) e
        ∙ sym (ap (λ some. done ++ some) sizes_are)
        ∙ far

    pub part_more : (before : ℕ) (done new all : List Placed) → before ≡ (front_of (link decision part)).end
        → new ≡ done ++ with_offsets records types part fields (offsets_after known_of before (map (type_at types) fields))
        → done ++ placed_in_parts records types decision part here ≡ all → new ++ placed_in_parts records types decision (part + 1) more ≡ all
    part_more before done new all e added far =
        let places : ℕ → List Placed = λ k. with_offsets records types part fields (offsets_after known_of k (map (type_at types) fields)) in
        let rest = placed_in_parts records types decision (part + 1) more in
        let same : placed_in_part records types (link decision part) part fields ≡ places before = placed_part_is decision part fields ∙ sym (ap places e) in
        ap (λ some. some ++ rest) added
        ∙ append_assoc done (places before) rest
        ∙ sym (ap (λ some. done ++ (some ++ rest)) same)
        ∙ sym (ap (λ some. done ++ placed_in_parts records types decision part some) is)
        ∙ far
