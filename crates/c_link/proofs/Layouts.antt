-- Types lie alike over two lists of records, where the records of one are among those of the other under other numbers.
use Rattle.std.proofs.Common.{◌≡◌, ◌*◌, true, false, ℕ, zero, suc, ◌+◌, ◌<◌, ◌≤◌, List, [], ◌∷◌, ◌++◌, drop, length, take, map, fold, IsTrue, refl, sym, ap}
use Rattle.std.proofs.Common.{◌∙◌, subst, arith}
use Rattle.std.specs.Prelude.{All, Option, Some, max, nat_lt, slice_get, unwrap_or}
use Rattle.std.specs.Int.{next_multiple_of}
use Rattle.std.proofs.lemmas.Bool.{and_from, and_parts, lt-ltb, ltb-true}
use Rattle.std.proofs.lemmas.List.Elements.{All-head, All-tail}
use Rattle.c_numbers.specs.TypeNumbers.Renumbered.{renumbered}
use Rattle.c_types.specs.declared.layout.Layout.{Layout}
use Rattle.c_types.specs.Layouts.{alignment_in, begin_after, end_after, greatest_alignment, layout, layout_at, layouts, size_in}
use Rattle.c_types.specs.Limits.{AreComplete}
use Rattle.c_types.specs.Objects.{is_object}
use Rattle.c_types.specs.Types.{CType, Record, field_types, void, integer, pointer, array, function, structure}
use Rattle.c_types.proofs.Before.{layout_of}
use Rattle.c_types.proofs.Growing.{layouts_stay}

false_is_true : false ≡ true → ⊥
false_is_true h = cc

-- ---- types that lie alike make layouts that are alike

pub record AreAlike (known other : List Layout) (t u : CType) : Type 0 where
  pub sizes : size_in other u ≡ size_in known t
  pub alignments : alignment_in other u ≡ alignment_in known t

abbrev AllAlike : List Layout → List Layout → (CType → CType) → List CType → Type 0
AllAlike known other g [] = Unit {0}
AllAlike known other g (t ∷ more) = AreAlike known other t (g t) × AllAlike known other g more

ends_alike : (known other : List Layout) (g : CType → CType) (before : ℕ) (types : List CType) → AllAlike known other g types
    → fold (end_after other) before (map g types) ≡ fold (end_after known) before types
ends_alike known other g before [] h = refl
ends_alike known other g before (t ∷ more) h =
    let e : end_after other before (g t) ≡ end_after known before t =
    ap (λ a. next_multiple_of before a + size_in other (g t)) h.0.alignments ∙ ap (λ s. begin_after known before t + s) h.0.sizes in
    ap (λ n. fold (end_after other) n (map g more)) e ∙ ends_alike known other g (end_after known before t) more h.1

alignments_alike : (known other : List Layout) (g : CType → CType) (types : List CType) → AllAlike known other g types
    → greatest_alignment other (map g types) ≡ greatest_alignment known types
alignments_alike known other g [] h = refl
alignments_alike known other g (t ∷ more) h =
    ap (λ a. max a (greatest_alignment other (map g more))) h.0.alignments ∙ ap (max (alignment_in known t)) (alignments_alike known other g more h.1)

abbrev LieAlike : Layout → Layout → Type 0
LieAlike a b = (b.size ≡ a.size) × (b.alignment ≡ a.alignment)

layouts_alike : (known other : List Layout) (g : CType → CType) (types : List CType) → AllAlike known other g types
    → LieAlike (layout known types) (layout other (map g types))
layouts_alike known other g types h =
    let a = alignments_alike known other g types h in (
      ap (λ n. next_multiple_of n (greatest_alignment other (map g types))) (ends_alike known other g 0 types h)
          ∙ ap (next_multiple_of (fold (end_after known) 0 types)) a,
      a,
    )

-- ---- a record lies as its fields do over the whole list

is_alike : (known other : List Layout) (types : List CType) → ((t : CType) → AreAlike known other t t) → AllAlike known other (λ t. t) types
is_alike known other [] h = tt
is_alike known other (t ∷ more) h = (h t, is_alike known other more h)

same_types : (types : List CType) → map (λ t. t) types ≡ types
same_types [] = refl
same_types (t ∷ more) = ap (λ rest. t ∷ rest) (same_types more)

stay_alike : (records more : List Record) (types : List CType) → All (λ t. IsTrue (is_object (length records) t)) types
    → AllAlike (layouts records) (layouts (records ++ more)) (λ t. t) types
stay_alike records more [] h = tt
stay_alike records more (t ∷ types) h =
    let stay = layouts_stay records more in
    let P : CType → Type 0 = λ t. IsTrue (is_object (length records) t) in
    let k = All-head P t types h in
    (record { sizes = stay.sizes t k; alignments = stay.alignments t k }, stay_alike records more types (All-tail P t types h))

parted : {X : Type 0} (n : ℕ) (xs : List X) → take n xs ++ drop n xs ≡ xs
parted zero xs = refl
parted (suc n) [] = refl
parted (suc n) (x ∷ more) = ap (λ rest. x ∷ rest) (parted n more)

taken : {X : Type 0} (n : ℕ) (xs : List X) (x : X) → slice_get xs n ≡ Some x → length (take n xs) ≡ n
taken n [] x h = cc
taken zero (y ∷ more) x h = refl
taken (suc n) (y ∷ more) x h = ap suc (taken n more x h)

abbrev no_layout : Layout
no_layout = record { offsets = []; size = 0; alignment = 1 }

abbrev or_none : Option Layout → Layout
or_none o = unwrap_or o no_layout

over_the_whole : (records : List Record) → AreComplete records → (n : ℕ) (r : Record) → slice_get records n ≡ Some r
    → LieAlike (layout_at (layouts records) n) (layout (layouts records) (field_types r))
over_the_whole records complete n r h =
    let before = take n records in
    let count : length before ≡ n = taken n records r h in
    let objects : All (λ t. IsTrue (is_object (length before) t)) (field_types r) =
    subst (λ k. All (λ t. IsTrue (is_object k t)) (field_types r)) (sym count) (complete n r h) in
    let a = layouts_alike (layouts before) (layouts (before ++ drop n records)) (λ t. t) (field_types r) (stay_alike before (drop n records) (field_types r) objects) in
    let e : layout_at (layouts records) n ≡ layout (layouts before) (field_types r) = ap or_none (layout_of records n r h) in
    let w : layout (layouts (before ++ drop n records)) (map (λ t. t) (field_types r)) ≡ layout (layouts records) (field_types r) =
    ap (λ rs. layout (layouts rs) (map (λ t. t) (field_types r))) (parted n records) ∙ ap (layout (layouts records)) (same_types (field_types r)) in (
      sym (ap (λ (l : Layout). l.size) w) ∙ a.0 ∙ sym (ap (λ (l : Layout). l.size) e),
      sym (ap (λ (l : Layout). l.alignment) w) ∙ a.1 ∙ sym (ap (λ (l : Layout). l.alignment) e),
    )

-- ---- records among others, under other numbers

abbrev pub StandAmong : (ℕ → ℕ) → List Record → List Record → Type 0
StandAmong f records others = (n : ℕ) (r : Record) → slice_get records n ≡ Some r
    → (q : Record) × (slice_get others (f n) ≡ Some q) × (field_types q ≡ map (renumbered f) (field_types r))

pub below : {X : Type 0} (xs : List X) (n : ℕ) → n < length xs → (x : X) × (slice_get xs n ≡ Some x)
below [] n h = absurd (omega (arith, h))
below (x ∷ more) zero h = (x, refl)
below (x ∷ more) (suc n) h = below more n (omega (arith, h))

is_below : {X : Type 0} (xs : List X) (n : ℕ) (x : X) → slice_get xs n ≡ Some x → n < length xs
is_below [] n x h = cc
is_below (y ∷ more) zero x h = omega arith
is_below (y ∷ more) (suc n) x h = let k = is_below more n x h in omega (arith, k)

pub record LiesAlike (records others : List Record) (t u : CType) : Type 0 where
  pub object : IsTrue (is_object (length others) u)
  pub alike : AreAlike (layouts records) (layouts others) t u

more_complete : (n m : ℕ) (t : CType) → n ≤ m → IsTrue (is_object n t) → IsTrue (is_object m t)
more_complete n m void h k = k
more_complete n m (integer kind) h k = k
more_complete n m (pointer t) h k = k
more_complete n m (array t l) h k =
    let p = and_parts (nat_lt 0 l) (is_object n t) k in
    and_from (nat_lt 0 l) (is_object m t) p.0 (more_complete n m t h p.1)
more_complete n m (function t all) h k = k
more_complete n m (structure number) h k = let b = ltb-true number n k in lt-ltb number m (omega (arith, b, h))

module _ (f : ℕ → ℕ) (records others : List Record) (complete : AreComplete records) (whole : AreComplete others) (among : StandAmong f records others) where
  -- where so many records are complete
  abbrev Below : ℕ → Type 0
  Below n = (t : CType) → IsTrue (is_object n t) → LiesAlike records others t (renumbered f t)

  all_below : (m number : ℕ) → Below m → (types : List CType) → number ≤ m → All (λ t. IsTrue (is_object number t)) types
      → AllAlike (layouts records) (layouts others) (renumbered f) types
  all_below m number below_m [] k all = tt
  all_below m number below_m (t ∷ more) k all =
      let P : CType → Type 0 = λ t. IsTrue (is_object number t) in
      ((below_m t (more_complete number m t k (All-head P t more all))).alike, all_below m number below_m more k (All-tail P t more all))

  -- a record, where those before it lie alike
  record_alike : (m number : ℕ) → m < length records → number ≤ m → Below m → LiesAlike records others (structure number) (structure (f number))
  record_alike m number room k below_m =
      let b = below records number (omega (arith, k, room)) in
      let r = b.0 in
      let q = among number r b.1 in
      let types = all_below m number below_m (field_types r) k (complete number r b.1) in
      let a = layouts_alike (layouts records) (layouts others) (renumbered f) (field_types r) types in
      let w = over_the_whole records complete number r b.1 in
      let v = over_the_whole others whole (f number) q.0 q.1 in
      let e : layout (layouts others) (field_types q.0) ≡ layout (layouts others) (map (renumbered f) (field_types r)) = ap (layout (layouts others)) q.2 in
      record {
        object = lt-ltb (f number) (length others) (is_below others (f number) q.0 q.1);
        alike = record {
          sizes = sym v.0 ∙ ap (λ (l : Layout). l.size) e ∙ a.0 ∙ w.0;
          alignments = sym v.1 ∙ ap (λ (l : Layout). l.alignment) e ∙ a.1 ∙ w.1;
        };
      }

  -- types, by what is known of the records in them
  types_alike : (n : ℕ) → ((number : ℕ) → number < n → LiesAlike records others (structure number) (structure (f number))) → Below n
  types_alike n known void h = absurd (false_is_true h)
  types_alike n known (integer kind) h = record { object = refl; alike = record { sizes = refl; alignments = refl } }
  types_alike n known (pointer t) h = record { object = refl; alike = record { sizes = refl; alignments = refl } }
  types_alike n known (array t k) h =
      let p = and_parts (nat_lt 0 k) (is_object n t) h in
      let it = types_alike n known t p.1 in
      record {
        object = and_from (nat_lt 0 k) (is_object (length others) (renumbered f t)) p.0 it.object;
        alike = record { sizes = ap (λ s. s * k) it.alike.sizes; alignments = it.alike.alignments };
      }
  types_alike n known (function t all) h = absurd (false_is_true h)
  types_alike n known (structure number) h = known number (ltb-true number n h)

  alike_below : (n : ℕ) → n ≤ length records → Below n
  alike_below zero room = types_alike 0 (λ number h. absurd (omega (arith, h)))
  alike_below (suc m) room =
      types_alike (suc m) (λ number h. record_alike m number (omega (arith, room)) (omega (arith, h)) (alike_below m (omega (arith, room))))

  pub lies_alike : (t : CType) → IsTrue (is_object (length records) t) → LiesAlike records others t (renumbered f t)
  lies_alike t h = alike_below (length records) (omega arith) t h
