-- The records of a file among those of the program: complete types are as large, and fields begin at the same bytes (C99 6.7.2.1).
use Rattle.std.proofs.Common.{◌≡◌, ◌∙◌, ℕ, zero, suc, true, IsTrue, refl, sym, ap, subst, List, [], ◌∷◌, ◌++◌, length, map, take, drop, arith}
use Rattle.std.proofs.lemmas.List.Elements.{All-head, All-tail}
use Rattle.std.proofs.lemmas.Option.{slice_get_within}
use Rattle.std.specs.Prelude.{All, Option, Some, None, slice_get, slice_index, unwrap_or}
use Rattle.std.specs.Int.{next_multiple_of}
use Rattle.std.specs.Option.{option_map}
use Rattle.c_types.proofs.Before.{layout_of}
use Rattle.c_types.proofs.Growing.{layouts_stay}
use Rattle.c_types.specs.declared.layout.Layout.{Layout}
use Rattle.c_types.specs.Layouts.{layout_at, alignment_in, size_in, begin_after, end_after, offsets_after, layout, layouts, offset_of}
use Rattle.c_types.specs.Limits.{AreComplete}
use Rattle.c_types.specs.Objects.{is_object}
use Rattle.c_types.specs.Types.{CType, Field, Record, field_types}
use Rattle.c_numbers.specs.TypeNumbers.Renumbered.{renumbered}
use Rattle.c_typed.specs.Typed.{type_in, field_type}
use Rattle.c_checking_laws.proofs.CompletePart.{complete_stays}
use Rattle.c_checking_laws.proofs.WholeFiles.Layouts.{field_object}
use Rattle.c_link.proofs.Layouts.{StandAmong, lies_alike}
use Rattle.c_well_typed.proofs.PrintableFunctions.Initializers.{LieAlike}

-- ---- fields of types that lie alike begin at the same bytes

abbrev AreAlike : List Layout → List Layout → (CType → CType) → List CType → Type 0
AreAlike known other g [] = Unit {0}
AreAlike known other g (t ∷ more) =
    (size_in other (g t) ≡ size_in known t) × (alignment_in other (g t) ≡ alignment_in known t) × AreAlike known other g more

offsets_same : (known other : List Layout) (g : CType → CType) (before : ℕ) (types : List CType) → AreAlike known other g types
    → offsets_after other before (map g types) ≡ offsets_after known before types
offsets_same known other g before [] h = refl
offsets_same known other g before (t ∷ more) h =
    let begins : begin_after other before (g t) ≡ begin_after known before t = ap (next_multiple_of before) h.1 in
    let ends : end_after other before (g t) ≡ end_after known before t = rw (begins, h.0) refl in
    ap (λ n. n ∷ offsets_after other (end_after other before (g t)) (map g more)) begins
    ∙ ap (λ n. begin_after known before t ∷ offsets_after other n (map g more)) ends
    ∙ ap (λ l. begin_after known before t ∷ l) (offsets_same known other g (end_after known before t) more h.2)

-- ---- over the whole list

stay_alike : (records more : List Record) (types : List CType) → All (λ t. IsTrue (is_object (length records) t)) types
    → AreAlike (layouts records) (layouts (records ++ more)) (λ t. t) types
stay_alike records more [] h = tt
stay_alike records more (t ∷ types) h =
    let stay = layouts_stay records more in
    let P : CType → Type 0 = λ t. IsTrue (is_object (length records) t) in
    let k = All-head P t types h in
    (stay.sizes t k, stay.alignments t k, stay_alike records more types (All-tail P t types h))

same_types : (types : List CType) → map (λ t. t) types ≡ types
same_types [] = refl
same_types (t ∷ more) = ap (λ rest. t ∷ rest) (same_types more)

parted : {X : Type 0} (n : ℕ) (xs : List X) → take n xs ++ drop n xs ≡ xs
parted zero xs = refl
parted (suc n) [] = refl
parted (suc n) (x ∷ more) = ap (λ rest. x ∷ rest) (parted n more)

taken : {X : Type 0} (n : ℕ) (xs : List X) (x : X) → slice_get xs n ≡ Some x → length (take n xs) ≡ n
taken n [] x h = cc
taken zero (y ∷ more) x h = refl
taken (suc n) (y ∷ more) x h = ap suc (taken n more x h)

abbrev or_none : Option Layout → Layout
or_none o = unwrap_or o (record { offsets = []; size = 0; alignment = 1 })

offsets_are : (records : List Record) → AreComplete records → (n : ℕ) (r : Record) → slice_get records n ≡ Some r
    → (layout_at (layouts records) n).offsets ≡ offsets_after (layouts records) 0 (field_types r)
offsets_are records complete n r h =
    let before = take n records in
    let count : length before ≡ n = taken n records r h in
    let objects : All (λ t. IsTrue (is_object (length before) t)) (field_types r) =
    subst (λ k. All (λ t. IsTrue (is_object k t)) (field_types r)) (sym count) (complete n r h) in
    let a = offsets_same (layouts before) (layouts (before ++ drop n records)) (λ t. t) 0 (field_types r)
    (stay_alike before (drop n records) (field_types r) objects) in
    let e : layout_at (layouts records) n ≡ layout (layouts before) (field_types r) = ap or_none (layout_of records n r h) in
    let w : offsets_after (layouts (before ++ drop n records)) 0 (map (λ t. t) (field_types r)) ≡ offsets_after (layouts records) 0 (field_types r) =
    ap (λ rs. offsets_after (layouts rs) 0 (map (λ t. t) (field_types r))) (parted n records)
    ∙ ap (offsets_after (layouts records) 0) (same_types (field_types r)) in
    ap (λ (l : Layout). l.offsets) e ∙ sym a ∙ w

module _ (f : ℕ → ℕ) (records others : List Record) (complete : AreComplete records) (whole : AreComplete others) (among : StandAmong f records others) where
  abbrev R : CType → CType
  R t = renumbered f t

  alike : (count : ℕ) → ((t : CType) → is_object count t ≡ true → is_object (length records) t ≡ true) → (types : List CType)
      → All (λ t. IsTrue (is_object count t)) types → AreAlike (layouts records) (layouts others) R types
  alike count more [] h = tt
  alike count more (t ∷ types) h =
      let P : CType → Type 0 = λ t. IsTrue (is_object count t) in
      let l = (lies_alike f records others complete whole among t (more t (All-head P t types h))).alike in
      (l.sizes, l.alignments, alike count more types (All-tail P t types h))

  -- ---- fields

  field_at : (r k : ℕ) (t : CType) → field_type records r k ≡ Some t → (rec : Record) × (slice_get records r ≡ Some rec)
      × (slice_get (field_types rec) k ≡ Some t)
  field_at r k t h = of_record (slice_get records r) refl h
    where
      field_is : (fields : List Field) (k : ℕ) → option_map (λ (x : Field). x.ty) (slice_get fields k) ≡ Some t
          → slice_get (map (λ (x : Field). x.ty) fields) k ≡ Some t
      field_is [] k h = cc
      field_is (x ∷ more) zero h = h
      field_is (x ∷ more) (suc k) h = field_is more k h

      of_record : (o : Option Record) → slice_get records r ≡ o → type_in o k ≡ Some t
          → (rec : Record) × (slice_get records r ≡ Some rec) × (slice_get (field_types rec) k ≡ Some t)
      of_record None e h = cc
      of_record (Some rec) e h = (rec, e, field_is rec.fields k h)

  offset_again : (r k : ℕ) (t : CType) → field_type records r k ≡ Some t → offset_of others (f r) k ≡ offset_of records r k
  offset_again r k t h =
      let z = field_at r k t h in
      let q = among r z.0 z.1 in
      let l = slice_get_within records r z.0 z.1 in
      let more : (t : CType) → is_object r t ≡ true → is_object (length records) t ≡ true =
      λ t o. complete_stays r (length records) t (omega (arith, l)) o in
      let a = offsets_same (layouts records) (layouts others) R 0 (field_types z.0) (alike r more (field_types z.0) (complete r z.0 z.1)) in
      let b = offsets_are records complete r z.0 z.1 in
      let c = offsets_are others whole (f r) q.0 q.1 in
      ap (λ all. slice_index all k) (c ∙ ap (offsets_after (layouts others) 0) q.2 ∙ a ∙ sym b)

  pub lie_alike : LieAlike records others f
  lie_alike = record {
    sizes = λ t o. (lies_alike f records others complete whole among t o).alike.sizes;
    fields = among;
    offsets = offset_again;
    complete = field_object records complete;
  }
