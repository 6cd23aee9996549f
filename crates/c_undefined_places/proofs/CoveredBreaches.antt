-- What refuses a record in a program: a mention of a type that speaks of it, and a field whose type does.
use Rattle.std.proofs.Common.{◌≡◌, ◌∙◌, ℕ, zero, suc, ◌+◌, ◌<◌, ◌≤◌, Bool, true, false, refl, sym, ap, subst, arith, List, [], ◌∷◌, ◌++◌, length, fold}
use Rattle.std.proofs.Common.{flat_map, inl, inr}
use Rattle.std.proofs.lemmas.Bool.{ltb-true, ltb-false}
use Rattle.std.proofs.lemmas.List.{length-append, get_or_append_left, get_or-append-add}
use Rattle.std.specs.Prelude.{Option, Some, None, get_or, nat_lt, slice_get, unwrap_or}
use Rattle.lay_base.specs.declared.place.Place.{Place}
use Rattle.c_types.specs.Types.{CType, void, structure, Field, Record}
use Rattle.c_typed.specs.declared.program.Mention.{Mention}
use Rattle.c_typed.specs.declared.program.MentionKind.{MentionKind}
use Rattle.c_typed.specs.declared.program.MentionKind.TheVariants as M
use Rattle.c_typed.specs.Programs.{ProgramData}
use Rattle.c_typed.specs.TypeNumbers.{type_at}
use Rattle.c_facts.specs.Programs.{facts_of}
use Rattle.c_link.proofs.JoinedRecords.{IsAmong, among_left, among_right, among_flat, among_map}
use Rattle.legality.specs.declared.violation.Test.{Test}
use Rattle.legality.specs.declared.violation.Test.TheVariants.{Cstt, Nest, Objt}
use Rattle.legality.specs.Breaches.{Breach, breach, all_of, by_fact, if_known, by_kind, by_mention, by_held, by_field, by_records, breaches, IsIn}
use Rattle.legality.specs.Covered.{IsRefused}
use Rattle.legality.specs.Holdings.{held_in, holdings_of, new_in, with_field, with_record}
use Rattle.legality.specs.InTypes.{arrays_in, pointed}
use Rattle.c_undefined_places.proofs.CoveredUnits.{values_in, accused_by}

-- a record among those of `all_of`
one_of : (which : Test) (at : Place) (r : ℕ) (numbers : List ℕ) → IsAmong r numbers
    → IsAmong (breach r (record { test = which; place = at })) (all_of which at numbers)
one_of which at r numbers i = among_map (λ r. breach r (record { test = which; place = at })) r numbers i

is_in : (b : Breach) (all : List Breach) → IsAmong b all → IsIn b all
is_in b [] i = i
is_in b (c ∷ all) (inl e) = inl e
is_in b (c ∷ all) (inr i) = inr (is_in b all i)

-- ---- a record holds itself

abbrev row : (known : List (List ℕ)) → Record → List ℕ
row known owner = fold (with_field known) (length known ∷ []) owner.fields

stays : (known : List (List ℕ)) (r : ℕ) (all : List ℕ) (fields : List Field) → IsAmong r all → IsAmong r (fold (with_field known) all fields)
stays known r all [] i = i
stays known r all (f ∷ fields) i =
    stays known r (with_field known all f) fields (among_left r all (new_in all (held_in known f.ty)) i)

abbrev HoldThemselves : List (List ℕ) → Type 0
HoldThemselves known = (r : ℕ) → r < length known → IsAmong r (get_or known r [])

one_more : (known : List (List ℕ)) (owner : Record) → HoldThemselves known → HoldThemselves (with_record known owner)
one_more known owner h r l = by_place (nat_lt r (length known)) refl
  where
    by_place : (b : Bool) → nat_lt r (length known) ≡ b → IsAmong r (get_or (with_record known owner) r [])
    by_place true e =
        let low : r < length known = ltb-true r (length known) e in
        subst (IsAmong r) (sym (get_or_append_left known (row known owner ∷ []) [] r low)) (h r low)
    by_place false e =
        let high : length known ≤ r = ltb-false r (length known) e in
        let end : r ≡ length known + 0 = omega (arith, high, l, length-append known (row known owner ∷ [])) in
        let own : r ≡ length known = omega (arith, end) in
        let there : get_or (with_record known owner) r [] ≡ row known owner =
        ap (λ n. get_or (with_record known owner) n []) end ∙ get_or-append-add known (row known owner ∷ []) 0 [] in
        subst (IsAmong r) (sym there) (stays known r (length known ∷ []) owner.fields (inl own))

all_more : (known : List (List ℕ)) (rest : List Record) → HoldThemselves known → (r : ℕ) → r < length known + length rest
    → IsAmong r (get_or (fold with_record known rest) r [])
all_more known [] h r l = h r (omega (arith, l))
all_more known (owner ∷ rest) h r l =
    all_more (with_record known owner) rest (one_more known owner h) r (omega (arith, l, length-append known (row known owner ∷ [])))

holds_itself : (records : List Record) (r : ℕ) → r < length records → IsAmong r (get_or (holdings_of records) r [])
holds_itself records r l = all_more [] records (λ r l. absurd (omega (arith, l))) r (omega (arith, l))

-- ---- void speaks of no record

nothing_said : (kind : MentionKind) (r : ℕ) → IsAmong r (accused_by kind void) → ⊥
nothing_said M.Object r i = i
nothing_said M.Named r i = i
nothing_said M.Sizeof r i = i
nothing_said M.Used r i = i
nothing_said M.From r i = i
nothing_said M.To r i = i
nothing_said M.Field r i = i

module _ (p : ProgramData) where
  abbrev Holdings : List (List ℕ)
  Holdings = holdings_of p.records

  refused : (which : Test) (at : Place) (r : ℕ) → IsAmong (breach r (record { test = which; place = at })) (breaches p) → IsRefused p r
  refused which at r i = (which, at, is_in (breach r (record { test = which; place = at })) (breaches p) i)

  -- ---- mentions

  of_kind : (kind : MentionKind) (t : CType) (at : Place) (r : ℕ) → IsAmong r (accused_by kind t)
      → (which : Test) × IsAmong (breach r (record { test = which; place = at })) (by_kind Holdings kind t at)
  of_kind M.Object t at r i = (Objt, one_of Objt at r (values_in t) i)
  of_kind M.Named t at r i = (Objt, one_of Objt at r (arrays_in t) i)
  of_kind M.Sizeof t at r i = absurd i
  of_kind M.Used t at r i = absurd i
  of_kind M.From t at r i = absurd i
  of_kind M.To t at r i = (Cstt, one_of Cstt at r (pointed t) i)
  of_kind M.Field t at r i = absurd i

  pub mention_refuses : (m : Mention) → IsAmong m p.mentions → (r : ℕ) → IsAmong r (accused_by m.kind (type_at p.types m.ty)) → IsRefused p r
  mention_refuses m i r said = by_type (slice_get p.types m.ty) refl said
    where
      among_all : (b : Breach) → IsAmong b (by_mention p.types Holdings m) → IsAmong b (breaches p)
      among_all b j =
          let facts = flat_map (by_fact p.types) (facts_of p) in
          let mentions = flat_map (by_mention p.types Holdings) p.mentions in
          among_left b (facts ++ mentions) (by_records Holdings 0 p.records)
          (among_right b facts mentions (among_flat (by_mention p.types Holdings) m p.mentions b i j))

      by_type : (o : Option CType) → slice_get p.types m.ty ≡ o → IsAmong r (accused_by m.kind (unwrap_or o void)) → IsRefused p r
      by_type None e said = absurd (nothing_said m.kind r said)
      by_type (Some t) e said =
          let z = of_kind m.kind t m.place r said in
          refused z.0 m.place r
          (among_all (breach r (record { test = z.0; place = m.place }))
          (subst (λ o. IsAmong (breach r (record { test = z.0; place = m.place })) (if_known (λ t. by_kind Holdings m.kind t m.place) o)) (sym e) z.1))

  -- ---- fields of records

  by_number : (b : Breach) (all : List Record) (first n : ℕ) (owner : Record) → slice_get all n ≡ Some owner
      → IsAmong b (flat_map (by_field Holdings (first + n)) owner.fields) → IsAmong b (by_records Holdings first all)
  by_number b [] first n owner e i = cc
  by_number b (r ∷ all) first zero owner e i =
      let is : owner ≡ r = cc in
      let number : first + 0 ≡ first = omega arith in
      among_left b (flat_map (by_field Holdings first) r.fields) (by_records Holdings (first + 1) all)
      (subst (λ (r : Record). IsAmong b (flat_map (by_field Holdings first) r.fields)) is
      (subst (λ n. IsAmong b (flat_map (by_field Holdings n) owner.fields)) number i))
  by_number b (r ∷ all) first (suc n) owner e i =
      let number : first + suc n ≡ first + 1 + n = omega arith in
      among_right b (flat_map (by_field Holdings first) r.fields) (by_records Holdings (first + 1) all)
      (by_number b all (first + 1) n owner e (subst (λ n. IsAmong b (flat_map (by_field Holdings n) owner.fields)) number i))

  module _ (n : ℕ) (owner : Record) (there : slice_get p.records n ≡ Some owner) (f : Field) (own : IsAmong f owner.fields) where
    of_field : (b : Breach) → IsAmong b (by_field Holdings n f) → IsAmong b (breaches p)
    of_field b i =
        let facts = flat_map (by_fact p.types) (facts_of p) in
        let mentions = flat_map (by_mention p.types Holdings) p.mentions in
        let zero_more : 0 + n ≡ n = omega arith in
        among_right b (facts ++ mentions) (by_records Holdings 0 p.records)
        (by_number b p.records 0 n owner there
        (subst (λ n. IsAmong b (flat_map (by_field Holdings n) owner.fields)) (sym zero_more) (among_flat (by_field Holdings n) f owner.fields b own i)))

    -- of which arrays stand in the field's type
    pub arrays_refused : (r : ℕ) → IsAmong r (arrays_in f.ty) → IsRefused p r
    arrays_refused r i =
        let b = breach r (record { test = Objt; place = f.place }) in
        refused Objt f.place r
        (of_field b
        (among_right b (by_held n f.place (held_in Holdings f.ty)) (all_of Objt f.place (arrays_in f.ty)) (one_of Objt f.place r (arrays_in f.ty) i)))

    among_held : (held : List ℕ) (r : ℕ) → IsAmong r held → IsAmong (breach r (record { test = Nest; place = f.place })) (by_held n f.place held)
    among_held [] r i = absurd i
    among_held (s ∷ more) r i = one_of Nest f.place r (n ∷ s ∷ more) (inr i)

    -- which the field is
    pub itself_refused : (r : ℕ) → f.ty ≡ structure r → r < length p.records → IsRefused p r
    itself_refused r e l =
        let b = breach r (record { test = Nest; place = f.place }) in
        let held = subst (λ t. IsAmong r (held_in Holdings t)) (sym e) (holds_itself p.records r l) in
        refused Nest f.place r
        (of_field b
        (among_left b (by_held n f.place (held_in Holdings f.ty)) (all_of Objt f.place (arrays_in f.ty)) (among_held (held_in Holdings f.ty) r held)))
