-- Where the functions of a program stand at places that are so, and its mentions and the fields of its records do, its violations do.
use Rattle.std.proofs.Common.{◌≡◌, ℕ, ◌+◌, Bool, true, false, refl, sym, subst, List, [], ◌∷◌, ◌++◌, inl, inr, Some, None}
use Rattle.std.specs.Prelude.{Option, IfSome, flat_map, if◌then◌else◌, not, ◌&&◌, slice_get}
use Rattle.std.specs.List.{AllByRecursion}
use Rattle.std.proofs.lemmas.List.Elements.{recursion_from_All}
use Rattle.lay_base.specs.declared.place.Place.{Place}
use Rattle.c_types.specs.Types.{CType, Field, Record}
use Rattle.c_types.specs.Sameness.{same_type}
use Rattle.c_typed.specs.Conversions.{is_pointer}
use Rattle.c_typed.specs.declared.operators.LibraryFunction.{LibraryFunction}
use Rattle.c_typed.specs.declared.operators.LibraryFunction.TheVariants as L
use Rattle.c_typed.specs.declared.program.Mention.{Mention}
use Rattle.c_typed.specs.declared.program.MentionKind.{MentionKind}
use Rattle.c_typed.specs.declared.program.MentionKind.TheVariants as M
use Rattle.c_typed.specs.declared.run_counts.order.Defined.{Defined}
use Rattle.c_typed.specs.Programs.{FunctionData, ProgramData}
use Rattle.c_typed.specs.RunCounts.Order.{profile_order}
use Rattle.c_facts.specs.declared.fact.Fact.{Fact}
use Rattle.c_facts.specs.declared.fact.Fact.TheVariants as F
use Rattle.c_facts.specs.Programs.{facts_by_body, facts_of_any, facts_in, facts_of}
use Rattle.legality.specs.declared.violation.Test.{Test}
use Rattle.legality.specs.declared.violation.Test.TheVariants.{Cstt, Cstf, Atkn, Libc, Ind, Mset, Nest, Size, Objt, Copy}
use Rattle.legality.specs.Breaches.{Breach, all_of, by_conversion, by_argument, if_known, if_both, by_fact, by_kind, by_mention, by_held, by_field, by_records}
use Rattle.legality.specs.Breaches.{breaches, IsIn}
use Rattle.legality.specs.Holdings.{held_in, holdings_of}
use Rattle.legality.specs.InTypes.{arrays_in, itself, pointed, pointers_in}
use Rattle.c_well_typed.proofs.GapPlaces.Everywhere as Lists
use Rattle.c_undefined_places.specs.Placed.{IsPlacedStatement, IsPlacedFunction, FunctionsArePlaced}
use Rattle.c_undefined_places.specs.Verdicts.{IsPlacedFact}
use Rattle.c_undefined_places.proofs.PlacedFacts.{Have, and, first, by_statement}
use Rattle.c_undefined_places.proofs.StandingCalls.{each_at}

module _ (Is : Place → Type 0) where
  -- ---- what the functions of a program say

  by_any : (o : Option FunctionData) → ((g : FunctionData) → o ≡ Some g → IsPlacedFunction Is g) → Have Is (facts_of_any o)
  by_any None h = record { each = tt }
  by_any (Some g) h = of_body g.body (h g refl).1
    where
      of_body : (body : Option _) → IfSome body (IsPlacedStatement Is) → Have Is (facts_by_body body)
      of_body None k = record { each = tt }
      of_body (Some body) k = by_statement Is body k

  module _ (p : ProgramData) (placed : FunctionsArePlaced Is p) where
    in_order : (order : List Defined) → Have Is (facts_in p order)
    in_order [] = record { each = tt }
    in_order (f ∷ more) =
        let all = recursion_from_All (IsPlacedFunction Is) p.functions placed in
        let here = by_any (slice_get p.functions f.number) (λ g e. each_at (IsPlacedFunction Is) p.functions all f.number g e) in
        and Is (first Is F.FunctionBegins tt here) (in_order more)

    pub facts_placed : AllByRecursion (IsPlacedFact Is) (facts_of p)
    facts_placed = (in_order (profile_order p)).each

  -- ---- violations

  record Stand (all : List Breach) : Type 0 where
    pub each : AllByRecursion (λ b. Is b.by.place) all

  none : Stand []
  none = record { each = tt }

  both : {a b : List Breach} → Stand a → Stand b → Stand (a ++ b)
  both {a} {b} p q = record { each = Lists.both (λ (b : Breach). Is b.by.place) a b p.each q.each }

  at_place : (which : Test) (at : Place) (numbers : List ℕ) → Is at → Stand (all_of which at numbers)
  at_place which at [] h = none
  at_place which at (r ∷ numbers) h = record { each = (h, (at_place which at numbers h).each) }

  if_so : (c : Bool) (all : List Breach) → Stand all → Stand (if c then all else [])
  if_so true all h = h
  if_so false all h = none

  by_one : (by : CType → List Breach) (t : Option CType) → ((t : CType) → Stand (by t)) → Stand (if_known by t)
  by_one by None h = none
  by_one by (Some t) h = h t

  by_two : (by : CType → CType → List Breach) (s t : Option CType) → ((s t : CType) → Stand (by s t)) → Stand (if_both by s t)
  by_two by (Some s) (Some t) h = h s t
  by_two by s t h = none

  of_conversion : (s t : CType) (at : Place) → Is at → Stand (by_conversion s t at)
  of_conversion s t at h =
      if_so (is_pointer s && is_pointer t && not (same_type s t)) _ (both (at_place Cstt at (pointed t) h) (at_place Cstf at (pointed s) h))

  of_argument : (which : LibraryFunction) (t : CType) (at : Place) → Is at → Stand (by_argument which t at)
  of_argument L.Free t at h = none
  of_argument L.Memset t at h = at_place Mset at (pointed t) h
  of_argument L.Memcpy t at h = at_place Mset at (pointed t) h
  of_argument L.Memmove t at h = at_place Mset at (pointed t) h
  of_argument which t at h = at_place Libc at (pointed t) h

  module _ (types : List CType) where
    of_fact : (fact : Fact) → IsPlacedFact Is fact → Stand (by_fact types fact)
    of_fact (F.Converted s t at) h = by_two (λ s t. by_conversion s t at) (slice_get types s) (slice_get types t) (λ s t. of_conversion s t at h)
    of_fact (F.Taken r at) h = at_place Atkn at (r ∷ []) h
    of_fact (F.Passed which t at) h = by_one (λ t. by_argument which t at) (slice_get types t) (λ t. of_argument which t at h)
    of_fact (F.Function t at) h = by_one (λ t. all_of Ind at (pointers_in t)) (slice_get types t) (λ t. at_place Ind at (pointers_in t) h)
    of_fact (F.Copied t at) h = by_one (λ t. all_of Copy at (itself t)) (slice_get types t) (λ t. at_place Copy at (itself t) h)
    of_fact fact h = none

    of_facts : (facts : List Fact) → AllByRecursion (IsPlacedFact Is) facts → Stand (flat_map (by_fact types) facts)
    of_facts [] h = none
    of_facts (fact ∷ facts) h = both (of_fact fact h.0) (of_facts facts h.1)

    module _ (holdings : List (List ℕ)) where
      of_kind : (kind : MentionKind) (t : CType) (at : Place) → Is at → Stand (by_kind holdings kind t at)
      of_kind M.Object t at h = at_place Objt at (itself t ++ arrays_in t) h
      of_kind M.Named t at h = at_place Objt at (arrays_in t) h
      of_kind M.Sizeof t at h = at_place Size at (held_in holdings t) h
      of_kind M.Used t at h = at_place Ind at (pointers_in t) h
      of_kind M.From t at h = at_place Cstf at (pointed t) h
      of_kind M.To t at h = at_place Cstt at (pointed t) h
      of_kind M.Field t at h = at_place Atkn at (itself t) h

      of_mentions : (all : List Mention) → AllByRecursion (λ m. Is m.place) all → Stand (flat_map (by_mention types holdings) all)
      of_mentions [] h = none
      of_mentions (m ∷ all) h =
          both (by_one (λ t. by_kind holdings m.kind t m.place) (slice_get types m.ty) (λ t. of_kind m.kind t m.place h.0)) (of_mentions all h.1)

  module _ (holdings : List (List ℕ)) where
    of_held : (owner : ℕ) (at : Place) (held : List ℕ) → Is at → Stand (by_held owner at held)
    of_held owner at [] h = none
    of_held owner at (r ∷ more) h = at_place Nest at (owner ∷ r ∷ more) h

    of_fields : (owner : ℕ) (fields : List Field) → AllByRecursion (λ f. Is f.place) fields → Stand (flat_map (by_field holdings owner) fields)
    of_fields owner [] h = none
    of_fields owner (f ∷ fields) h =
        let here = both (of_held owner f.place (held_in holdings f.ty) h.0) (at_place Objt f.place (arrays_in f.ty) h.0) in
        both here (of_fields owner fields h.1)

    of_records : (number : ℕ) (all : List Record) → AllByRecursion (λ r. AllByRecursion (λ f. Is f.place) r.fields) all
        → Stand (by_records holdings number all)
    of_records number [] h = none
    of_records number (r ∷ all) h = both (of_fields number r.fields h.0) (of_records (number + 1) all h.1)

  -- ---- all of a program

  among : (all : List Breach) (b : Breach) → AllByRecursion (λ b. Is b.by.place) all → IsIn b all → Is b.by.place
  among [] b h i = absurd i
  among (c ∷ all) b h (inl e) = subst (λ (b : Breach). Is b.by.place) (sym e) h.0
  among (c ∷ all) b h (inr i) = among all b h.1 i

  pub violations_placed : (p : ProgramData) → FunctionsArePlaced Is p → AllByRecursion (λ m. Is m.place) p.mentions
      → AllByRecursion (λ r. AllByRecursion (λ f. Is f.place) r.fields) p.records → (b : Breach) → IsIn b (breaches p) → Is b.by.place
  violations_placed p functions mentions records b i =
      let holdings = holdings_of p.records in
      let said = of_facts p.types (facts_of p) (facts_placed p functions) in
      let outside = of_mentions p.types holdings p.mentions mentions in
      among (breaches p) b (both (both said outside) (of_records holdings 0 p.records records)).each i
