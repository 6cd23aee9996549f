-- What is at odds in units stands where they declare it.
use Rattle.std.proofs.Common.{ℕ, List, [], ◌∷◌, filter, flat_map, sym, subst}
use Rattle.std.specs.List.{AllByRecursion}
use Rattle.std.specs.Str.{bytes_eq}
use Rattle.lay_base.specs.declared.place.Place.{Place}
use Rattle.c_tokens.specs.TokenPlaces.{TokensHavePlaces, IsPlaceOf}
use Rattle.c_ast.specs.Laws.{TreesBeginFirst}
use Rattle.c_types.specs.Types.{CType, Record}
use Rattle.c_typed.specs.declared.program.Object.{Object}
use Rattle.c_typed.specs.Programs.{FunctionData, UnitData}
use Rattle.c_checking_laws.specs.TextOrder.TextOrder.{TextsAreInOrder}
use Rattle.c_numbers.specs.TypeNumbers.Renumbered.{record_in}
use Rattle.c_link.specs.Joining.{all_tags, all_records_in, records_in, structure_in, with_tag}
use Rattle.c_link.specs.Gaps.{Linked, linked_object_in, linked_function_in, linked_by, linked_in, of_name, Trouble, IsTagClash, IsNameClash, IsTwice}
use Rattle.c_link.specs.Gaps.{Gap, tag_clash, name_clash, twice, IsGap}
use Rattle.c_well_typed.specs.GapPlaces.Places.{IsGapIn, GapsHavePlaces}
use Rattle.c_well_typed.proofs.GapPlaces.Everywhere.{both, each_of, all_of, chosen, kept, before, between, first_of}
use Rattle.c_well_typed.proofs.GapPlaces.PlacesOfUnits.{ArePlaced, each_unit_placed}

module _ (Is : Place → Type 0) (units : List UnitData) (placed : AllByRecursion (ArePlaced Is) units) where
  -- both places of what is at odds
  abbrev pub AreBoth : Trouble → Type 0
  AreBoth t = Is t.place × Is t.first

  -- ---- structures

  abbrev IsRecordPlaced : Record → Type 0
  IsRecordPlaced r = Is r.place

  records_placed : AllByRecursion IsRecordPlaced (all_records_in units)
  records_placed = all_of IsRecordPlaced (ArePlaced Is) (records_in (all_tags units)) units
      (λ u p. each_of IsRecordPlaced IsRecordPlaced (record_in (structure_in (all_tags units) u)) u.records (λ r q. q) p.records) placed

  with_tag_placed : (tag : List ℕ) (all : List Record) → AllByRecursion IsRecordPlaced all → AllByRecursion IsRecordPlaced (with_tag tag all)
  with_tag_placed tag [] p = tt
  with_tag_placed tag (r ∷ more) p = chosen IsRecordPlaced (bytes_eq tag r.tag) (r ∷ []) (with_tag tag more) (p.0, tt) (with_tag_placed tag more p.1)

  pub tags_placed : (t : Trouble) → IsTagClash units t → AreBoth t
  tags_placed t (front, later, r, first, rest, whole, of_tag, differ, is) =
      let all = subst (AllByRecursion IsRecordPlaced) whole records_placed in
      let one = between IsRecordPlaced front r later all in
      let other = first_of IsRecordPlaced (with_tag r.tag front) first rest of_tag
      (with_tag_placed r.tag front (before IsRecordPlaced front r later all)) in
      subst AreBoth (sym is) (one, other)

  -- ---- names

  abbrev IsLinkedPlaced : Linked → Type 0
  IsLinkedPlaced l = Is l.place

  object_placed : (number : ℕ → ℕ) (types : List CType) (o : Object) → Is o.place → AllByRecursion IsLinkedPlaced (linked_object_in number types o)
  object_placed number types o p = chosen IsLinkedPlaced o.linked _ _ (p, tt) tt

  function_placed : (number : ℕ → ℕ) (types : List CType) (g : FunctionData) → Is g.place → AllByRecursion IsLinkedPlaced (linked_function_in number types g)
  function_placed number types g p = chosen IsLinkedPlaced g.is_linked _ _ (p, tt) tt

  linked_placed : AllByRecursion IsLinkedPlaced (linked_in units)
  linked_placed = all_of IsLinkedPlaced (ArePlaced Is) (linked_by (all_tags units)) units (λ u p. both IsLinkedPlaced
      (flat_map (linked_object_in (structure_in (all_tags units) u) u.types) u.objects)
      (flat_map (linked_function_in (structure_in (all_tags units) u) u.types) u.functions)
      (all_of IsLinkedPlaced (λ (o : Object). Is o.place) (linked_object_in (structure_in (all_tags units) u) u.types) u.objects
      (object_placed (structure_in (all_tags units) u) u.types) p.objects)
      (all_of IsLinkedPlaced (λ (g : FunctionData). Is g.place) (linked_function_in (structure_in (all_tags units) u) u.types) u.functions
      (function_placed (structure_in (all_tags units) u) u.types) p.functions)) placed

  pub names_placed : (t : Trouble) → IsNameClash units t → AreBoth t
  names_placed t (front, later, l, first, rest, whole, of_one_name, differ, is) =
      let all = subst (AllByRecursion IsLinkedPlaced) whole linked_placed in
      let other = first_of IsLinkedPlaced (of_name l.name front) first rest of_one_name
      (kept IsLinkedPlaced (λ l'. bytes_eq l'.name l.name) front (before IsLinkedPlaced front l later all)) in
      subst AreBoth (sym is) (between IsLinkedPlaced front l later all, other)

  pub twice_placed : (t : Trouble) → IsTwice units t → AreBoth t
  twice_placed t (front, later, l, first, rest, whole, defined, of_one_name, is) =
      let all = subst (AllByRecursion IsLinkedPlaced) whole linked_placed in
      let same = kept IsLinkedPlaced (λ l'. bytes_eq l'.name l.name) front (before IsLinkedPlaced front l later all) in
      let other = first_of IsLinkedPlaced (filter (λ d. d.is_defined) (of_name l.name front)) first rest of_one_name
      (kept IsLinkedPlaced (λ d. d.is_defined) (of_name l.name front) same) in
      subst AreBoth (sym is) (between IsLinkedPlaced front l later all, other)

pub gaps_have_places : TokensHavePlaces → TreesBeginFirst → TextsAreInOrder → GapsHavePlaces
gaps_have_places places begin texts files units gap h g = of_gap gap g
  where
    placed : AllByRecursion (ArePlaced (IsPlaceOf files)) units
    placed = each_unit_placed places begin texts files units h

    of_gap : (gap : Gap) → IsGap units gap → IsGapIn files gap
    of_gap (tag_clash t) g = tags_placed (IsPlaceOf files) units placed t g.here
    of_gap (name_clash t) g = names_placed (IsPlaceOf files) units placed t g.1.here
    of_gap (twice t) g = twice_placed (IsPlaceOf files) units placed t g.2.here
    of_gap gap g = tt
