-- The fields of the records of a program stand where those of its units do, and its mentions where theirs do.
use Rattle.std.proofs.Common.{ℕ, ◌+◌, List, [], ◌∷◌, flat_map}
use Rattle.std.specs.Str.{bytes_eq}
use Rattle.std.specs.List.{AllByRecursion}
use Rattle.lay_base.specs.declared.place.Place.{Place}
use Rattle.c_types.specs.Types.{Field, Record}
use Rattle.c_typed.specs.declared.program.Mention.{Mention}
use Rattle.c_typed.specs.Programs.{UnitData}
use Rattle.c_numbers.specs.NewNumbers.Parts.{mention_in}
use Rattle.c_numbers.specs.TypeNumbers.Renumbered.{field_in, record_in}
use Rattle.c_link.specs.Joining.{numbered_from, with_tag, records_in, all_records_in, all_tags, complete_tags, structure_in, records, tables, renaming, mentions_of, joined}
use Rattle.c_well_typed.proofs.GapPlaces.PlacesOfUnits.{ArePlaced}
use Rattle.c_well_typed.proofs.GapPlaces.Everywhere.{both, each_of, all_of, chosen}

module _ (Is : Place → Type 0) where
  abbrev pub FieldsArePlaced : Record → Type 0
  FieldsArePlaced r = AllByRecursion (λ f. Is f.place) r.fields

  abbrev pub MentionsArePlaced : UnitData → Type 0
  MentionsArePlaced u = AllByRecursion (λ m. Is m.place) u.mentions

  -- ---- records

  of_unit : (tags : List (List ℕ)) (u : UnitData) → ArePlaced Is u → AllByRecursion FieldsArePlaced (records_in tags u)
  of_unit tags u p =
      each_of FieldsArePlaced FieldsArePlaced (record_in (structure_in tags u)) u.records
      (λ r q. each_of (λ (f : Field). Is f.place) (λ (f : Field). Is f.place) (field_in (structure_in tags u)) r.fields (λ f h. h) q) p.fields

  one_tag : (tag : List ℕ) (all : List Record) → AllByRecursion FieldsArePlaced all → AllByRecursion FieldsArePlaced (with_tag tag all)
  one_tag tag [] h = tt
  one_tag tag (r ∷ more) h = chosen FieldsArePlaced (bytes_eq tag r.tag) (r ∷ []) (with_tag tag more) (h.0, tt) (one_tag tag more h.1)

  each_tag : (tags : List (List ℕ)) (all : List Record) → AllByRecursion FieldsArePlaced all
      → AllByRecursion FieldsArePlaced (flat_map (λ tag. with_tag tag all) tags)
  each_tag [] all h = tt
  each_tag (tag ∷ tags) all h =
      both FieldsArePlaced (with_tag tag all) (flat_map (λ tag. with_tag tag all) tags) (one_tag tag all h) (each_tag tags all h)

  pub fields_placed : (units : List UnitData) → AllByRecursion (ArePlaced Is) units → AllByRecursion FieldsArePlaced (records units)
  fields_placed units h =
      each_tag (complete_tags units) (all_records_in units)
      (all_of FieldsArePlaced (ArePlaced Is) (records_in (all_tags units)) units (of_unit (all_tags units)) h)

  -- ---- mentions

  numbered : (k : ℕ) (units : List UnitData) → AllByRecursion MentionsArePlaced units
      → AllByRecursion (λ (u : ℕ × UnitData). MentionsArePlaced u.1) (numbered_from k units)
  numbered k [] h = tt
  numbered k (u ∷ more) h = (h.0, numbered (k + 1) more h.1)

  pub mentions_placed : (units : List UnitData) → AllByRecursion MentionsArePlaced units → AllByRecursion (λ m. Is m.place) (joined units).mentions
  mentions_placed units h =
      all_of (λ (m : Mention). Is m.place) (λ (u : ℕ × UnitData). MentionsArePlaced u.1) (λ u. mentions_of (tables units) u.0 u.1) (numbered_from 0 units)
      (λ u k. each_of (λ (m : Mention). Is m.place) (λ (m : Mention). Is m.place) (mention_in (renaming (tables units) u.0 u.1)) u.1.mentions (λ m h. h) k)
      (numbered 0 units h)
