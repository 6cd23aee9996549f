-- What the unit of a file declares stands at places of the file.
use Rattle.std.proofs.Common.{◌≡◌, ℕ, ◌+◌, List, [], ◌∷◌, ◌++◌, length, drop, Some, Ok, refl, sym, ap, ◌∙◌, subst, arith, append_assoc, length-append}
use Rattle.std.specs.Prelude.{slice_get}
use Rattle.std.specs.List.{AllByRecursion}
use Rattle.std.proofs.lemmas.List.Elements.{All-weaker}
use Rattle.lay_base.specs.declared.place.File.{File}
use Rattle.lay_base.specs.declared.place.Place.{Place}
use Rattle.c_tokens.specs.TokenPlaces.{IsPlaceIn, TokensHavePlaces, IsPlaceOf}
use Rattle.c_types.specs.Types.{Field, Record}
use Rattle.c_typed.specs.declared.program.Object.{Object}
use Rattle.c_typed.specs.Programs.{FunctionData, UnitData}
use Rattle.c_ast.specs.Laws.{TreesBeginFirst}
use Rattle.c_ast.specs.Spelling.{spell}
use Rattle.c_ast.specs.Trees
use Rattle.c_erasure.specs.Checking.Files.{annotated}
use Rattle.c_erasure.specs.Scopes.{FileScope}
use Rattle.c_erasure.specs.Units.{unit_of, object, function}
use Rattle.c_erasure.specs.Untagged.{AreTags, structs_in}
use Rattle.c_checking_laws.specs.TextOrder.TextOrder.{IsUnwritten, TextsAreInOrder}
use Rattle.c_checking_laws.proofs.TextOrder.UntaggedNames.OneLine.{IsTagAt}
use Rattle.c_checking_laws.proofs.TextOrder.UntaggedNames.OtherParts.{with_tags}
use Rattle.c_checking_units.proofs.StepsOfFiles.{text_steps}
use Rattle.c_checking_units.proofs.OneUnit.{HaveSteps, found_by}
use Rattle.c_link.specs.Programs.{IsUnitOfFile, AreUnitsOf}
use Rattle.c_checking_units.proofs.FaultPlaces.Given.{AreFieldsAt, AreAt, IsAt}
use Rattle.c_checking_units.proofs.FaultPlaces.Texts.{file_places}
use Rattle.c_well_typed.proofs.GapPlaces.Everywhere.{each_of, behind}

-- each structure of a unit, with its fields, and each object and function stands at such a place
pub record ArePlaced (Is : Place → Type 0) (u : UnitData) : Type 0 where
  pub records : AllByRecursion (λ r. Is r.place) u.records
  pub fields : AllByRecursion (λ r. AllByRecursion (λ f. Is f.place) r.fields) u.records
  pub objects : AllByRecursion (λ o. Is o.place) u.objects
  pub functions : AllByRecursion (λ g. Is g.place) u.functions

-- those of an annotated file
of_file : (Is : Place → Type 0) (number : ℕ) (P : ℕ → Type 0) (f : FileScope) (items : List Trees.Item)
    → ((place : Place) → IsAt number P place → Is place) → AreAt number P f → ArePlaced Is (unit_of items f)
of_file Is number P f items h k = record {
  records = each_is f.records k.records;
  fields = fields_are f.records k.fields;
  objects = each_of (λ (o : Object). Is o.place) (λ o. IsAt number P o.place) (object f) f.objects (λ o p. h o.place p) k.objects;
  functions = each_of (λ (g : FunctionData). Is g.place) (λ g. IsAt number P g.place) (function f) f.functions (λ g p. h g.place p) k.functions;
}
  where
    each_is : (all : List Record) → AllByRecursion (λ r. IsAt number P r.place) all → AllByRecursion (λ r. Is r.place) all
    each_is [] p = tt
    each_is (r ∷ more) p = (h r.place p.0, each_is more p.1)

    each_field : (all : List Field) → AreFieldsAt number P all → AllByRecursion (λ f. Is f.place) all
    each_field [] p = tt
    each_field (field ∷ more) p = (h field.place p.0, each_field more p.1)

    fields_are : (all : List Record) → AllByRecursion (λ r. AreFieldsAt number P r.fields) all → AllByRecursion (λ r. AllByRecursion (λ f. Is f.place) r.fields) all
    fields_are [] p = tt
    fields_are (r ∷ more) p = (each_field r.fields p.0, fields_are more p.1)

-- names that begin as no identifier does, and are those of the structures of the text
abbrev pub unwritten_by : (ℕ → List ℕ) → ℕ → List ℕ
unwritten_by u at = 64 ∷ drop 1 (u at)

tags_unwritten : (name bytes structs : List ℕ) (u : ℕ → List ℕ) → AreTags name bytes structs u → AreTags name bytes structs (unwritten_by u)
tags_unwritten name bytes structs u h = All-weaker (IsTagAt name bytes structs u) (IsTagAt name bytes structs (unwritten_by u))
    (λ at t. (t.0, t.1, t.2, t.3, ap (λ tag. 64 ∷ drop 1 tag) t.4)) structs h

module _ (places : TokensHavePlaces) (first : TreesBeginFirst) (texts : TextsAreInOrder) where
  steps : HaveSteps
  steps bytes items g unwritten tree h w = text_steps places first texts g w bytes items unwritten tree h

  -- the annotated file of a unit, whichever names structures without a tag have
  pub unit_at : (number : ℕ) (file : File) (u : UnitData) (h : IsUnitOfFile number file u)
      → AreAt number (IsPlaceIn file.bytes) (with_tags (unwritten_by h.erases.annotated.untagged) h.erases.annotated)
  unit_at number file u h =
      let f = h.erases.annotated in
      let names = unwritten_by f.untagged in
      let unwritten : (at : ℕ) → IsUnwritten (names at) = λ at. (drop 1 (f.untagged at), refl) in
      let given = tags_unwritten file.name file.bytes (structs_in (spell h.items)) f.untagged h.erases.tags in
      let is = found_by places first texts steps file.name file.bytes h.items f names h.tree unwritten h.erases.tags given h.erases.of_tree in
      let answer = subst (λ n. annotated n names h.items ≡ Ok (with_tags names f)) h.erases.number is in
      file_places places number names file.bytes h.items h.tree (with_tags names f) answer

  unit_placed : (Is : Place → Type 0) (number : ℕ) (file : File) (u : UnitData) → IsUnitOfFile number file u
      → ((place : Place) → IsAt number (IsPlaceIn file.bytes) place → Is place) → ArePlaced Is u
  unit_placed Is number file u h is =
      let f = with_tags (unwritten_by h.erases.annotated.untagged) h.erases.annotated in
      subst (ArePlaced Is) (sym h.erases.unit) (of_file Is number (IsPlaceIn file.bytes) f h.items is (unit_at number file u h))

  -- of the units of the files behind others
  units_placed : (all passed files : List File) (units : List UnitData) → all ≡ passed ++ files → AreUnitsOf (length passed) files units
      → AllByRecursion (ArePlaced (IsPlaceOf all)) units
  units_placed all passed [] units e h = subst (AllByRecursion (ArePlaced (IsPlaceOf all))) (sym h) tt
  units_placed all passed (file ∷ more) units e h =
      let here : slice_get all (length passed) ≡ Some file =
      subst (λ all. slice_get all (length passed) ≡ Some file) (sym e) (behind passed file more) in
      let own = unit_placed (IsPlaceOf all) (length passed) file h.0 h.3
      (λ place p. (file, subst (λ n. slice_get all n ≡ Some file) (sym p.file) here, p.at)) in
      let next : length passed + 1 ≡ length (passed ++ file ∷ []) = omega (arith, length-append passed (file ∷ [])) in
      let rest = units_placed all (passed ++ file ∷ []) more h.1 (e ∙ sym (append_assoc passed (file ∷ []) more))
      (subst (λ n. AreUnitsOf n more h.1) next h.4) in
      subst (AllByRecursion (ArePlaced (IsPlaceOf all))) (sym h.2) (own, rest)

  pub each_unit_placed : (files : List File) (units : List UnitData) → AreUnitsOf 0 files units → AllByRecursion (ArePlaced (IsPlaceOf files)) units
  each_unit_placed files units h = units_placed files [] files units refl h
