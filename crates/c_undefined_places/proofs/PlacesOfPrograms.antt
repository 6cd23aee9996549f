-- The functions of the program of some files stand at places of the files, since those of its units do, and so does an undefined step of its run.
use Rattle.std.proofs.Common.{◌≡◌, ℕ, true, refl, sym, subst, List, Some, None}
use Rattle.std.proofs.lemmas.List.Elements.{All-from_recursion}
use Rattle.std.specs.Prelude.{Option, IfSome, is_some}
use Rattle.std.specs.List.{AllByRecursion}
use Rattle.std.specs.Option.{option_map}
use Rattle.lay_base.specs.declared.place.Place.{Place}
use Rattle.c_tokens.specs.TokenPlaces.{TokensHavePlaces, IsPlaceOf}
use Rattle.c_facts.specs.Programs.{facts_of}
use Rattle.c_typed.specs.Mapped.{Renaming, mapped_statement}
use Rattle.c_typed.specs.Programs.{FunctionData, UnitData, ProgramData}
use Rattle.c_typed.specs.Trees as Typed
use Rattle.c_numbers.specs.NewNumbers.Parts.{function_in}
use Rattle.c_checking_laws.specs.TextOrder.TextOrder.{TextsAreInOrder}
use Rattle.c_grammar.proofs.FirstPlaces.{trees_begin_first}
use Rattle.c_link.specs.Joining.{joined, renaming, tables, function_identities, functions, is_function_defined}
use Rattle.c_link.proofs.JoinedRecords.{IsAmong}
use Rattle.c_link.specs.Gaps.{HasMain}
use Rattle.legality.specs.Breaches.{breach}
use Rattle.c_well_typed.proofs.GapPlaces.PlacesOfUnits.{ArePlaced, each_unit_placed as each_unit_stands}
use Rattle.c_well_typed.proofs.JoinedFunctions.{each_is, is_each}
use Rattle.c_well_typed.proofs.LookedUp.{of_unit as found_unit, unit_among}
use Rattle.c_undefined_places.specs.Laws.{ProgramsStandInFiles, UndefinedStepsStandInFiles}
use Rattle.c_undefined_places.specs.Verdicts.{IsPlacedFact, FactsStandInFiles, ViolationsStandInFiles}
use Rattle.c_undefined_places.specs.Placed.{IsPlacedStatement, IsPlacedFunction, FunctionsArePlaced}
use Rattle.c_undefined_places.proofs.Moved.{statement_again}
use Rattle.c_undefined_places.proofs.PlacedBreaches.{facts_placed, violations_placed}
use Rattle.c_undefined_places.proofs.PlacedMentions.{each_unit_told}
use Rattle.c_undefined_places.proofs.PlacedOutside.{FieldsArePlaced, fields_placed, mentions_placed}
use Rattle.c_undefined_places.proofs.PlacesOfUnits.{HasPlacedBody, AreFunctionsPlaced, each_unit_placed}
use Rattle.c_undefined_places.proofs.StandingCalls.{each_at, undefined_at}

module _ (Is : Place → Type 0) (units : List UnitData) (standing : AllByRecursion (ArePlaced Is) units)
    (placed : AllByRecursion (AreFunctionsPlaced Is) units) where
  again : (m : Renaming ℕ ℕ) (body : Option (Typed.Statement ℕ)) → IfSome body (IsPlacedStatement Is)
      → IfSome (option_map (mapped_statement m) body) (IsPlacedStatement Is)
  again m None h = tt
  again m (Some s) h = statement_again m Is s h

  one_placed : (g : FunctionData) → IsAmong g (functions units) → IsPlacedFunction Is g
  one_placed g i =
      let z = found_unit (λ (g : FunctionData). g.is_linked) (λ (g : FunctionData). g.name) (λ (u : UnitData). u.functions) is_function_defined
      (λ k u g. function_in (renaming (tables units) k u) g) function_identities (λ k n. refl) (λ k n x more. refl) units g i in
      let u = z.1 in
      let all = is_each (AreFunctionsPlaced Is) units placed u (unit_among 0 units (z.0, u) z.2) in
      let declared = is_each (ArePlaced Is) units standing u (unit_among 0 units (z.0, u) z.2) in
      let here = each_at (λ (g : FunctionData). Is g.place) u.functions declared.functions z.3 z.4 z.5 in
      subst (IsPlacedFunction Is) (sym z.6) (here, again (renaming (tables units) z.0 u) z.4.body (each_at (HasPlacedBody Is) u.functions all z.3 z.4 z.5))

  functions_placed : FunctionsArePlaced Is (joined units)
  functions_placed = All-from_recursion (IsPlacedFunction Is) (functions units) (each_is (IsPlacedFunction Is) (functions units) one_placed)

pub programs_stand : TokensHavePlaces → TextsAreInOrder → ProgramsStandInFiles
programs_stand places texts files p h =
    subst (FunctionsArePlaced (IsPlaceOf files)) (sym h.program.joined_units)
    (functions_placed (IsPlaceOf files) h.units (each_unit_stands places trees_begin_first texts files h.units h.of_files)
    (each_unit_placed places files h.units h.of_files))

pub facts_stand : TokensHavePlaces → TextsAreInOrder → FactsStandInFiles
facts_stand places texts files p h =
    All-from_recursion (IsPlacedFact (IsPlaceOf files)) (facts_of p) (facts_placed (IsPlaceOf files) p (programs_stand places texts files p h))

pub violations_stand : TokensHavePlaces → TextsAreInOrder → ViolationsStandInFiles
violations_stand places texts files p h number test place v =
    let units = each_unit_stands places trees_begin_first texts files h.units h.of_files in
    let told = each_unit_told places trees_begin_first texts files h.units h.of_files in
    let fields = subst (λ (p : ProgramData). AllByRecursion (FieldsArePlaced (IsPlaceOf files)) p.records) (sym h.program.joined_units)
    (fields_placed (IsPlaceOf files) h.units units) in
    let mentions = subst (λ (p : ProgramData). AllByRecursion (λ m. IsPlaceOf files m.place) p.mentions) (sym h.program.joined_units)
    (mentions_placed (IsPlaceOf files) h.units told) in
    violations_placed (IsPlaceOf files) p (programs_stand places texts files p h) mentions fields
    (breach number (record { test = test; place = place })) v

has_body : (body : Option (Typed.Statement ℕ)) → is_some body ≡ true → (s : Typed.Statement ℕ) × (body ≡ Some s)
has_body None h = cc
has_body (Some s) h = (s, refl)

pub undefined_steps_stand : TokensHavePlaces → TextsAreInOrder → UndefinedStepsStandInFiles
undefined_steps_stand places texts files p h input turns limited kind place output rest e =
    let main = subst HasMain (sym h.program.joined_units) h.program.complete.main in
    let body = has_body main.0.body main.2 in
    undefined_at (IsPlaceOf files) p (programs_stand places texts files p h) main.0 body.0 main.1 body.1 input turns limited kind place output rest e
