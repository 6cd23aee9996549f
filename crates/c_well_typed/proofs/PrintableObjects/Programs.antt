-- The program of some files can be said in C, but for its functions, since its units can.
use Rattle.std.proofs.Common.{◌≡◌, ◌∙◌, ℕ, suc, true, false, refl, sym, ap, subst, List, [], ◌∷◌, length}
use Rattle.std.proofs.lemmas.List.Elements.{recursion_from_All}
use Rattle.std.specs.Prelude.{All, Some, slice_get}
use Rattle.std.specs.List.{AllByRecursion}
use Rattle.std.specs.Option.{option_map}
use Rattle.lay_base.specs.declared.place.File.{File}
use Rattle.c_types.specs.Limits.{AreComplete}
use Rattle.c_types.specs.Types.{Field}
use Rattle.c_tokens.specs.TokenPlaces.{TokensHavePlaces}
use Rattle.c_ast.specs.Trees
use Rattle.c_ast.specs.TreesOfFiles.{IsTreeOf}
use Rattle.c_typed.specs.declared.program.Object.{Object}
use Rattle.c_typed.specs.Programs.{UnitData, ProgramData}
use Rattle.c_typed.specs.Typed.{type_in}
use Rattle.c_erasure.specs.Erasing.{ErasesTo}
use Rattle.c_erasure.proofs.MarkPlaces.Ordered.{marks_are_in_order}
use Rattle.c_checking_laws.specs.TextOrder.TextOrder.{TextsAreInOrder}
use Rattle.c_link.specs.Programs.{AreUnitsOf}
use Rattle.c_link.proofs.JoinedRecords.{IsAmong}
use Rattle.c_well_typed.specs.Laws.{UnitsHaveTypedFunctions}
use Rattle.c_well_typed.specs.WellTyped.{of_unit, HaveTypedFunctions}
use Rattle.c_well_typed.proofs.JoinedFunctions.{is_each}
use Rattle.c_well_typed.proofs.Programs.{each_unit}
use Rattle.c_well_typed.proofs.WellMade.{IsWellMade}
use Rattle.c_well_typed.specs.Printable.Declarable.{IsDeclarable}
use Rattle.c_well_typed.specs.Printable.Programs.{IsPrintableRecord, IsObject, IsPrintableObject, StandsOnce}
use Rattle.c_well_typed.specs.Printable.Laws.{HasPrintableTypes, HasPrintableObjects, HasLiteralsOnce}
use Rattle.c_well_typed.proofs.PrintableObjects.FullRecords.{records_full}
use Rattle.c_well_typed.proofs.PrintableObjects.JoinedLiterals.{literals_once_again}
use Rattle.c_well_typed.proofs.PrintableObjects.JoinedObjects.{objects_said_again}
use Rattle.c_well_typed.proofs.PrintableObjects.JoinedTypes.{IsMadeRecord, HasMadeTypes, types_said_again, records_said_again}
use Rattle.c_well_typed.proofs.PrintableObjects.MadeTypes.{types_all_made, fields_made}
use Rattle.c_well_typed.proofs.PrintableObjects.UnitLiterals.{literals_once}
use Rattle.c_well_typed.proofs.PrintableObjects.UnitObjects.{as_program, objects_said}

each : {A : Type 0} (P : A → Type 0) (xs : List A) → ((n : ℕ) (x : A) → slice_get xs n ≡ Some x → P x) → AllByRecursion P xs
each P [] h = tt
each P (x ∷ xs) h = (h 0 x refl, each P xs (λ n y e. h (suc n) y e))

module _ (places : TokensHavePlaces) where
  -- ---- units

  unit_types : (file : ℕ) (name bytes : List ℕ) (items : List Trees.Item) (u : UnitData) → IsTreeOf bytes items → ErasesTo file name bytes items u
      → HasMadeTypes u
  unit_types file name bytes items u tree e =
      let f = e.annotated in
      let beginnings = (marks_are_in_order places).beginnings bytes items f.untagged tree in
      subst HasMadeTypes (sym e.unit) (record {
        types = types_all_made bytes items f tree e.of_tree beginnings;
        records = each (IsMadeRecord (length f.records)) f.records (λ r rec q. (
          records_full f items tree.3.well_formed e.of_tree r rec q,
          each (λ (x : Field). IsWellMade (length f.records) x.ty) rec.fields
              (λ k x there. fields_made bytes items f tree e.of_tree beginnings r k x.ty (ap (λ o. type_in o k) q ∙ ap (option_map (λ (x : Field). x.ty)) there)),
        ));
      })

  unit_objects : (file : ℕ) (name bytes : List ℕ) (items : List Trees.Item) (u : UnitData) → IsTreeOf bytes items → ErasesTo file name bytes items u
      → All (IsPrintableObject (as_program u)) u.objects
  unit_objects file name bytes items u tree e =
      let f = e.annotated in
      let beginnings = (marks_are_in_order places).beginnings bytes items f.untagged tree in
      subst (λ (u : UnitData). All (IsPrintableObject (as_program u)) u.objects) (sym e.unit) (objects_said bytes items f tree e.of_tree beginnings)

  unit_literals : TextsAreInOrder → (file : ℕ) (name bytes : List ℕ) (items : List Trees.Item) (u : UnitData) → IsTreeOf bytes items
      → ErasesTo file name bytes items u → StandsOnce (as_program u)
  unit_literals texts file name bytes items u tree e =
      let f = e.annotated in
      let beginnings = (marks_are_in_order places).beginnings bytes items f.untagged tree in
      subst (λ (u : UnitData). StandsOnce (as_program u)) (sym e.unit)
      (literals_once bytes items f tree e.of_tree beginnings (texts.order bytes items f.untagged tree))

  -- ---- programs

  pub program_has_literals_once : TextsAreInOrder → (p : ProgramData) → HasLiteralsOnce p
  program_has_literals_once texts p files h =
      let said = each_unit (λ u. All (IsPrintableObject (as_program u)) u.objects)
      (λ number file u own. unit_objects number file.name file.bytes own.items u own.tree own.erases) 0 files h.units h.of_files in
      let once = each_unit (λ u. StandsOnce (as_program u))
      (λ number file u own. unit_literals texts number file.name file.bytes own.items u own.tree own.erases) 0 files h.units h.of_files in
      subst StandsOnce (sym h.program.joined_units) (literals_once_again h.units h.program.agree.once (λ u i o j t. alone u o t (own u o (said u i) j)) once)
    where
      own : (u : UnitData) (o : Object) → All (IsPrintableObject (as_program u)) u.objects → IsAmong o u.objects → IsPrintableObject (as_program u) o
      own u o all j = is_each (IsPrintableObject (as_program u)) u.objects (recursion_from_All (IsPrintableObject (as_program u)) u.objects all) o j

      alone : (u : UnitData) (o : Object) → o.text ≡ true → IsPrintableObject (as_program u) o → o.linked ≡ false
      alone u o t k = let l = subst (λ b. IsObject (as_program u) b o) t k in l.2

  module _ (functions : UnitsHaveTypedFunctions) where
    typed : (files : List File) (units : List UnitData) → AreUnitsOf 0 files units → (u : UnitData) → IsAmong u units → HaveTypedFunctions (of_unit u)
    typed files units of_files =
        each_unit (λ u. HaveTypedFunctions (of_unit u)) (λ number file u own. (functions number file.name file.bytes own.items u own.tree own.erases).0)
        0 files units of_files

    pub program_has_printable_types : (p : ProgramData) → AreComplete p.records → HasPrintableTypes p
    program_has_printable_types p complete files h =
        let e = h.program.joined_units in
        let whole = subst (λ (p : ProgramData). AreComplete p.records) e complete in
        let each = typed files h.units h.of_files in
        let made = each_unit HasMadeTypes (λ number file u own. unit_types number file.name file.bytes own.items u own.tree own.erases) 0 files h.units h.of_files in
        subst (λ (p : ProgramData). All (IsDeclarable (length p.records)) p.types × All (IsPrintableRecord p) p.records) (sym e)
        (types_said_again h.units h.program.agree whole each made, records_said_again h.units h.program.agree whole each made)

    pub program_has_printable_objects : (p : ProgramData) → AreComplete p.records → HasPrintableObjects p
    program_has_printable_objects p complete files h =
        let e = h.program.joined_units in
        let whole = subst (λ (p : ProgramData). AreComplete p.records) e complete in
        let said = each_unit (λ u. All (IsPrintableObject (as_program u)) u.objects)
        (λ number file u own. unit_objects number file.name file.bytes own.items u own.tree own.erases) 0 files h.units h.of_files in
        subst (λ (p : ProgramData). All (IsPrintableObject p) p.objects) (sym e)
        (objects_said_again h.units h.program.agree whole (typed files h.units h.of_files) said)
