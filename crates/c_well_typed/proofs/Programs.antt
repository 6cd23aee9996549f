-- A program of files has typed functions and objects, since its units have.
use Rattle.std.proofs.Common.{◌≡◌, ℕ, ◌+◌, ◌≤◌, sym, subst, List, [], ◌∷◌, length, inl, inr}
use Rattle.std.specs.Prelude.{◌⊎◌, All}
use Rattle.std.proofs.lemmas.List.Elements.{recursion_from_All, All-from_recursion}
use Rattle.std.specs.List.{AllByRecursion}
use Rattle.lay_base.specs.declared.place.File.{File}
use Rattle.c_types.specs.Limits.{AreComplete, AreSmall}
use Rattle.c_typed.specs.declared.program.Object.{Object}
use Rattle.c_typed.specs.Programs.{UnitData, ProgramData}
use Rattle.c_typed.specs.TypeNumbers.{type_at}
use Rattle.c_ast.specs.Trees
use Rattle.c_ast.specs.TreesOfFiles.{IsTreeOf}
use Rattle.c_erasure.specs.Erasing.{ErasesTo}
use Rattle.c_link.specs.Joining.{joined, objects}
use Rattle.c_checking_units.specs.TypeLimits.Limits.{HasSmallArrays, UnitsHaveSmallArrays}
use Rattle.c_link.specs.Programs.{AreUnitsOf, IsUnitOfFile}
use Rattle.c_link.proofs.JoinedRecords.{IsAmong}
use Rattle.c_well_typed.specs.Laws.{UnitsHaveTypedFunctions, UnitsAreWellTyped, ProgramHasTypedFunctions, ProgramHasTypedObjects, ProgramIsWellTyped}
use Rattle.c_well_typed.specs.Laws.{ProgramHasSmallArrays, UnitsHaveWholeElements}
use Rattle.c_well_typed.specs.WellTyped.{of_unit, of_program, AreInitials, HasObjectType, IsTypedObject, IsSmallType, HaveTypedFunctions}
use Rattle.c_well_typed.specs.WellTyped.{HaveWholeElements, IsWellTypedUnit, HasMain}
use Rattle.c_well_typed.specs.Within.{IsTextObject, ProgramHasTexts}
use Rattle.c_well_typed.proofs.JoinedFunctions.{program_typed, main_again}
use Rattle.c_well_typed.proofs.JoinedObjects.{objects_hold_again, texts_again}
use Rattle.c_well_typed.proofs.SmallArrays.{arrays_again}
use Rattle.c_well_typed.proofs.SmallTypes.{small_again}
use Rattle.c_well_typed.proofs.WholeUnits.{all_both}

-- what is known of the unit of each file
pub each_unit : (Q : UnitData → Type 0) → ((number : ℕ) (file : File) (u : UnitData) → IsUnitOfFile number file u → Q u) → (number : ℕ) (files : List File)
    (units : List UnitData) → AreUnitsOf number files units → (u : UnitData) → IsAmong u units → Q u
each_unit Q own number [] units h u i = absurd (subst (IsAmong u) h i)
each_unit Q own number (file ∷ more) units h u i =
    by_place (subst (IsAmong u) h.2 i) (each_unit Q own (number + 1) more h.1 h.4 u)
  where
    by_place : (u ≡ h.0) ⊎ IsAmong u h.1 → (IsAmong u h.1 → Q u) → Q u
    by_place (inl e) later = subst Q (sym e) (own number file h.0 h.3)
    by_place (inr j) later = later j

module _ (law : UnitsHaveTypedFunctions) where
  pub program_has_typed_functions : (p : ProgramData) → AreComplete p.records → AreSmall p.records → ProgramHasTypedFunctions p
  program_has_typed_functions p complete small files h =
      let e = h.program.joined_units in
      let whole = subst (λ (p : ProgramData). AreComplete p.records) e complete in
      let each = each_unit (λ u. HaveTypedFunctions (of_unit u)) (λ number file u own. (law number file.name file.bytes own.items u own.tree own.erases).0)
      0 files h.units h.of_files in
      let main = h.program.complete.main in
      subst (λ (p : ProgramData). HaveTypedFunctions (of_program p) × HasMain p) (sym e) (
        program_typed h.units h.program.agree whole each (subst (λ (p : ProgramData). AreSmall p.records) e small),
        main_again h.units h.program.agree whole each main.0 main.1 main.2,
      )

module _ (law : UnitsAreWellTyped) where
  -- the second half of what is said of each object
  held : (u : UnitData) (all : List Object) → AllByRecursion (IsTypedObject (of_unit u)) all
      → AllByRecursion (λ (o : Object). AreInitials (of_unit u) (type_at u.types o.ty) o.initial) all
  held u [] h = tt
  held u (o ∷ all) h = (h.0.1, held u all h.1)

  pub program_has_typed_objects : (p : ProgramData) → AreComplete p.records → AreSmall p.records → ProgramHasTypedObjects p
  program_has_typed_objects p complete small files h =
      let e = h.program.joined_units in
      let whole = subst (λ (p : ProgramData). AreComplete p.records) e complete in
      let well = each_unit IsWellTypedUnit (λ number file u own. law number file.name file.bytes own.items u own.tree own.erases) 0 files h.units h.of_files in
      let each : (u : UnitData) → IsAmong u h.units → HaveTypedFunctions (of_unit u) = λ u i. let w = well u i in w.functions in
      let values : (u : UnitData) → IsAmong u h.units → All (λ (o : Object). AreInitials (of_unit u) (type_at u.types o.ty) o.initial) u.objects =
      λ u i. let w = well u i in
      All-from_recursion (λ (o : Object). AreInitials (of_unit u) (type_at u.types o.ty) o.initial) u.objects
      (held u u.objects (recursion_from_All (IsTypedObject (of_unit u)) u.objects w.objects)) in
      let P = of_program (joined h.units) in
      let typed = program_typed h.units h.program.agree whole each (subst (λ (p : ProgramData). AreSmall p.records) e small) in
      subst (λ (p : ProgramData). All (IsTypedObject (of_program p)) p.objects) (sym e)
      (all_both (HasObjectType P) (λ (o : Object). AreInitials P (type_at P.types o.ty) o.initial) (objects h.units) typed.object_types
      (objects_hold_again h.units h.program.agree whole each values))

-- ---- a whole program

pub program_is_well_typed : UnitsHaveTypedFunctions → UnitsAreWellTyped → UnitsHaveWholeElements → (p : ProgramData) → AreComplete p.records → AreSmall p.records
    → ProgramIsWellTyped p
program_is_well_typed functions_law law elements_law p complete small files h =
    let e = h.program.joined_units in
    let whole = subst (λ (p : ProgramData). AreComplete p.records) e complete in
    let few = subst (λ (p : ProgramData). AreSmall p.records) e small in
    let well = each_unit IsWellTypedUnit (λ number file u own. law number file.name file.bytes own.items u own.tree own.erases) 0 files h.units h.of_files in
    let each : (u : UnitData) → IsAmong u h.units → HaveTypedFunctions (of_unit u) = λ u i. let w = well u i in w.functions in
    let smalls : (u : UnitData) → IsAmong u h.units → All (IsSmallType (of_unit u)) u.types = λ u i. let w = well u i in w.small_types in
    let elements = each_unit HaveWholeElements (λ number file u own. elements_law number file.name file.bytes own.items u own.tree own.erases) 0 files h.units h.of_files in
    let own = program_has_typed_functions functions_law p complete small files h in
    let types = subst (λ (p : ProgramData). All (IsSmallType (of_program p)) p.types) (sym e)
    (small_again h.units h.program.agree whole each few smalls elements) in
    record {
      lists = record { functions = own.0; small_types = types; objects = program_has_typed_objects law p complete small files h };
      main = own.1;
    }

-- ---- arrays inside of types

abbrev IsShort : File → Type 0
IsShort file = length file.bytes ≤ 4194304

small_arrays_in : UnitsHaveSmallArrays → (number : ℕ) (files : List File) (units : List UnitData) → AllByRecursion IsShort files
    → AreUnitsOf number files units → (u : UnitData) → IsAmong u units → All (HasSmallArrays u.records) u.types
small_arrays_in law number [] units l h u i = absurd (subst (IsAmong u) h i)
small_arrays_in law number (file ∷ more) units l h u i =
    by_place (subst (IsAmong u) h.2 i) (small_arrays_in law (number + 1) more h.1 l.1 h.4 u)
  where
    own : All (HasSmallArrays h.0.records) h.0.types
    own = let k : IsUnitOfFile number file h.0 = h.3 in law number file.name file.bytes k.items h.0 l.0 k.tree k.erases

    by_place : (u ≡ h.0) ⊎ IsAmong u h.1 → (IsAmong u h.1 → All (HasSmallArrays u.records) u.types) → All (HasSmallArrays u.records) u.types
    by_place (inl e) later = subst (λ (u : UnitData). All (HasSmallArrays u.records) u.types) (sym e) own
    by_place (inr j) later = later j

pub program_has_small_arrays : UnitsHaveTypedFunctions → UnitsHaveSmallArrays → (p : ProgramData) → AreComplete p.records → ProgramHasSmallArrays p
program_has_small_arrays functions_law law p complete files l h =
    let e = h.program.joined_units in
    let whole = subst (λ (p : ProgramData). AreComplete p.records) e complete in
    let each = each_unit (λ u. HaveTypedFunctions (of_unit u))
    (λ number file u own. (functions_law number file.name file.bytes own.items u own.tree own.erases).0) 0 files h.units h.of_files in
    let smalls = small_arrays_in law 0 files h.units (recursion_from_All IsShort files l) h.of_files in
    subst (λ (p : ProgramData). All (HasSmallArrays p.records) p.types) (sym e)
    (arrays_again h.units h.program.agree whole (λ u i. let t = each u i in t.records) smalls)

-- ---- the objects of literals

abbrev UnitsHaveTexts : Type 0
UnitsHaveTexts = (file : ℕ) (name bytes : List ℕ) (items : List Trees.Item) (u : UnitData) → IsTreeOf bytes items → ErasesTo file name bytes items u
    → All (IsTextObject (of_unit u)) u.objects

pub program_has_texts : UnitsHaveTexts → UnitsAreWellTyped → (p : ProgramData) → AreComplete p.records → ProgramHasTexts p
program_has_texts texts_law law p complete files h =
    let e = h.program.joined_units in
    let whole = subst (λ (p : ProgramData). AreComplete p.records) e complete in
    let well = each_unit IsWellTypedUnit (λ number file u own. law number file.name file.bytes own.items u own.tree own.erases) 0 files h.units h.of_files in
    let texts = each_unit (λ u. All (IsTextObject (of_unit u)) u.objects)
    (λ number file u own. texts_law number file.name file.bytes own.items u own.tree own.erases) 0 files h.units h.of_files in
    let each : (u : UnitData) → IsAmong u h.units → HaveTypedFunctions (of_unit u) = λ u i. let w = well u i in w.functions in
    let values : (u : UnitData) → IsAmong u h.units → All (λ (o : Object). AreInitials (of_unit u) (type_at u.types o.ty) o.initial) u.objects =
    λ u i. let w = well u i in
    All-from_recursion (λ (o : Object). AreInitials (of_unit u) (type_at u.types o.ty) o.initial) u.objects
    (held law u u.objects (recursion_from_All (IsTypedObject (of_unit u)) u.objects w.objects)) in
    subst (λ (p : ProgramData). All (IsTextObject (of_program p)) p.objects) (sym e) (texts_again h.units h.program.agree whole each values texts)
