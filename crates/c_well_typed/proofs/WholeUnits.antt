-- The unit of a file is well typed: its functions are, and what its objects hold at first.
use Rattle.std.proofs.Common.{◌≡◌, ℕ, sym, subst, List, [], ◌∷◌, length}
use Rattle.std.proofs.lemmas.List.Elements.{recursion_from_All, All-from_recursion}
use Rattle.std.specs.Prelude.{All, Some, slice_get}
use Rattle.std.specs.List.{AllByRecursion}
use Rattle.c_tokens.specs.TokenPlaces.{TokensHavePlaces}
use Rattle.c_ast.specs.Laws.{TreesBeginFirst}
use Rattle.c_ast.specs.Spelling.{spell}
use Rattle.c_ast.specs.Trees
use Rattle.c_ast.specs.TreesOfFiles.{IsTreeOf}
use Rattle.c_typed.specs.declared.program.Object.{Object}
use Rattle.c_typed.specs.Programs.{UnitData}
use Rattle.c_typed.specs.TypeNumbers.{type_at}
use Rattle.c_erasure.specs.Erasing.{ErasesTo}
use Rattle.c_erasure.specs.Files.{AreAscending, IsFileOf}
use Rattle.c_erasure.specs.Marks.{marks_of_file, scope_beginnings}
use Rattle.c_erasure.specs.Scopes.{AnObject, FileScope}
use Rattle.c_erasure.proofs.MarkPlaces.Ordered.{marks_are_in_order}
use Rattle.c_checking_laws.specs.TextOrder.TextOrder.{TextsAreInOrder}
use Rattle.c_well_typed.specs.Laws.{UnitsAreWellTyped}
use Rattle.c_well_typed.specs.WellTyped.{of_unit, AreInitials, HasObjectType}
use Rattle.c_well_typed.specs.Within.{IsTextObject}
use Rattle.c_well_typed.proofs.FileObjects.{objects_known}
use Rattle.c_well_typed.proofs.LiteralObjects.{Holds, IsTextual, any_good}
use Rattle.c_well_typed.proofs.TokenBytes.{AreOfBytes, Anywhere, tree_of_bytes}
use Rattle.c_well_typed.proofs.UnitFunctions.{records_ended, units_have_typed_functions}
use Rattle.c_well_typed.proofs.UnitObjects.{initials_all, texts_all}

both_each : {A : Type 0} (P Q : A → Type 0) (xs : List A) → AllByRecursion P xs → AllByRecursion Q xs → AllByRecursion (λ x. P x × Q x) xs
both_each P Q [] h k = tt
both_each P Q (x ∷ xs) h k = ((h.0, k.0), both_each P Q xs h.1 k.1)

-- of each both hold
pub all_both : {A : Type 0} (P Q : A → Type 0) (xs : List A) → All P xs → All Q xs → All (λ x. P x × Q x) xs
all_both P Q xs h k = All-from_recursion (λ x. P x × Q x) xs (both_each P Q xs (recursion_from_All P xs h) (recursion_from_All Q xs k))

-- what is known of the objects of a file, wherever its tokens stand
hold_bytes : (items : List Trees.Item) (f : FileScope) → IsFileOf items f → AreAscending (scope_beginnings (marks_of_file f.untagged items))
    → AreOfBytes Anywhere (spell items) → (n : ℕ) (o : AnObject) → slice_get f.objects n ≡ Some o → Holds o × IsTextual o
hold_bytes items f h beginnings b n o e =
    let k = objects_known f (length f.records) (records_ended items f h beginnings) (any_good f) items b h beginnings n o e in (k.0, k.1)

module _ (places : TokensHavePlaces) (first : TreesBeginFirst) (texts : TextsAreInOrder) where
  pub units_are_well_typed : UnitsAreWellTyped
  units_are_well_typed file name bytes items u tree e =
      let f = e.annotated in
      let beginnings = (marks_are_in_order places).beginnings bytes items f.untagged tree in
      let own = units_have_typed_functions places first texts file name bytes items u tree e in
      let hold = hold_bytes items f e.of_tree beginnings (tree_of_bytes bytes items tree) in
      let values = subst (λ (u : UnitData). All (λ o. AreInitials (of_unit u) (type_at u.types o.ty) o.initial) u.objects) (sym e.unit)
      (initials_all items f e.of_tree beginnings hold) in
      let types = own.0 in
      record {
        functions = own.0;
        small_types = own.1;
        objects = all_both (HasObjectType (of_unit u)) (λ (o : Object). AreInitials (of_unit u) (type_at u.types o.ty) o.initial) u.objects types.object_types values;
      }

  -- the objects of its literals are arrays of characters
  pub units_have_texts : (file : ℕ) (name bytes : List ℕ) (items : List Trees.Item) (u : UnitData) → IsTreeOf bytes items
      → ErasesTo file name bytes items u → All (IsTextObject (of_unit u)) u.objects
  units_have_texts file name bytes items u tree e =
      let f = e.annotated in
      let beginnings = (marks_are_in_order places).beginnings bytes items f.untagged tree in
      let hold = hold_bytes items f e.of_tree beginnings (tree_of_bytes bytes items tree) in
      subst (λ (u : UnitData). All (IsTextObject (of_unit u)) u.objects) (sym e.unit) (texts_all items f e.of_tree beginnings hold)
