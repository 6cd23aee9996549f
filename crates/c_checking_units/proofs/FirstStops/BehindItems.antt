-- What is asked of an item where it stops holds behind the items before it.
use Rattle.std.proofs.Common.{◌≡◌, ℕ, ◌+◌, false, refl, sym, subst, List, [], ◌∷◌, ◌++◌, length, arith}
use Rattle.std.proofs.Common.{append_assoc}
use Rattle.std.proofs.lemmas.List.Elements.{All-cons, All-nil}
use Rattle.std.specs.Prelude.{All, Ok}
use Rattle.c_ast.specs.Trees
use Rattle.c_ast.specs.Places.{first_declarator}
use Rattle.c_ast.specs.WellFormed.{types_after}
use Rattle.c_erasure.specs.Files.{ErasesItem}
use Rattle.c_erasure.specs.Literals.{made_by_items, made_by_file_item}
use Rattle.c_erasure.specs.Marks.{a_name, marks_of_specifiers, marks_of_declarator, marks_of_item, marks_of_file}
use Rattle.c_erasure.specs.Scopes.{FileScope, at_file_scope}
use Rattle.c_erasure.specs.Checking.Files.{item_nodes, filed_item, filed}
use Rattle.c_checking_laws.proofs.Agreement.{Ready}
use Rattle.c_checking_laws.proofs.FaultPremises.{IsPrepared, left, right}
use Rattle.c_checking_laws.proofs.Results.{given}
use Rattle.c_checking_laws.proofs.WholeFiles.Known.{IsKnown, none_new}
use Rattle.c_checking_laws.proofs.WholeFiles.Items.{MayFile, MayFileAll, IsFiled, AreFiled, item_filed, first_may, others_may, split}
use Rattle.c_checking_laws.proofs.WholeFiles.Stepping.{stepped_then, no_step, counted_by}
use Rattle.c_checking_units.proofs.FirstStops.Behind.{grown_by}
use Rattle.c_checking_units.proofs.FirstStops.DeclaratorsStop.{fresh_rising}
use Rattle.c_checking_units.proofs.FirstStops.DefinitionStops.{MayStopIn}
use Rattle.c_checking_units.proofs.FirstStops.FileDeclarations.{MayStopDeclaration}
use Rattle.c_checking_units.proofs.FirstStops.ItemStops.{MayStopItem}
use Rattle.c_checking_units.proofs.FirstStops.OwnItems.{item_own}
use Rattle.c_checking_units.proofs.FirstStops.Tests.{AreOwnFunctions}
use Rattle.c_checking_units.proofs.FirstStops.DeclaratorsInTime.{name_of}
use Rattle.c_checking_units.proofs.FirstStops.ItemsInTime.{IsItemTimely, AreAllTimely}

module _ (untagged : ℕ → List ℕ) (nodes_at : ℕ → ℕ) (ends : List ℕ) where
  -- what is asked of the file and of the items that are left
  pub record MayStopFile (types : List (List ℕ)) (f : FileScope) (items : List Trees.Item) (at in_scope : ℕ) : Type 0 where
    pub may : MayFileAll untagged nodes_at types f items at in_scope
    pub prepared : IsPrepared untagged ends f [] [] false (marks_of_file untagged items)
    pub timely : AreAllTimely untagged nodes_at ends types (length f.records) items
    pub own_functions : AreOwnFunctions f.names

  declaration_may : (types : List (List ℕ)) (f : FileScope) (d : Trees.Declaration) (at in_scope : ℕ)
      → MayFile untagged nodes_at types f (Trees.declaration d) at in_scope
      → IsPrepared untagged ends f [] [] false (marks_of_item untagged (Trees.declaration d))
      → IsItemTimely untagged nodes_at ends types (length f.records) (Trees.declaration d) → AreOwnFunctions f.names
      → MayStopDeclaration untagged types nodes_at ends f d (item_nodes (Trees.declaration d)) at in_scope
  declaration_may types f d at in_scope may prepared timely own = record {
    may = record {
      same = may.same;
      formed = may.formed;
      specifiers_in_range = may.fit.0;
      fit = may.fit.1;
      ready = may.ready;
      counted = may.counted;
      places = may.places;
      objects_before = may.objects_before;
      functions_before = may.functions_before;
      names = may.names;
      begun = may.begun;
    };
    prepared = prepared;
    specifiers_timely = timely.0;
    timely = timely.1;
    own_functions = own;
  }

  definition_may : (types : List (List ℕ)) (f : FileScope) (specs : Trees.Specifiers) (d : Trees.Declarator) (left_at : ℕ) (items : Trees.BlockItems)
      (right_at : ℕ) (at in_scope : ℕ) → MayFile untagged nodes_at types f (Trees.defines specs d left_at items right_at) at in_scope
      → IsPrepared untagged ends f [] [] false (marks_of_item untagged (Trees.defines specs d left_at items right_at))
      → IsItemTimely untagged nodes_at ends types (length f.records) (Trees.defines specs d left_at items right_at)
      → MayStopIn untagged types nodes_at ends f specs d left_at items (item_nodes (Trees.defines specs d left_at items right_at)) at in_scope
  definition_may types f specs d left_at items right_at at in_scope may prepared timely =
      let u = marks_of_specifiers untagged specs in
      let w = marks_of_declarator untagged d in
      let whole = append_assoc u w (a_name left_at ∷ []) in
      record {
        may = record {
          same = may.same;
          specifiers_formed = may.formed.0;
          formed = may.formed.1;
          specifiers_in_range = may.fit.0;
          in_range = may.fit.1;
          items_in_range = may.fit.2;
          ready = subst (Ready (at_file_scope f)) whole may.ready;
          counted = may.counted 0 (first_declarator d left_at) refl;
          place = may.places.0;
          objects_before = may.objects_before;
          functions_before = may.functions_before;
          in_order = may.names;
          begun = may.begun;
        };
        prepared = subst (IsPrepared untagged ends f [] [] false) whole prepared;
        specifiers_timely = timely.0;
        timely = timely.1;
        items_timely = timely.2;
        fresh = fresh_rising f (first_declarator d left_at + 1) (made_by_items items) may.places.1
            (λ n o e. let b = may.objects_before n o e in let p = may.places.0 in omega (arith, b, p));
      }

  -- of the first one
  pub item_may : (types : List (List ℕ)) (f : FileScope) (item : Trees.Item) (more : List Trees.Item) (at in_scope : ℕ)
      → MayStopFile types f (item ∷ more) at in_scope → MayStopItem untagged types nodes_at ends f item at in_scope
  item_may types f (Trees.declaration d) more at in_scope may =
      declaration_may types f d at in_scope (first_may untagged nodes_at types f (Trees.declaration d) more at in_scope may.may)
      (left untagged ends (marks_of_item untagged (Trees.declaration d)) (marks_of_file untagged more) may.prepared) may.timely.0 may.own_functions
  item_may types f (Trees.defines specs d left_at items right_at) more at in_scope may =
      let item = Trees.defines specs d left_at items right_at in (
        name_of d may.may.formed.0.2,
        definition_may types f specs d left_at items right_at at in_scope (first_may untagged nodes_at types f item more at in_scope may.may)
            (left untagged ends (marks_of_item untagged item) (marks_of_file untagged more) may.prepared) may.timely.0,
      )

  -- of those behind it
  rest_may : (types : List (List ℕ)) (made : List ℕ) (f : FileScope) (item : Trees.Item) (more : List Trees.Item) (at in_scope : ℕ)
      → MayStopFile types f (item ∷ more) at in_scope → IsKnown nodes_at made none_new none_new f → (g : FileScope) → filed_item item f ≡ Ok g
      → IsFiled untagged nodes_at f item g → (at : ℕ) × (in_scope : ℕ) × MayStopFile (types_after types item) g more at in_scope
  rest_may types made f item more at in_scope may k g h s =
      let u = marks_of_item untagged item in
      let o = others_may untagged nodes_at types made f item more at in_scope may.may g s k in
      let grown = grown_by nodes_at (made ++ made_by_file_item item) none_new none_new f g u s.step.continues.extends s.step.records s.step.names
      (s.step.known made k) in (
        o.0,
        o.1,
        record {
          may = o.2;
          prepared = right untagged ends u (marks_of_file untagged more) may.prepared grown;
          timely = subst (λ n. AreAllTimely untagged nodes_at ends (types_after types item) n more) (sym (counted_by u f g s.step.records)) may.timely.1;
          own_functions = item_own untagged types nodes_at ends made item f at in_scope (item_may types f item more at in_scope may) k may.own_functions g h;
        },
      )

  -- ---- behind several items

  pub record IsBehind (f : FileScope) (before rest : List Trees.Item) (g : FileScope) : Type 0 where
    pub types : List (List ℕ)
    pub made : List ℕ
    pub at : ℕ
    pub in_scope : ℕ
    pub may : MayStopFile types g rest at in_scope
    pub known : IsKnown nodes_at made none_new none_new g
    pub read : AreFiled untagged nodes_at f before g

  abbrev GoesOn : List Trees.Item → List Trees.Item → List (List ℕ) → FileScope → FileScope → Type 0
  GoesOn more rest types m g = (made : List ℕ) (at in_scope : ℕ) → MayStopFile types m (more ++ rest) at in_scope → IsKnown nodes_at made none_new none_new m
      → IsBehind m more rest g

  behind_none : (rest : List Trees.Item) (types : List (List ℕ)) (made : List ℕ) (f : FileScope) (at in_scope : ℕ) → MayStopFile types f rest at in_scope
      → IsKnown nodes_at made none_new none_new f → (g : FileScope) → filed [] f ≡ Ok g → IsBehind f [] rest g
  unfolding filed
  behind_none rest types made f at in_scope may k g h = given (IsBehind f [] rest) f g h (record {
    types = types;
    made = made;
    at = at;
    in_scope = in_scope;
    may = may;
    known = k;
    read = record { step = no_step nodes_at f (λ h. All (ErasesItem h) []) (λ h c. All-nil (ErasesItem h)) };
  })

  behind_one : (item : Trees.Item) (more rest : List Trees.Item) (types : List (List ℕ)) (made : List ℕ) (f : FileScope) (at in_scope : ℕ)
      → MayStopFile types f (item ∷ (more ++ rest)) at in_scope → IsKnown nodes_at made none_new none_new f → (m : FileScope)
      → filed_item item f ≡ Ok m → (g : FileScope) → GoesOn more rest (types_after types item) m g → IsBehind f (item ∷ more) rest g
  behind_one item more rest types made f at in_scope may k m h g later =
      let s = item_filed untagged nodes_at types made item f at in_scope
      (first_may untagged nodes_at types f item (more ++ rest) at in_scope may.may) k m h in
      let o = rest_may types made f item (more ++ rest) at in_scope may k m h s in
      let b = later (made ++ made_by_file_item item) o.0 o.1 o.2 (s.step.known made k) in
      record {
        types = b.types;
        made = b.made;
        at = b.at;
        in_scope = b.in_scope;
        may = b.may;
        known = b.known;
        read = record { step = stepped_then nodes_at f m g s.step b.read.step (λ i c e a b. All-cons (ErasesItem i) item more a b) };
      }

  pub behind_items : (before rest : List Trees.Item) (types : List (List ℕ)) (made : List ℕ) (f : FileScope) (at in_scope : ℕ)
      → MayStopFile types f (before ++ rest) at in_scope → IsKnown nodes_at made none_new none_new f → (g : FileScope) → filed before f ≡ Ok g
      → IsBehind f before rest g
  behind_items [] rest types made f at in_scope may k g h = behind_none rest types made f at in_scope may k g h
  behind_items (item ∷ more) rest types made f at in_scope may k g h =
      let m = split untagged nodes_at item more f g h in
      behind_one item more rest types made f at in_scope may k m.0 m.1 g
      (λ made at in_scope may k. behind_items more rest (types_after types item) made m.0 at in_scope may k g m.2)
