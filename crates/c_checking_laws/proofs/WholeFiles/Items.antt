-- The items of a file: what they add to the file, and that each stands in the whole file (C99 6.9).
use Rattle.std.proofs.Common.{◌≡◌, ℕ, ◌+◌, ◌<◌, refl, sym, ◌∙◌, subst, List, [], ◌∷◌, ◌++◌, length}
use Rattle.std.proofs.Common.{append_assoc}
use Rattle.std.proofs.lemmas.List.Elements.{All-cons, All-nil}
use Rattle.std.specs.Prelude.{All, Some, Ok, slice_get}
use Rattle.c_ast.specs.Trees
use Rattle.c_ast.specs.Places.{first_declarator}
use Rattle.c_ast.specs.Sizes.{size_item}
use Rattle.c_ast.specs.WellFormed.{IsItem, AreItems, types_after}
use Rattle.c_erasure.specs.Files.{ErasesItem}
use Rattle.c_erasure.specs.Literals.{made_by_file_item, made_by_file}
use Rattle.c_erasure.specs.Marks.{Mark, a_name, marks_of_specifiers, marks_of_declarator, marks_of_item, marks_of_file, ends_in}
use Rattle.c_erasure.specs.Marks.{scope_beginnings}
use Rattle.c_erasure.specs.MentionPlaces.{spoken_of_specifiers, spoken_of_declarator, spoken_by_items, mentions_of_item, mentions_of_file}
use Rattle.c_erasure.specs.Scopes.{FileScope, Bound, AnObject, AFunction, at_file_scope}
use Rattle.c_erasure.specs.Checking.Files.{item_nodes, filed_item, filed}
use Rattle.c_checking_laws.proofs.Agreement as Agreement
use Rattle.c_checking_laws.proofs.Agreement.{Ready}
use Rattle.c_checking_laws.proofs.InRange.{AreSpecifiersInRange, IsDeclaratorInRange}
use Rattle.c_checking_laws.proofs.Results.{bound_ok, given}
use Rattle.c_checking_laws.proofs.WholeFiles.StatementLaws.{AreItemsInRange}
use Rattle.c_checking_laws.specs.TextOrder.TextOrder.{Rising, places_of_item, names_of_item, names_of_file}
use Rattle.c_checking_laws.proofs.WholeFiles.Known.{IsKnown, none_new}
use Rattle.c_checking_laws.proofs.WholeFiles.Rises.{passed, below_then, part_of, rising_front}
use Rattle.c_checking_laws.proofs.WholeFiles.Stepping.{Stepped, stepped_then, no_step, counted_by, ready_behind}
use Rattle.c_checking_laws.proofs.WholeFiles.DeclarationItems.{AreDeclaratorsFit, declaration_step}
use Rattle.c_checking_laws.proofs.WholeFiles.DefinitionItems.{definition_step}

abbrev many : List Mark → ℕ
many u = length (ends_in u)

-- the places of items, one after the other
abbrev pub places_in : List Trees.Item → List ℕ
places_in [] = []
places_in (item ∷ more) = places_of_item item ++ places_in more

module _ (untagged : ℕ → List ℕ) where
  -- the literals of an item are in range, and its initializers ask for records in time, where so many end before it
  abbrev pub IsItemFit : (ends : List ℕ) → ℕ → Trees.Item → Type 0
  IsItemFit ends n (Trees.defines specs d left items right) = AreSpecifiersInRange specs × IsDeclaratorInRange d
      × AreItemsInRange ends (n + length (ends_in (marks_of_specifiers untagged specs)) + length (ends_in (marks_of_declarator untagged d))) items
  IsItemFit ends n (Trees.declaration d) = AreSpecifiersInRange d.specs
      × AreDeclaratorsFit untagged ends (n + length (ends_in (marks_of_specifiers untagged d.specs))) d.all

  abbrev pub AreItemsFit : (ends : List ℕ) → ℕ → List Trees.Item → Type 0
  AreItemsFit ends n [] = Unit {0}
  AreItemsFit ends n (item ∷ more) = IsItemFit ends n item × AreItemsFit ends (n + length (ends_in (marks_of_item untagged item))) more

-- nodes are counted by the places of items
abbrev pub AreCounted : (nodes_at : ℕ → ℕ) → List Trees.Item → Type 0
AreCounted nodes_at [] = Unit {0}
AreCounted nodes_at (item ∷ more) = ((k p : ℕ) → slice_get (places_of_item item) k ≡ Some p → (size_item item).nodes ≡ nodes_at p) × AreCounted nodes_at more

module _ (untagged : ℕ → List ℕ) (nodes_at : ℕ → ℕ) where
  -- what is asked of the file and an item
  pub record MayFile (types : List (List ℕ)) (f : FileScope) (item : Trees.Item) (at in_scope : ℕ) : Type 0 where
    pub same : f.untagged ≡ untagged
    pub formed : IsItem types item
    pub fit : IsItemFit untagged f.ends (length f.records) item
    pub ready : Ready (at_file_scope f) (marks_of_item untagged item)
    pub counted : (k p : ℕ) → slice_get (places_of_item item) k ≡ Some p → (size_item item).nodes ≡ nodes_at p
    pub places : Rising at (places_of_item item)
    pub objects_before : (n : ℕ) (o : AnObject) → slice_get f.objects n ≡ Some o → o.first < at
    pub functions_before : (n : ℕ) (g : AFunction) → slice_get f.functions n ≡ Some g → g.first < at
    pub names : Rising in_scope (names_of_item untagged item)
    pub begun : (k : ℕ) (b : Bound) → slice_get f.names k ≡ Some b → b.from < in_scope

  -- what an item does
  pub record IsFiled (f : FileScope) (item : Trees.Item) (g : FileScope) : Type 0 where
    pub step : Stepped nodes_at (marks_of_item untagged item) (mentions_of_item item) (places_of_item item) (made_by_file_item item) f
        (λ h. ErasesItem h item) g

  pub item_filed : (types : List (List ℕ)) (before : List ℕ) (item : Trees.Item) (f : FileScope) (at in_scope : ℕ) → MayFile types f item at in_scope
      → IsKnown nodes_at before none_new none_new f → (g : FileScope) → filed_item item f ≡ Ok g → IsFiled f item g
  unfolding filed_item
  item_filed types before (Trees.declaration d) f at in_scope may k g h = record {
    step = declaration_step untagged types nodes_at before d f (item_nodes (Trees.declaration d)) at in_scope (record {
      same = may.same;
      formed = may.formed;
      specifiers_in_range = may.fit.0;
      fit = may.fit.1;
      ready = may.ready;
      counted = may.counted;
      places = may.places;
      objects_before = may.objects_before;
      functions_before = may.functions_before;
      names = may.names;
      begun = may.begun;
    }) k g h;
  }
  item_filed types before (Trees.defines specs d left items right) f at in_scope may k g h =
      let u = marks_of_specifiers untagged specs in
      let w = marks_of_declarator untagged d in
      let item = Trees.defines specs d left items right in
      let whole = append_assoc u w (a_name left ∷ []) in
      let said = append_assoc (spoken_of_specifiers specs) (first_declarator d left ∷ spoken_of_declarator d) (spoken_by_items items) in
      let s = definition_step untagged types nodes_at before specs d left items (item_nodes item) at in_scope f (record {
        same = may.same;
        specifiers_formed = may.formed.0;
        formed = may.formed.1;
        specifiers_in_range = may.fit.0;
        in_range = may.fit.1;
        items_in_range = may.fit.2;
        ready = subst (Ready (at_file_scope f)) whole may.ready;
        counted = may.counted 0 (first_declarator d left) refl;
        place = may.places.0;
        objects_before = may.objects_before;
        functions_before = may.functions_before;
        in_order = may.names;
        begun = may.begun;
      }) k g h in
      record {
        step = subst (λ m. Stepped nodes_at m (mentions_of_item item) (places_of_item item) (made_by_file_item item) f (λ h. ErasesItem h item) g) (sym whole)
            (subst (λ y. Stepped nodes_at (u ++ (w ++ a_name left ∷ [])) y (places_of_item item) (made_by_file_item item) f (λ h. ErasesItem h item) g)
            (sym said) s);
      }

  -- ---- all items

  pub record MayFileAll (types : List (List ℕ)) (f : FileScope) (items : List Trees.Item) (at in_scope : ℕ) : Type 0 where
    pub same : f.untagged ≡ untagged
    pub formed : AreItems types items
    pub fit : AreItemsFit untagged f.ends (length f.records) items
    pub ready : Ready (at_file_scope f) (marks_of_file untagged items)
    pub counted : AreCounted nodes_at items
    pub places : Rising at (places_in items)
    pub objects_before : (n : ℕ) (o : AnObject) → slice_get f.objects n ≡ Some o → o.first < at
    pub functions_before : (n : ℕ) (g : AFunction) → slice_get f.functions n ≡ Some g → g.first < at
    pub names : Rising in_scope (names_of_file untagged items)
    pub begun : (k : ℕ) (b : Bound) → slice_get f.names k ≡ Some b → b.from < in_scope

  pub record AreFiled (f : FileScope) (items : List Trees.Item) (g : FileScope) : Type 0 where
    pub step : Stepped nodes_at (marks_of_file untagged items) (mentions_of_file items) (places_in items) (made_by_file items) f
        (λ h. All (ErasesItem h) items) g

  pub first_may : (types : List (List ℕ)) (f : FileScope) (item : Trees.Item) (more : List Trees.Item) (at in_scope : ℕ)
      → MayFileAll types f (item ∷ more) at in_scope → MayFile types f item at in_scope
  first_may types f item more at in_scope may = record {
    same = may.same;
    formed = may.formed.0;
    fit = may.fit.0;
    ready = Agreement.left (marks_of_item untagged item) (marks_of_file untagged more) may.ready;
    counted = may.counted.0;
    places = rising_front at (places_of_item item) (places_in more) may.places;
    objects_before = may.objects_before;
    functions_before = may.functions_before;
    names = rising_front in_scope (names_of_item untagged item) (names_of_file untagged more) may.names;
    begun = may.begun;
  }

  -- the beginnings of an item's scopes are among its names
  beginnings_below : (item : Trees.Item) (to : ℕ) → ((k p : ℕ) → slice_get (names_of_item untagged item) k ≡ Some p → p < to) → (k p : ℕ)
      → slice_get (scope_beginnings (marks_of_item untagged item)) k ≡ Some p → p < to
  beginnings_below item to h k p e = let m = Rattle.c_checking_laws.proofs.WholeFiles.Beginnings.beginning_is_name untagged item k p e in h m.0 p m.1

  pub others_may : (types : List (List ℕ)) (before : List ℕ) (f : FileScope) (item : Trees.Item) (more : List Trees.Item) (at in_scope : ℕ)
      → MayFileAll types f (item ∷ more) at in_scope → (g : FileScope) → IsFiled f item g → IsKnown nodes_at before none_new none_new f
      → (at : ℕ) × (in_scope : ℕ) × MayFileAll (types_after types item) g more at in_scope
  others_may types before f item more at in_scope may g filed k =
      let s = filed.step in
      let u = marks_of_item untagged item in
      let p = passed at (places_of_item item) (places_in more) may.places in
      let q = passed in_scope (names_of_item untagged item) (names_of_file untagged more) may.names in
      let same_ends = s.continues.extends.ends in
      let counts : length g.records ≡ length f.records + many u = counted_by u f g s.records in (
        p.to,
        q.to,
        record {
          same = s.continues.extends.untagged ∙ may.same;
          formed = may.formed.1;
          fit = subst (λ n. AreItemsFit untagged g.ends n more) (sym counts)
              (subst (λ ends. AreItemsFit untagged ends (length f.records + many u) more) (sym same_ends) may.fit.1);
          ready = ready_behind f g u (marks_of_file untagged more) may.ready same_ends counts (s.known before k).fits;
          counted = may.counted.1;
          places = p.rest;
          objects_before = below_then (λ o. o.first) f.objects g.objects s.objects at p.to s.objects_are p.later may.objects_before
              (λ k r e. let m = part_of (places_of_item item) s.objects s.others s.objects_parted k r e in p.below m.0 r m.1);
          functions_before = below_then (λ o. o.first) f.functions g.functions s.functions at p.to s.functions_are p.later may.functions_before
              (λ k r e. let m = part_of (places_of_item item) s.functions s.no_functions s.functions_parted k r e in p.below m.0 r m.1);
          names = q.rest;
          begun = below_then (λ b. b.from) f.names g.names (scope_beginnings u) in_scope q.to s.names q.later may.begun (beginnings_below item q.to q.below);
        },
      )

  none_filed : (f g : FileScope) → filed [] f ≡ Ok g → AreFiled f [] g
  unfolding filed
  none_filed f g h = given (AreFiled f []) f g h (record { step = no_step nodes_at f (λ h. All (ErasesItem h) []) (λ h c. All-nil (ErasesItem h)) })

  abbrev MayGoOn : List (List ℕ) → List Trees.Item → FileScope → FileScope → Type 0
  MayGoOn types more m g = (before : List ℕ) (at in_scope : ℕ) → MayFileAll types m more at in_scope → IsKnown nodes_at before none_new none_new m
      → AreFiled m more g

  one_filed : (types : List (List ℕ)) (before : List ℕ) (item : Trees.Item) (more : List Trees.Item) (f : FileScope) (at in_scope : ℕ)
      → MayFileAll types f (item ∷ more) at in_scope → IsKnown nodes_at before none_new none_new f → (m : FileScope) → filed_item item f ≡ Ok m
      → (g : FileScope) → MayGoOn (types_after types item) more m g → AreFiled f (item ∷ more) g
  one_filed types before item more f at in_scope may k m h g later =
      let s = item_filed types before item f at in_scope (first_may types f item more at in_scope may) k m h in
      let o = others_may types before f item more at in_scope may m s k in
      let t = (later (before ++ made_by_file_item item) o.0 o.1 o.2 (s.step.known before k)).step in
      record { step = stepped_then nodes_at f m g s.step t (λ i c e a b. All-cons (ErasesItem i) item more a b) }

  pub split : (item : Trees.Item) (more : List Trees.Item) (f g : FileScope) → filed (item ∷ more) f ≡ Ok g
      → (m : FileScope) × (filed_item item f ≡ Ok m) × (filed more m ≡ Ok g)
  unfolding filed
  split item more f g h = bound_ok (filed_item item f) _ g h

  pub all_filed : (items : List Trees.Item) (types : List (List ℕ)) (before : List ℕ) (f : FileScope) (at in_scope : ℕ)
      → MayFileAll types f items at in_scope → IsKnown nodes_at before none_new none_new f → (g : FileScope) → filed items f ≡ Ok g → AreFiled f items g
  all_filed [] types before f at in_scope may k g h = none_filed f g h
  all_filed (item ∷ more) types before f at in_scope may k g h =
      let m = split item more f g h in
      one_filed types before item more f at in_scope may k m.0 m.1 g
      (λ before at in_scope may k. all_filed more (types_after types item) before m.0 at in_scope may k g m.2)
