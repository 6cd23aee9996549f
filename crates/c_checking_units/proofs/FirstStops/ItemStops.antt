-- Where an item of a file stops, a rule is broken; and where a file stops, one of its items does (C99 6.9).
use Rattle.std.proofs.Common.{◌≡◌, ℕ, refl, sym, ap, ◌∙◌, subst, List, [], ◌∷◌, ◌++◌, append_assoc}
use Rattle.std.specs.Prelude.{Some, Ok, Err}
use Rattle.c_ast.specs.declared.words.Spelling.{Spelling}
use Rattle.c_ast.specs.Trees
use Rattle.c_ast.specs.Places.{first_declarator}
use Rattle.c_erasure.specs.Broken.{Fault}
use Rattle.c_erasure.specs.BrokenFiles.{IsBrokenDefinition}
use Rattle.c_erasure.specs.Declarators.{declared_name}
use Rattle.c_erasure.specs.Literals.{made_by_items}
use Rattle.c_erasure.specs.Marks.{Mark, a_name, marks_of_specifiers, marks_of_declarator, marks_of_item}
use Rattle.c_erasure.specs.MentionPlaces.{spoken_of_specifiers, spoken_of_declarator, spoken_by_items, mentions_of_item}
use Rattle.c_erasure.specs.Scopes.{FileScope}
use Rattle.c_erasure.specs.Checking.Files.{item_nodes, filed_item, filed, unread, annotated}
use Rattle.c_checking_laws.proofs.FaultAdditions.{of_specifiers, behind_name}
use Rattle.c_checking_laws.proofs.FaultResults.{bound_err}
use Rattle.c_checking_laws.proofs.Results.{ok}
use Rattle.c_checking_laws.proofs.Within.{Additions, both}
use Rattle.c_checking_laws.proofs.WholeFiles.Declarations.{first_named}
use Rattle.c_checking_laws.specs.TextOrder.TextOrder.{places_of_item}
use Rattle.c_checking_laws.proofs.WholeFiles.Known.{IsKnown, none_new}
use Rattle.c_checking_laws.proofs.WholeFiles.Stepping.{Stepped, no_step}
use Rattle.c_checking_units.proofs.FirstStops.UpTo.{of_item}
use Rattle.c_checking_units.proofs.FirstStops.Behind.{StopsIn, GoesUpTo, same_additions}
use Rattle.c_checking_units.proofs.FirstStops.DefinitionStops.{MayStopIn, of_body}
use Rattle.c_checking_units.proofs.FirstStops.FileDeclarations.{IsStoppedDeclaration, DeclarationStops, MayStopDeclaration, declaration_stops}
use Rattle.c_checking_units.proofs.FirstStops.WholeDefinitions.{definition_stops}

-- an item that stops, in a file behind what is read before, and in one that goes on from there
abbrev pub IsStoppedItem : FileScope → FileScope → Trees.Item → Fault → Type 0
IsStoppedItem m g (Trees.defines specs d left items right) fault = IsBrokenDefinition g specs d left items fault
IsStoppedItem m g (Trees.declaration d) fault = IsStoppedDeclaration m g d fault

module _ (untagged : ℕ → List ℕ) (types : List (List ℕ)) (nodes_at : ℕ → ℕ) (ends : List ℕ) where
  -- what stops, behind what is read before it
  pub record ItemStops (f : FileScope) (item : Trees.Item) (fault : Fault) : Type 0 where
    pub middle : FileScope
    pub file : FileScope
    pub marks : List Mark
    pub types_said : List ℕ
    pub places : List ℕ
    pub made : List ℕ
    pub later : List ℕ
    pub marks_later : List Mark
    pub said_later : List ℕ
    pub step : Stepped nodes_at marks types_said places made f (λ h. IsStoppedItem h file item fault) middle
    pub places_are : places ++ later ≡ places_of_item item
    pub marks_are : marks ++ marks_later ≡ marks_of_item untagged item
    pub said_are : types_said ++ said_later ≡ mentions_of_item item
    pub reaches : GoesUpTo (record { marks = marks_later; said = said_later; made = later }) middle file

  -- what is asked of the file and of an item
  abbrev pub MayStopItem : FileScope → Trees.Item → (at in_scope : ℕ) → Type 0
  MayStopItem f (Trees.defines specs d left items right) at in_scope = ((x : Spelling) × (declared_name d ≡ Some x))
      × MayStopIn untagged types nodes_at ends f specs d left items (item_nodes (Trees.defines specs d left items right)) at in_scope
  MayStopItem f (Trees.declaration d) at in_scope =
      MayStopDeclaration untagged types nodes_at ends f d (item_nodes (Trees.declaration d)) at in_scope

  -- a definition, whose name stands there
  abbrev of_definition : Trees.Specifiers → Trees.Declarator → (place left : ℕ) → Trees.BlockItems → Additions
  of_definition specs d place left items = both (of_specifiers untagged specs) (both (behind_name untagged place d) (of_body place left items))

  definition_is : (specs : Trees.Specifiers) (d : Trees.Declarator) (place left : ℕ) (items : Trees.BlockItems) (right : ℕ)
      → place ≡ first_declarator d left → of_definition specs d place left items ≡ of_item untagged (Trees.defines specs d left items right)
  definition_is specs d place left items right e =
      let u = marks_of_specifiers untagged specs in
      let w = marks_of_declarator untagged d in
      let x = spoken_of_specifiers specs in
      same_additions (u ++ (w ++ a_name left ∷ [])) (marks_of_item untagged (Trees.defines specs d left items right))
      (x ++ ((place ∷ spoken_of_declarator d) ++ spoken_by_items items)) (mentions_of_item (Trees.defines specs d left items right))
      (place ∷ made_by_items items) (places_of_item (Trees.defines specs d left items right))
      (sym (append_assoc u w (a_name left ∷ [])))
      (sym (append_assoc x (place ∷ spoken_of_declarator d) (spoken_by_items items))
      ∙ ap (λ p. (x ++ (p ∷ spoken_of_declarator d)) ++ spoken_by_items items) e)
      (ap (λ p. p ∷ made_by_items items) e)

  defined_item : (f : FileScope) (specs : Trees.Specifiers) (d : Trees.Declarator) (x : Spelling) → declared_name d ≡ Some x → (left : ℕ)
      (items : Trees.BlockItems) (right : ℕ) (fault : Fault)
      → StopsIn (of_definition specs d (first_declarator d x.from) left items) f (λ g. IsBrokenDefinition g specs d left items fault)
      → ItemStops f (Trees.defines specs d left items right) fault
  defined_item f specs d x name left items right fault b =
      let there = subst (λ all. StopsIn all f (λ g. IsBrokenDefinition g specs d left items fault))
      (definition_is specs d (first_declarator d x.from) left items right (first_named d x name x.from left)) b in
      record {
        middle = f;
        file = there.file;
        marks = [];
        types_said = [];
        places = [];
        made = [];
        later = first_declarator d left ∷ made_by_items items;
        marks_later = marks_of_item untagged (Trees.defines specs d left items right);
        said_later = mentions_of_item (Trees.defines specs d left items right);
        step = no_step nodes_at f (λ h. IsStoppedItem h there.file (Trees.defines specs d left items right) fault) (λ h c. there.is);
        places_are = refl;
        marks_are = refl;
        said_are = refl;
        reaches = there.reaches;
      }

  declared_item : (f : FileScope) (d : Trees.Declaration) (fault : Fault) → DeclarationStops untagged types nodes_at ends f d fault
      → ItemStops f (Trees.declaration d) fault
  declared_item f d fault b = record {
    middle = b.middle;
    file = b.file;
    marks = b.marks;
    types_said = b.types_said;
    places = b.places;
    made = b.made;
    later = b.later;
    marks_later = b.marks_later;
    said_later = b.said_later;
    step = b.step;
    places_are = b.places_are;
    marks_are = b.marks_are;
    said_are = b.said_are;
    reaches = b.reaches;
  }

  pub item_stops : (before : List ℕ) (item : Trees.Item) (f : FileScope) (at in_scope : ℕ) → MayStopItem f item at in_scope
      → IsKnown nodes_at before none_new none_new f → (fault : Fault) → filed_item item f ≡ Err fault → ItemStops f item fault
  unfolding filed_item
  item_stops before (Trees.declaration d) f at in_scope may k fault h =
      declared_item f d fault
      (declaration_stops untagged types nodes_at ends before d f (item_nodes (Trees.declaration d)) at in_scope may k fault h)
  item_stops before (Trees.defines specs d left items right) f at in_scope may k fault h =
      defined_item f specs d may.0.0 may.0.1 left items right fault
      (definition_stops untagged types nodes_at ends before specs d left items (item_nodes
      (Trees.defines specs d left items right)) at in_scope f may.1 k
      may.0.0 may.0.1 fault h)

-- ---- the item at which a file stops

pub record StopsAtItem (items : List Trees.Item) (f : FileScope) (fault : Fault) : Type 0 where
  pub before : List Trees.Item
  pub item : Trees.Item
  pub after : List Trees.Item
  pub whole : items ≡ before ++ item ∷ after
  pub known : FileScope
  pub read : filed before f ≡ Ok known
  pub stops : filed_item item known ≡ Err fault

nothing_stops : (f : FileScope) (fault : Fault) → filed [] f ≡ Err fault → ⊥
unfolding filed
nothing_stops f fault h = cc

one_or_later : (item : Trees.Item) (more : List Trees.Item) (f : FileScope) (fault : Fault) (P : Type 0) → filed (item ∷ more) f ≡ Err fault
    → (filed_item item f ≡ Err fault → P) → ((m : FileScope) → filed_item item f ≡ Ok m → filed more m ≡ Err fault → P) → P
unfolding filed
one_or_later item more f fault P h p q = bound_err (filed_item item f) _ fault P h p q

read_none : (f : FileScope) → filed [] f ≡ ok f
unfolding filed
read_none f = refl

read_one : (item : Trees.Item) (more : List Trees.Item) (f m : FileScope) → filed_item item f ≡ Ok m → filed (item ∷ more) f ≡ filed more m
unfolding filed
read_one item more f m h = rw h refl

pub file_stops : (items : List Trees.Item) (f : FileScope) (fault : Fault) → filed items f ≡ Err fault → StopsAtItem items f fault
file_stops [] f fault h = absurd (nothing_stops f fault h)
file_stops (item ∷ more) f fault h =
    one_or_later item more f fault (StopsAtItem (item ∷ more) f fault) h
    (λ e. record { before = []; item = item; after = more; whole = refl; known = f; read = read_none f; stops = e })
    (λ m e h.
    let b = file_stops more m fault h in
    record {
      before = item ∷ b.before;
      item = b.item;
      after = b.after;
      whole = ap (λ z. item ∷ z) b.whole;
      known = b.known;
      read = read_one item b.before f m e ∙ b.read;
      stops = b.stops;
    })

pub annotated_stops : (file : ℕ) (untagged : ℕ → List ℕ) (items : List Trees.Item) (fault : Fault) → annotated file untagged items ≡ Err fault
    → StopsAtItem items (unread file untagged items) fault
unfolding annotated
annotated_stops file untagged items fault h =
    bound_err (filed items (unread file untagged items)) _ fault (StopsAtItem items (unread file untagged items) fault) h
    (λ e. file_stops items (unread file untagged items) fault e) (λ f e h. cc)
