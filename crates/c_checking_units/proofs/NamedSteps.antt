-- Each name of the steps is an enumerator's or a declarator's, and each object and function of the steps is one of the file (C99 6.7, 6.9).
use Rattle.std.proofs.Common.{◌≡◌, ◌≢◌, ℕ, suc, ◌≤◌, ◌<◌, Bool, true, false, List, [], ◌∷◌, ◌++◌, Option, Some, None, refl, sym, ap, ◌∙◌, subst, inl, inr}
use Rattle.std.proofs.Common.{arith}
use Rattle.std.proofs.lemmas.List.Elements.{All-head, All-tail}
use Rattle.std.specs.List.{AllByRecursion}
use Rattle.std.specs.Prelude.{◌⊎◌, All, slice_get}
use Rattle.c_types.specs.Types.{CType}
use Rattle.c_ast.specs.declared.words.Spelling.{Spelling}
use Rattle.c_ast.specs.Trees
use Rattle.c_ast.specs.Places.{first_declarator}
use Rattle.c_typed.specs.declared.operators.LibraryFunction.{LibraryFunction}
use Rattle.c_typed.specs.Fits.{library_type}
use Rattle.c_erasure.specs.Declarators.{declared_name}
use Rattle.c_erasure.specs.Erasure.{IsBound}
use Rattle.c_erasure.specs.Files.{IsMade, is_first, IsFirst, bound, object_how, IsTypedef, IsObject, IsFunction, IsFileDeclarator, AreFileDeclarators}
use Rattle.c_erasure.specs.Files.{library_name, IsOwnName, IsLinkage, function_storage, IsDefinition, IsDefined, ErasesItem}
use Rattle.c_erasure.specs.Marks.{name_from, after_declarator}
use Rattle.c_erasure.specs.Scopes.{Bound, AnObject, AFunction, FileScope, Entity, typedef, enumerator, an_object, a_function, a_library_function}
use Rattle.c_erasure.specs.Scopes.{a_local, a_parameter, at_file_scope, in_full, declares, defines}
use Rattle.c_erasure.specs.Specifiers.{Storage, no_storage, a_typedef, is_extern, is_static, is_auto, is_register, several, storage_of}
use Rattle.c_checking_laws.proofs.CompleteBodies.{walk_of_declaration}
use Rattle.c_checking_laws.proofs.CompleteLists.{froms_of, made_at}
use Rattle.c_checking_laws.proofs.CompleteLocals.{walk_of_initial}
use Rattle.c_checking_laws.proofs.CompleteStatements.{walk_of_items}
use Rattle.c_checking_laws.proofs.CompleteWalk.{Event, a_use, a_look, a_tag, an_end, a_name, a_literal, seen, walk_of_declarator, walk_of_specifiers}
use Rattle.c_checking_laws.proofs.WholeFiles.CompleteStaticLists.{walk_of_statics}
use Rattle.c_checking_units.proofs.Declarators.{steps_if_named, steps_of_declarators}
use Rattle.c_checking_units.proofs.Definitions.{alone, body_events, steps_of_body, steps_if_defined, steps_of_definition}
use Rattle.c_checking_units.proofs.Filed.{IsWholeFile}
use Rattle.c_checking_units.proofs.Items.{steps_of_item, steps_of_items}
use Rattle.c_checking_units.proofs.Prepared.{steps_of_declarator}
use Rattle.c_checking_units.proofs.Steps.{Step, events, At, entity_at, entity_of}
use Rattle.c_checking_units.proofs.Made.{made_left, made_right}
use Rattle.c_checking_units.proofs.MarksOfSteps.{all_seen}
use Rattle.c_checking_units.proofs.Placed.{Own, OwnFunction, MadeBy, objects_of_one}
use Rattle.c_checking_units.proofs.StepLists.{names_of, own_object, own_function, objects_of, functions_of, AreStepsInOrder}
use Rattle.c_checking_units.proofs.There.{IsEnumeratorFrom, HasObject, AreThere, there_declarator, there_specifiers}
use Rattle.c_checking_units.proofs.ThereInBodies.{items_there}
use Rattle.c_checking_units.proofs.ThereInitially.{constants_there}

-- ---- lists

pub all_both : (P : ℕ → Type 0) (a b : List ℕ) → AllByRecursion P a → AllByRecursion P b → AllByRecursion P (a ++ b)
all_both P [] b h k = k
all_both P (x ∷ a) b h k = (h.0, all_both P a b h.1 k)

all_behind : (P : ℕ → Type 0) (a b : List ℕ) → AllByRecursion P (a ++ b) → AllByRecursion P b
all_behind P [] b h = h
all_behind P (x ∷ a) b h = all_behind P a b h.1

module _ (g : FileScope) where
  abbrev pub HasFunction : ℕ → Type 0
  HasFunction at = (n : ℕ) × (h : AFunction) × (slice_get g.functions n ≡ Some h) × (h.first ≡ at)

  -- what a declarator says of its name, and of the object or function that it declares
  pub record IsOwn (x : Spelling) (place from : ℕ) : Type 0 where
    pub b : Bound
    pub binds : IsBound (at_file_scope g) b
    pub from_is : b.from ≡ from
    pub name : b.name ≡ x.text
    pub object : (n : ℕ) (t : CType) → b.entity ≡ an_object n t → (o : AnObject) × (slice_get g.objects n ≡ Some o) × IsFirst (is_first g x) o.first place
    pub function : (n : ℕ) (t : CType) → b.entity ≡ a_function n t
        → (h : AFunction) × (slice_get g.functions n ≡ Some h) × IsFirst (is_first g x) h.first place

  -- and that they are among the objects and functions of the steps, where it is the first of its name
  pub record IsNamedBy (objects functions : List ℕ) (from : ℕ) : Type 0 where
    pub x : Spelling
    pub place : ℕ
    pub own : IsOwn x place from
    pub before : x.from < from
    pub object_in : (n : ℕ) (t : CType) → own.b.entity ≡ an_object n t → is_first g x ≡ true → IsMade objects place
    pub function_in : (n : ℕ) (t : CType) → own.b.entity ≡ a_function n t → is_first g x ≡ true → IsMade functions place

  -- ---- what declarators of the file scope say

  of_typedef : (base : CType) (d : Trees.InitDeclarator) (x : Spelling) (place from : ℕ) → IsTypedef g base d x place from → IsOwn x place from
  of_typedef base d x place from h = record {
    b = bound x from defines (typedef h.0);
    binds = h.5;
    from_is = refl;
    name = refl;
    object = λ n t e. cc;
    function = λ n t e. cc;
  }

  of_object : (words : Storage) (base : CType) (d : Trees.InitDeclarator) (x : Spelling) (place from : ℕ) → IsObject g words base d x place from
      → IsOwn x place from
  of_object words base d x place from h = record {
    b = bound x from (object_how words d.value) (an_object h.2 h.1);
    binds = h.15;
    from_is = refl;
    name = refl;
    object = λ n t e. let same : h.2 ≡ n = cc in (h.3, subst (λ n. slice_get g.objects n ≡ Some h.3) same h.9, h.14);
    function = λ n t e. cc;
  }

  of_function : (words : Storage) (base : CType) (d : Trees.InitDeclarator) (x : Spelling) (place from : ℕ) → IsFunction g words base d x place from
      → IsOwn x place from
  of_function words base d x place from h = by_kind h.5
    where
      by_kind : ((which : LibraryFunction)
          × (x.text ≡ library_name which) × (h.0 ≡ library_type which) × (words ≢ is_static)
          × IsBound (at_file_scope g) (bound x from declares (a_library_function which)))
          ⊎ ((n : ℕ) × (f : AFunction) × IsOwnName x.text × (slice_get g.functions n ≡ Some f) × (f.name ≡ x.text) × (f.ty ≡ h.0)
          × IsLinkage (function_storage words) (is_first g x) f.is_linked
          × IsFirst (is_first g x) f.first place
          × IsBound (at_file_scope g) (bound x from declares (a_function n h.0))) → IsOwn x place from
      by_kind (inl k) = record {
        b = bound x from declares (a_library_function k.0);
        binds = k.4;
        from_is = refl;
        name = refl;
        object = λ n t e. cc;
        function = λ n t e. cc;
      }
      by_kind (inr k) = record {
        b = bound x from declares (a_function k.0 h.0);
        binds = k.8;
        from_is = refl;
        name = refl;
        object = λ n t e. cc;
        function = λ n t e. let same : k.0 ≡ n = cc in (k.1, subst (λ n. slice_get g.functions n ≡ Some k.1) same k.3, k.7);
      }

  -- the type of a declarator, and what initializes it, stand for something in the file
  pub record Stands (d : Trees.InitDeclarator) (x : Spelling) (place from : ℕ) : Type 0 where
    pub own : IsOwn x place from
    pub declarator : AreThere g false in_full (walk_of_declarator g.untagged d.declarator)
    pub initial : AreThere g false in_full (walk_of_initial g.untagged g.objects d.value)

  no_value : (value : Option (ℕ × Trees.Expression)) → value ≡ None → AreThere g false in_full (walk_of_initial g.untagged g.objects value)
  no_value None e = tt
  no_value (Some value) e = cc

  definition_there : (place : ℕ) (t : CType) (value : Option (ℕ × Trees.Expression)) (o : AnObject) → IsDefinition (at_file_scope g) place t value o
      → AreThere g false in_full (walk_of_initial g.untagged g.objects value)
  definition_there place t None o h = tt
  definition_there place t (Some value) o h = constants_there (Some value) (at_file_scope g) t h.0 h.1

  typedef_stands : (base : CType) (d : Trees.InitDeclarator) (x : Spelling) (place from : ℕ) → IsTypedef g base d x place from → Stands d x place from
  typedef_stands base d x place from h = record {
    own = of_typedef base d x place from h;
    declarator = there_declarator d.declarator (at_file_scope g) base _ h.3;
    initial = no_value d.value h.1;
  }

  function_stands : (words : Storage) (base : CType) (d : Trees.InitDeclarator) (x : Spelling) (place from : ℕ) → IsFunction g words base d x place from
      → Stands d x place from
  function_stands words base d x place from h = record {
    own = of_function words base d x place from h;
    declarator = there_declarator d.declarator (at_file_scope g) base _ h.2;
    initial = no_value d.value h.1;
  }

  object_stands : (words : Storage) (base : CType) (d : Trees.InitDeclarator) (x : Spelling) (place from : ℕ) → IsObject g words base d x place from
      → Stands d x place from
  object_stands words base d x place from h = record {
    own = of_object words base d x place from h;
    declarator = there_declarator d.declarator (at_file_scope g) base _ h.4;
    initial = definition_there place h.1 d.value h.3 h.16;
  }

  stands : (words : Storage) (base : CType) (d : Trees.InitDeclarator) (x : Spelling) (place from : ℕ) → IsFileDeclarator g words base d x place from
      → Stands d x place from
  stands a_typedef base d x place from h = typedef_stands base d x place from h
  stands no_storage base d x place from (inl h) = function_stands no_storage base d x place from h
  stands no_storage base d x place from (inr h) = object_stands no_storage base d x place from h
  stands is_extern base d x place from (inl h) = function_stands is_extern base d x place from h
  stands is_extern base d x place from (inr h) = object_stands is_extern base d x place from h
  stands is_static base d x place from (inl h) = function_stands is_static base d x place from h
  stands is_static base d x place from (inr h) = object_stands is_static base d x place from h
  stands is_auto base d x place from h = absurd h
  stands is_register base d x place from h = absurd h
  stands several base d x place from h = absurd h

  -- ---- events that stand for something

  objects_there : (i : Bool) (all : List Event) → AreThere g i in_full all → AllByRecursion (HasObject g) (made_at all)
  objects_there i [] h = tt
  objects_there i (a_use at ∷ all) h = objects_there i all h.1
  objects_there i (a_look at ∷ all) h = objects_there i all h.1
  objects_there i (a_tag t ∷ all) h = objects_there i all h.1
  objects_there i (an_end tag right ∷ all) h = objects_there i all h.1
  objects_there i (a_name from ∷ all) h = objects_there i all h.1
  objects_there i (a_literal at ∷ all) h = (h.0 refl, objects_there i all h.1)

  -- those that are seen in a body
  inner_objects : (all : List Event) → AreThere g true in_full all → AllByRecursion (HasObject g) (made_at (seen true in_full all))
  inner_objects [] h = tt
  inner_objects (a_use at ∷ all) h = inner_objects all h.1
  inner_objects (a_look at ∷ all) h = inner_objects all h.1
  inner_objects (a_tag t ∷ all) h = inner_objects all h.1
  inner_objects (an_end tag right ∷ all) h = inner_objects all h.1
  inner_objects (a_name from ∷ all) h = inner_objects all h.1
  inner_objects (a_literal at ∷ all) h = (h.0 refl, inner_objects all h.1)

  -- those at file scope
  seen_objects : (all : List Event) → AreThere g false in_full all → AllByRecursion (HasObject g) (made_at (At all))
  seen_objects all h =
      subst (λ all. AllByRecursion (HasObject g) (made_at all)) (sym (all_seen all)) (objects_there false all h)

  module _ (objects functions : List ℕ) where
    abbrev pub IsNamed : ℕ → Type 0
    IsNamed from = IsEnumeratorFrom g from ⊎ IsNamedBy objects functions from

    enumerators : (all : List Event) → AreThere g false in_full all → AllByRecursion IsNamed (froms_of all)
    enumerators [] h = tt
    enumerators (a_use at ∷ all) h = enumerators all h.1
    enumerators (a_look at ∷ all) h = enumerators all h.1
    enumerators (a_tag t ∷ all) h = enumerators all h.1
    enumerators (an_end tag right ∷ all) h = enumerators all h.1
    enumerators (a_name from ∷ all) h = (inl (h.0 refl), enumerators all h.1)
    enumerators (a_literal at ∷ all) h = enumerators all h.1

    seen_names : (all : List Event) → AreThere g false in_full all → AllByRecursion IsNamed (froms_of (At all))
    seen_names all h =
        subst (λ all. AllByRecursion IsNamed (froms_of all)) (sym (all_seen all)) (enumerators all h)

    -- a body declares none
    no_names : (all : List Event) → AllByRecursion IsNamed (froms_of (seen true in_full all))
    no_names [] = tt
    no_names (a_use at ∷ all) = no_names all
    no_names (a_look at ∷ all) = no_names all
    no_names (a_tag t ∷ all) = no_names all
    no_names (an_end tag right ∷ all) = no_names all
    no_names (a_name from ∷ all) = no_names all
    no_names (a_literal at ∷ all) = no_names all

    pub record AreNamed (steps : List Step) : Type 0 where
      pub names : AllByRecursion IsNamed (names_of steps)
      pub all_objects : AllByRecursion (HasObject g) (objects_of steps)
      pub all_functions : AllByRecursion HasFunction (functions_of steps)

    -- the objects and functions of steps are among those of the file
    pub record AreAmong (steps : List Step) : Type 0 where
      pub objects_in : (at : ℕ) → IsMade (objects_of steps) at → IsMade objects at
      pub functions_in : (at : ℕ) → IsMade (functions_of steps) at → IsMade functions at

    -- ---- one declarator

    own_objects_there : (e : Entity) (first : Bool) (place : ℕ)
        → ((n : ℕ) (t : CType) → e ≡ an_object n t → (o : AnObject) × (slice_get g.objects n ≡ Some o) × IsFirst first o.first place)
        → AllByRecursion (HasObject g) (own_object (Some e) first place)
    own_objects_there (typedef t) first place h = tt
    own_objects_there (enumerator v) first place h = tt
    own_objects_there (an_object n t) true place h = let z = h n t refl in ((n, z.0, z.1, z.2), tt)
    own_objects_there (an_object n t) false place h = tt
    own_objects_there (a_function n t) first place h = tt
    own_objects_there (a_library_function which) first place h = tt
    own_objects_there (a_local n t) first place h = tt
    own_objects_there (a_parameter t) first place h = tt

    own_functions_there : (e : Entity) (first : Bool) (place : ℕ)
        → ((n : ℕ) (t : CType) → e ≡ a_function n t → (o : AFunction) × (slice_get g.functions n ≡ Some o) × IsFirst first o.first place)
        → AllByRecursion HasFunction (own_function (Some e) first place)
    own_functions_there (typedef t) first place h = tt
    own_functions_there (enumerator v) first place h = tt
    own_functions_there (an_object n t) first place h = tt
    own_functions_there (a_function n t) true place h = let z = h n t refl in ((n, z.0, z.1, z.2), tt)
    own_functions_there (a_function n t) false place h = tt
    own_functions_there (a_library_function which) first place h = tt
    own_functions_there (a_local n t) first place h = tt
    own_functions_there (a_parameter t) first place h = tt

    own_object_made : (e : Option Entity) (n : ℕ) (t : CType) (first : Bool) (place : ℕ) → e ≡ Some (an_object n t) → first ≡ true
        → IsMade (own_object e first place) place
    own_object_made e n t first place h f =
        subst (λ e. IsMade (own_object e first place) place) (sym h)
        (subst (λ first. IsMade (own_object (Some (an_object n t)) first place) place) (sym f) (inl refl))

    own_function_made : (e : Option Entity) (n : ℕ) (t : CType) (first : Bool) (place : ℕ) → e ≡ Some (a_function n t) → first ≡ true
        → IsMade (own_function e first place) place
    own_function_made e n t first place h f =
        subst (λ e. IsMade (own_function e first place) place) (sym h)
        (subst (λ first. IsMade (own_function (Some (a_function n t)) first place) place) (sym f) (inl refl))

    -- the steps behind a declarator are in order
    order_behind : (low : ℕ) (d : Trees.InitDeclarator) (x : Spelling) (from : ℕ) (steps : List Step)
        → AreStepsInOrder low (steps_of_declarator g d x from steps) → (m : ℕ) × AreStepsInOrder m steps
    order_behind low d x from steps h = (h.1.2.2.0, h.1.2.2.2)

    among_behind : (d : Trees.InitDeclarator) (x : Spelling) (from : ℕ) (steps : List Step) → AreAmong (steps_of_declarator g d x from steps)
        → AreAmong steps
    among_behind d x from steps a = record {
      objects_in = λ at m. a.objects_in at (subst (λ z. IsMade z at) (sym (objects_of_one g d x from steps))
          (made_right (Own g d x from) (MadeBy g d ++ objects_of steps) at (made_right (MadeBy g d) (objects_of steps) at m)));
      functions_in = λ at m. a.functions_in at (made_right (OwnFunction g d x from) (functions_of steps) at m);
    }

    declarator_named : IsWholeFile g → (d : Trees.InitDeclarator) (x : Spelling) (from low : ℕ) (steps : List Step)
        → Stands d x (first_declarator d.declarator x.from) from → AreStepsInOrder low (steps_of_declarator g d x from steps)
        → AreAmong (steps_of_declarator g d x from steps) → AreNamed steps → AreNamed (steps_of_declarator g d x from steps)
    declarator_named w d x from low steps s order among r =
        let place = first_declarator d.declarator x.from in
        let b = s.own.b in
        let entity : entity_at g.names from ≡ Some b.entity =
        subst (λ from. entity_at g.names from ≡ Some b.entity) s.own.from_is (entity_of g w.whole b s.own.binds) in
        let v = walk_of_initial g.untagged g.objects d.value in
        let u = walk_of_declarator g.untagged d.declarator in
        let later : AllByRecursion (λ m. suc x.from ≤ m) (froms_of (At u) ++ (from ∷ (froms_of (At v) ++ names_of steps))) = order.2 in
        let at_from = (all_behind (λ m. suc x.from ≤ m) (froms_of (At u)) (from ∷ (froms_of (At v) ++ names_of steps)) later).0 in
        let named : IsNamedBy objects functions from = record {
          x = x;
          place = place;
          own = s.own;
          before = omega (arith, at_from);
          object_in = λ n t e f. among.objects_in place (subst (λ z. IsMade z place) (sym (objects_of_one g d x from steps))
              (made_left (Own g d x from) (MadeBy g d ++ objects_of steps) place
              (own_object_made (entity_at g.names from) n t (is_first g x) place (entity ∙ ap Some e) f)));
          function_in = λ n t e f. among.functions_in place
              (made_left (OwnFunction g d x from) (functions_of steps) place
              (own_function_made (entity_at g.names from) n t (is_first g x) place (entity ∙ ap Some e) f));
        } in
        record {
          names = all_both IsNamed (froms_of (At u)) (from ∷ (froms_of (At v) ++ names_of steps)) (seen_names u s.declarator)
              (inr named, all_both IsNamed (froms_of (At v)) (names_of steps) (seen_names v s.initial) r.names);
          all_objects = subst (AllByRecursion (HasObject g)) (sym (objects_of_one g d x from steps))
              (all_both (HasObject g) (Own g d x from) (MadeBy g d ++ objects_of steps)
              (subst (λ e. AllByRecursion (HasObject g) (own_object e (is_first g x) place)) (sym entity)
              (own_objects_there b.entity (is_first g x) place s.own.object))
              (all_both (HasObject g) (MadeBy g d) (objects_of steps) (objects_there false v s.initial) r.all_objects));
          all_functions = all_both HasFunction (OwnFunction g d x from) (functions_of steps)
              (subst (λ e. AllByRecursion HasFunction (own_function e (is_first g x) place)) (sym entity)
              (own_functions_there b.entity (is_first g x) place s.own.function)) r.all_functions;
        }

    -- ---- declarators, one after the other; what is left is handed on

    abbrev Next : List Step → Type 0
    Next steps = (low : ℕ) → AreStepsInOrder low steps → AreAmong steps → AreNamed steps

    one_named : IsWholeFile g → (d : Trees.InitDeclarator) (x : Spelling) (from : ℕ) (steps : List Step)
        → Stands d x (first_declarator d.declarator x.from) from → Next steps → Next (steps_of_declarator g d x from steps)
    one_named w d x from steps s next low order among =
        let o = order_behind low d x from steps order in
        declarator_named w d x from low steps s order among (next o.0 o.1 (among_behind d x from steps among))

    declarators_named : (w : IsWholeFile g) (words : Storage) (base : CType) (all : List Trees.InitDeclarator) (semicolon : ℕ) (steps : List Step)
        → AreFileDeclarators g words base all semicolon → Next steps → Next (steps_of_declarators g w all semicolon steps)
    declarators_named w words base [] semicolon steps h next = next
    declarators_named w words base (d ∷ more) semicolon steps h next =
        let x = h.0 in
        let from = name_from d.value (after_declarator more semicolon) in
        let later = steps_of_declarators g w more semicolon steps in
        subst (λ o. Next (steps_if_named g w d o from later)) (sym h.1)
        (one_named w d x from later (stands words base d x (first_declarator d.declarator x.from) from h.2)
        (declarators_named w words base more semicolon steps h.3 next))

    -- ---- items

    behind_specifiers : (specs : Trees.Specifiers) (steps : List Step) → AreThere g false in_full (walk_of_specifiers g.untagged specs) → Next steps
        → Next (events (At (walk_of_specifiers g.untagged specs)) ∷ steps)
    behind_specifiers specs steps t next low order among =
        let own = At (walk_of_specifiers g.untagged specs) in
        let r = next order.0 order.2 (record {
          objects_in = λ at m. among.objects_in at (made_right (made_at own) (objects_of steps) at m);
          functions_in = among.functions_in;
        }) in
        record {
          names = all_both IsNamed (froms_of own) (names_of steps) (seen_names (walk_of_specifiers g.untagged specs) t) r.names;
          all_objects = all_both (HasObject g) (made_at own) (objects_of steps) (seen_objects (walk_of_specifiers g.untagged specs) t) r.all_objects;
          all_functions = r.all_functions;
        }

    body_named : (w : IsWholeFile g) (items : Trees.BlockItems) (steps : List Step)
        → AreThere g true in_full (walk_of_items g.untagged (λ d. walk_of_declaration g (λ all. walk_of_statics g all) d) items) → Next steps
        → Next (steps_of_body g w items steps)
    body_named w items steps t next low order among =
        let own = body_events g w items in
        let all = walk_of_items g.untagged (λ d. walk_of_declaration g (λ all. walk_of_statics g all) d) items in
        let r = next order.0 order.2 (record {
          objects_in = λ at m. among.objects_in at (made_right (made_at own) (objects_of steps) at m);
          functions_in = among.functions_in;
        }) in
        record {
          names = all_both IsNamed (froms_of own) (names_of steps) (no_names all) r.names;
          all_objects = all_both (HasObject g) (made_at own) (objects_of steps) (inner_objects all t) r.all_objects;
          all_functions = r.all_functions;
        }

    definition_named : (w : IsWholeFile g) (specs : Trees.Specifiers) (d : Trees.Declarator) (left : ℕ) (items : Trees.BlockItems) (nodes : ℕ)
        (steps : List Step) → IsDefined g specs d left items nodes → Next steps → Next (steps_of_definition g w specs d left items steps)
    definition_named w specs d left items nodes steps h next =
        let x = h.3 in
        let body = h.22 in
        let inside = items_there g (h.5.parameters ++ h.5.locals) [] items (h.6 ∷ []) body.0 body.2 in
        let own : IsOwn x (first_declarator d x.from) left = record {
          b = bound x left defines (a_function h.4 h.5.ty);
          binds = h.20;
          from_is = refl;
          name = refl;
          object = λ n t e. cc;
          function = λ n t e. let same : h.4 ≡ n = cc in (h.5, subst (λ n. slice_get g.functions n ≡ Some h.5) same h.13, h.19);
        } in
        behind_specifiers specs (steps_if_defined g w (declared_name d) d left items steps) (there_specifiers specs (at_file_scope g) h.0 h.7)
        (subst (λ o. Next (steps_if_defined g w o d left items steps)) (sym h.8)
        (one_named w (alone d) x left (steps_of_body g w items steps)
        (record { own = own; declarator = there_declarator d (at_file_scope g) h.0 _ h.10; initial = tt })
        (body_named w items steps inside next)))

    item_named : (w : IsWholeFile g) (item : Trees.Item) (steps : List Step) → ErasesItem g item → Next steps → Next (steps_of_item g w item steps)
    item_named w (Trees.defines specs d left items right) steps h next = definition_named w specs d left items _ steps h next
    item_named w (Trees.declaration d) steps h next =
        behind_specifiers d.specs (steps_of_declarators g w d.all d.semicolon steps) (there_specifiers d.specs (at_file_scope g) h.0 h.2)
        (declarators_named w (storage_of d.specs) h.0 d.all d.semicolon steps h.4 next)

    pub items_named : (w : IsWholeFile g) (items : List Trees.Item) → All (ErasesItem g) items → Next (steps_of_items g w items)
    items_named w [] h = λ low order among. record { names = tt; all_objects = tt; all_functions = tt }
    items_named w (item ∷ more) h =
        item_named w item (steps_of_items g w more) (All-head (ErasesItem g) item more h) (items_named w more (All-tail (ErasesItem g) item more h))
