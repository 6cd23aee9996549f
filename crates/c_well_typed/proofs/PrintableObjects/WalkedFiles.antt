-- What the items of a file define: the initializers of its objects and the bodies of its functions refer to the objects of its string literals, each where
-- it stands (C99 6.4.5, 6.7, 6.9).
use Rattle.std.proofs.Common.{◌≡◌, ◌∙◌, ℕ, ◌+◌, Bool, true, false, refl, sym, ap, subst, List, [], ◌∷◌, ◌++◌, length, arith, append-nil, inl, inr}
use Rattle.std.specs.Prelude.{Option, Some, None, slice_get}
use Rattle.std.specs.List.{AllByRecursion}
use Rattle.c_types.specs.Objects.{is_object}
use Rattle.c_types.specs.Types.{CType, CTypes, function}
use Rattle.c_ast.specs.declared.words.Spelling.{Spelling}
use Rattle.c_ast.specs.Places.{first_declarator}
use Rattle.c_ast.specs.Trees
use Rattle.c_ast.specs.WellFormed as Formed
use Rattle.c_ast.specs.WellFormed.{types_after}
use Rattle.c_typed.specs.References.{references_by_initializer, references_by_initial, references_by_statement, references_by_statements}
use Rattle.c_typed.specs.Trees as Typed
use Rattle.c_typed.specs.TypedStatements.{all_declared_by}
use Rattle.c_erasure.specs.Declarators.{closed}
use Rattle.c_erasure.specs.Erasure.{IsBound}
use Rattle.c_erasure.specs.Files.{bound, object_how, IsTypedef, IsObject, IsFunction, IsFileDeclarator, AreFileDeclarators, IsDefinition, ErasesItem, in_body}
use Rattle.c_erasure.specs.Files.{parameters_of, AreNamed, HasParameters, count_up}
use Rattle.c_erasure.specs.Literals.{literals_of_value, made_by_items, initial_literals, made_by_file_item, made_by_file}
use Rattle.c_erasure.specs.Marks.{Mark, a_name, marks_of_initial, marks_of_declarator, marks_of_declarators, marks_of_item, marks_of_file, name_from}
use Rattle.c_erasure.specs.Marks.{after_declarator}
use Rattle.c_erasure.specs.Noted.{Noted}
use Rattle.c_erasure.specs.Scopes.{How, declares, defines, Entity, typedef, an_object, a_function, a_library_function, enumerator, Bound, ALocal, AFunction}
use Rattle.c_erasure.specs.Scopes.{AnObject}
use Rattle.c_erasure.specs.Scopes.{FileScope, Scope, at_file_scope}
use Rattle.c_erasure.specs.Specifiers.{Storage, storage_of, no_storage, a_typedef, is_extern, is_static, is_auto, is_register, several}
use Rattle.c_checking_units.proofs.Tracing as Tracing
use Rattle.c_checking_units.proofs.Tracing.{AreAll, with_names}
use Rattle.c_well_typed.proofs.Definitions.{value_of_object}
use Rattle.c_well_typed.proofs.Enumerators.{IsEnumerated, AreEnumerated, anything, base_found, lengths_found}
use Rattle.c_well_typed.proofs.KnownTypes.{base_known, declarator_known, body_scope}
use Rattle.c_well_typed.proofs.NamedTypes.{sized_made}
use Rattle.c_well_typed.proofs.WellMade.{IsWellMade, AreWellMade}
use Rattle.c_well_typed.specs.Printable.Programs.{times}
use Rattle.c_well_typed.proofs.PrintableObjects.Counts.{occurs, occurs_both, IsIn, in_left, in_right, sum_of, sum_both}
use Rattle.c_well_typed.proofs.PrintableObjects.LiteralInitializers.{constants_counted}
use Rattle.c_well_typed.proofs.PrintableObjects.Literals.{Walk, IsTextAt, Counts, IsFull, both_each}
use Rattle.c_well_typed.proofs.PrintableObjects.OwnNames.{IsOwnEntity}
use Rattle.c_well_typed.proofs.PrintableObjects.Sources.{IsMadeLocal, Walked, IsSourced, IsFilled, filled_by, weight, weight_of, IsPlaced, literal_places}
use Rattle.c_well_typed.proofs.PrintableObjects.WalkedStatements.{items_walked}

some_is : {A : Type 0} (x y : A) → Some x ≡ Some y → x ≡ y
some_is x y h = cc

-- a declaration without an initializer does not define
no_definition : (words : Storage) → object_how words None ≡ defines → ⊥
no_definition is_extern h = cc
no_definition words h = cc

module _ (w : Walk) where
  abbrev f : FileScope
  f = w.file

  abbrev F : Scope
  F = at_file_scope f

  abbrev u : ℕ → List ℕ
  u = f.untagged

  abbrev W : CType → Type 0
  W = IsWellMade w.count

  in_file : IsFull w F
  in_file = record { made = (refl, tt); purpose = refl; own = tt }

  -- ---- how often the bodies of functions refer to that object

  abbrev pub body_weight : Option (Typed.Statement Noted) → ℕ
  body_weight None = 0
  body_weight (Some body) = times w.number (references_by_statement body)

  abbrev pub function_weight_of : Option AFunction → ℕ
  function_weight_of None = 0
  function_weight_of (Some g) = body_weight g.body

  abbrev pub function_weight : ℕ → ℕ
  function_weight k = function_weight_of (slice_get f.functions k)

  -- ---- names of the file scope

  -- an object that is defined is among those of a list, and a function among those of another
  abbrev IsSourcedAt : List ℕ → ℕ → Type 0
  IsSourcedAt L k = IsIn k L × ((o : AnObject) × (slice_get f.objects k ≡ Some o) × IsSourced w o)

  -- all locals of a function are declared in its body
  abbrev pub HasMadeLocals : ℕ → Type 0
  HasMadeLocals k = (g : AFunction) × (slice_get f.functions k ≡ Some g)
      × AllByRecursion (IsMadeLocal w (g.parameters ++ g.locals)) (count_up (length g.parameters) (length g.locals))

  pub record IsFine (L M : List ℕ) (b : Bound) : Type 0 where
    pub object : (k : ℕ) (t : CType) → b.entity ≡ an_object k t → W t × (b.how ≡ defines → IsSourcedAt L k)
    pub function : (k : ℕ) (t : CType) → b.entity ≡ a_function k t → b.how ≡ defines → IsIn k M × HasMadeLocals k

  abbrev pub IsNamedBy : (L M : List ℕ) → ℕ → Type 0
  IsNamedBy L M from = (b : Bound) × IsBound F b × (b.from ≡ from) × IsFine L M b

  abbrev Within : List ℕ → List ℕ → Type 0
  Within a L = (k : ℕ) → IsIn k a → IsIn k L

  -- what has these marks and literals defines these objects and functions
  pub record IsMade (marks : List Mark) (places : List ℕ) : Type 0 where
    pub origins : List ℕ
    pub functions : List ℕ
    pub sum : IsTextAt w → sum_of (weight w) origins + sum_of function_weight functions ≡ occurs w.at places
    pub placed : (L : List ℕ) → Within origins L → AllByRecursion (IsPlaced w L) places
    pub names : (L M : List ℕ) → Within origins L → Within functions M → AreAll (IsNamedBy L M) anything marks

  none : IsMade [] []
  none = record { origins = []; functions = []; sum = λ t. omega arith; placed = λ L h. tt; names = λ L M h k. tt }

  both : {a b : List Mark} {p q : List ℕ} → IsMade a p → IsMade b q → IsMade (a ++ b) (p ++ q)
  both {a} {b} {p} {q} x y = record {
    origins = x.origins ++ y.origins;
    functions = x.functions ++ y.functions;
    sum = λ t.
        let s = x.sum t in
        let u = y.sum t in
        let o = occurs_both w.at p q in
        let v = sum_both (weight w) x.origins y.origins in
        let z = sum_both function_weight x.functions y.functions in
        omega (arith, s, u, o, v, z);
    placed = λ L h. both_each (IsPlaced w L) p q (x.placed L (λ k i. h k (in_left k x.origins y.origins i)))
        (y.placed L (λ k i. h k (in_right k x.origins y.origins i)));
    names = λ L M h g. Tracing.both (IsNamedBy L M) anything a b
        (x.names L M (λ k i. h k (in_left k x.origins y.origins i)) (λ k i. g k (in_left k x.functions y.functions i)))
        (y.names L M (λ k i. h k (in_right k x.origins y.origins i)) (λ k i. g k (in_right k x.functions y.functions i)));
  }

  -- ---- names that are none of objects and functions

  abbrev IsNoObject : (e : Entity) → Type 0
  IsNoObject e = (k : ℕ) (t : CType) → e ≡ an_object k t → ⊥

  abbrev IsNoFunction : (e : Entity) → Type 0
  IsNoFunction e = (k : ℕ) (t : CType) → e ≡ a_function k t → ⊥

  fine : (L M : List ℕ) (b : Bound) → IsNoObject b.entity → IsNoFunction b.entity → IsFine L M b
  fine L M b o g = record { object = λ k t e. absurd (o k t e); function = λ k t e. absurd (g k t e) }

  enumerator_fine : (L M : List ℕ) (b : Bound) (v : ℕ) → b.entity ≡ enumerator v → IsFine L M b
  enumerator_fine L M b v e =
      fine L M b (λ k t h. let no : enumerator v ≡ an_object k t = sym e ∙ h in cc) (λ k t h. let no : enumerator v ≡ a_function k t = sym e ∙ h in cc)

  enumerators : {a : List Mark} → AreEnumerated f a → IsMade a []
  enumerators {a} x = record {
    origins = [];
    functions = [];
    sum = λ t. omega arith;
    placed = λ L h. tt;
    names = λ L M h g. with_names (IsEnumerated f) (IsNamedBy L M) anything a (λ from e. (e.0, e.2, e.3, enumerator_fine L M e.0 e.1 e.4)) x.all;
  }

  one_name : (x : Spelling) (from : ℕ) (how : How) (e : Entity) → IsBound F (bound x from how e) → ((L M : List ℕ) → IsFine L M (bound x from how e))
      → IsMade (a_name from ∷ []) []
  one_name x from how e h i = record {
    origins = [];
    functions = [];
    sum = λ t. omega arith;
    placed = λ L h. tt;
    names = λ L M g k. ((bound x from how e, h, refl, i L M), tt);
  }

  -- ---- declarators

  abbrev IsDeclarator : Trees.InitDeclarator → ℕ → Type 0
  IsDeclarator d from = IsMade (marks_of_declarator u d.declarator ++ a_name from ∷ marks_of_initial u d.value) (literals_of_value d.value)

  with_name : {p : List ℕ} (d : Trees.InitDeclarator) (from : ℕ) → AreEnumerated f (marks_of_declarator u d.declarator) → IsMade (a_name from ∷ []) p
      → AreEnumerated f (marks_of_initial u d.value)
      → IsMade (marks_of_declarator u d.declarator ++ a_name from ∷ marks_of_initial u d.value) (p ++ [])
  with_name d from a b c = both (enumerators a) (both b (enumerators c))

  no_marks : AreEnumerated f []
  no_marks = record { all = tt }

  no_value : (v : Option (ℕ × Trees.Expression)) → v ≡ None → AreEnumerated f (marks_of_initial u v) × (literals_of_value v ≡ [])
  no_value v h = subst (λ v. AreEnumerated f (marks_of_initial u v) × (literals_of_value v ≡ [])) (sym h) (no_marks, refl)

  without_value : (d : Trees.InitDeclarator) (from : ℕ) → d.value ≡ None → AreEnumerated f (marks_of_declarator u d.declarator)
      → IsMade (a_name from ∷ []) [] → IsDeclarator d from
  without_value d from v a b =
      let n = no_value d.value v in
      subst (IsMade (marks_of_declarator u d.declarator ++ a_name from ∷ marks_of_initial u d.value)) (sym n.1) (with_name d from a b n.0)

  typedef_made : (base : CType) (d : Trees.InitDeclarator) (x : Spelling) (place from : ℕ) → IsTypedef f base d x place from → IsDeclarator d from
  typedef_made base d x place from h =
      without_value d from h.1 (lengths_found f d.declarator F base (closed h.0) refl h.3)
      (one_name x from defines (typedef h.0) h.5 (λ L M. fine L M _ (λ k t e. cc) (λ k t e. cc)))

  same_object : (i j : ℕ) (s t : CType) → an_object i s ≡ an_object j t → (i ≡ j) × (s ≡ t)
  same_object i j s t h = (cc, cc)

  -- the name of an object
  object_fine : (L M : List ℕ) (x : Spelling) (from m : ℕ) (how : How) (t : CType) → W t → (how ≡ defines → IsSourcedAt L m)
      → IsFine L M (bound x from how (an_object m t))
  object_fine L M x from m how t made sourced = record {
    object = λ k s e. let z = same_object m k t s e in (subst W z.1 made, λ d. subst (IsSourcedAt L) z.0 (sourced d));
    function = λ k s e. let no : an_object m t ≡ a_function k s = e in cc;
  }

  -- an object with its initializer, where it has one
  object_made : (words : Storage) (types : List (List ℕ)) (v : Option (ℕ × Trees.Expression)) (x : Spelling) (place from m : ℕ) (t : CType) (o : AnObject) → W t
      → Formed.IsValue types v → slice_get f.objects m ≡ Some o → o.ty ≡ t → o.literal ≡ None
      → IsBound F (bound x from (object_how words v) (an_object m t))
      → IsDefinition F place t v o → IsMade (a_name from ∷ []) (literals_of_value v)
  object_made words types None x place from m t o made well e ty own h k =
      one_name x from (object_how words None) (an_object m t) h
      (λ L M. object_fine L M x from m (object_how words None) t made (λ d. absurd (no_definition words d)))
  object_made words types (Some v) x place from m t o made well e ty own h k = record {
    origins = m ∷ [];
    functions = [];
    sum = λ z.
        let a = c.sum z in
        let b = ap (weight_of w) e in
        let i = ap (λ i. times w.number (references_by_initial i)) k.2 in
        omega (arith, a, b, i);
    placed = λ L g. literal_places w [] L (literals_of_value (Some v)) c.literals;
    names = λ L M g n.
        ((bound x from defines (an_object m t), h, refl, object_fine L M x from m defines t made (λ d. (g m (inl refl), (o, e, sourced)))), tt);
  }
    where
      c : Counts w (literals_of_value (Some v)) (times w.number (references_by_initializer k.0))
      c = constants_counted w (Some v) F t k.0 in_file k.1

      sourced : IsSourced w o
      sourced = record {
        own = own;
        made = subst W (sym ty) made;
        filled = λ i q.
            let is = some_is k.0 i (sym k.2 ∙ q) in
            subst (λ t. IsFilled w t i) (sym ty) (subst (IsFilled w t) is (filled_by w types (Some v) F t k.0 in_file well k.1));
      }

  append_none : {a : List Mark} (p : List ℕ) → IsMade a (p ++ []) → IsMade a p
  append_none {a} p x = subst (IsMade a) (append-nil p) x

  object_declared : (words : Storage) (types : List (List ℕ)) (base : CType) (d : Trees.InitDeclarator) (x : Spelling) (place from : ℕ) → W base
      → Formed.IsValue types d.value → IsObject f words base d x place from → IsDeclarator d from
  object_declared words types base d x place from m well h =
      let shape = declarator_known f w.count w.less w.visible_made d.declarator F base h.0 (refl, tt) m h.4 in
      let made = sized_made f w.count w.less h.0 d.value F h.1 shape h.5 in
      append_none (literals_of_value d.value)
      (with_name d from (lengths_found f d.declarator F base h.0 refl h.4)
      (object_made words types d.value x place from h.2 h.1 h.3 made well h.9 h.11 h.12 h.15 h.16)
      (value_of_object f w.count w.less d.value place h.1 h.3 h.16))

  function_fine : (L M : List ℕ) (x : Spelling) (from m : ℕ) (how : How) (t : CType) → (how ≡ defines → IsIn m M × HasMadeLocals m)
      → IsFine L M (bound x from how (a_function m t))
  function_fine L M x from m how t i = record {
    object = λ k s e. let no : a_function m t ≡ an_object k s = e in cc;
    function = λ k s e d. let is : m ≡ k = cc in subst (λ k. IsIn k M × HasMadeLocals k) is (i d);
  }

  no_defining : declares ≡ defines → ⊥
  no_defining h = cc

  function_named : (words : Storage) (base : CType) (d : Trees.InitDeclarator) (x : Spelling) (place from : ℕ) → IsFunction f words base d x place from
      → IsMade (a_name from ∷ []) []
  function_named words base d x place from (t, v, de, fn, me, inl k) =
      one_name x from declares (a_library_function k.0) k.4 (λ L M. fine L M _ (λ k t e. cc) (λ k t e. cc))
  function_named words base d x place from (t, v, de, fn, me, inr k) =
      one_name x from declares (a_function k.0 t) k.8 (λ L M. function_fine L M x from k.0 declares t (λ d. absurd (no_defining d)))

  function_declared : (words : Storage) (base : CType) (d : Trees.InitDeclarator) (x : Spelling) (place from : ℕ) → IsFunction f words base d x place from
      → IsDeclarator d from
  function_declared words base d x place from h =
      without_value d from h.1 (lengths_found f d.declarator F base (closed h.0) refl h.2) (function_named words base d x place from h)

  module _ (types : List (List ℕ)) (base : CType) (m : W base) where
    declarator_made : (words : Storage) (d : Trees.InitDeclarator) (x : Spelling) (place from : ℕ) → Formed.IsValue types d.value
        → IsFileDeclarator f words base d x place from → IsDeclarator d from
    declarator_made a_typedef d x place from well h = typedef_made base d x place from h
    declarator_made no_storage d x place from well (inl h) = function_declared no_storage base d x place from h
    declarator_made no_storage d x place from well (inr h) = object_declared no_storage types base d x place from m well h
    declarator_made is_extern d x place from well (inl h) = function_declared is_extern base d x place from h
    declarator_made is_extern d x place from well (inr h) = object_declared is_extern types base d x place from m well h
    declarator_made is_static d x place from well (inl h) = function_declared is_static base d x place from h
    declarator_made is_static d x place from well (inr h) = object_declared is_static types base d x place from m well h
    declarator_made is_auto d x place from well h = absurd h
    declarator_made is_register d x place from well h = absurd h
    declarator_made several d x place from well h = absurd h

    declarators_made : (first : Bool) (ds : List Trees.InitDeclarator) (words : Storage) (semicolon : ℕ) → Formed.AreInitDeclarators types first ds
        → AreFileDeclarators f words base ds semicolon → IsMade (marks_of_declarators u ds semicolon) (initial_literals ds)
    declarators_made first [] words semicolon well h = none
    declarators_made first (d ∷ more) words semicolon well h =
        both (declarator_made words d h.0 (first_declarator d.declarator h.0.from) (name_from d.value (after_declarator more semicolon)) well.3 h.2)
        (declarators_made false more words semicolon well.4 h.3)

  -- ---- definitions of functions

  named_own : (all : Trees.Parameters) (types : CTypes) (k : ℕ) (locals : List ALocal) (bounds : List Bound) → AreNamed all types k locals bounds
      → AllByRecursion (λ (b : Bound). IsOwnEntity f b.entity) bounds
  named_own Trees.no_parameters types k locals bounds h = subst (AllByRecursion (λ (b : Bound). IsOwnEntity f b.entity)) (sym h.2) tt
  named_own (Trees.and_parameter comma specs d more) types k locals bounds h =
      subst (AllByRecursion (λ (b : Bound). IsOwnEntity f b.entity)) (sym h.8) (tt, named_own more h.2 (k + 1) h.3 h.4 h.9)

  parameters_own : (all : Option Trees.ParameterList) (types : CTypes) (locals : List ALocal) (bounds : List Bound) → HasParameters all types locals bounds
      → AllByRecursion (λ (b : Bound). IsOwnEntity f b.entity) bounds
  parameters_own None types locals bounds h = absurd h
  parameters_own (Some (Trees.void_alone at)) types locals bounds h = subst (AllByRecursion (λ (b : Bound). IsOwnEntity f b.entity)) (sym h.2) tt
  parameters_own (Some (Trees.listed all)) types locals bounds h = named_own all types 0 locals bounds h

  pub body_full : (all : Option Trees.ParameterList) (types : CTypes) (own : List ALocal) (bounds : List Bound) (locals : List ALocal)
      → HasParameters all types own bounds → AreWellMade w.count types → IsFull w (in_body f bounds locals)
  body_full all types own bounds locals h m = record {
    made = body_scope f (λ t. is_object w.count t ≡ true) all types own bounds locals h m;
    purpose = refl;
    own = (parameters_own all types own bounds h, tt);
  }

  defined_made : (types : List (List ℕ)) (specs : Trees.Specifiers) (d : Trees.Declarator) (left : ℕ) (items : Trees.BlockItems) (right : ℕ)
      → Formed.IsItem types (Trees.defines specs d left items right) → ErasesItem f (Trees.defines specs d left items right)
      → IsMade (marks_of_item u (Trees.defines specs d left items right)) (made_by_file_item (Trees.defines specs d left items right))
  defined_made types specs d left items right well h =
      both (both (enumerators (base_found f specs F h.0 refl h.7)) (enumerators (lengths_found f d F h.0 (closed (function h.1 h.2)) refl h.10))) own
    where
      made : IsWellMade w.count (function h.1 h.2)
      made =
          declarator_known f w.count w.less w.visible_made d F h.0 (closed (function h.1 h.2)) (refl, tt)
          (base_known f w.count w.less w.visible_made specs F h.0 (refl, tt) h.7) h.10

      walked : Walked w (h.5.parameters ++ h.5.locals) (made_by_items items)
          (references_by_statements h.22.0) (all_declared_by h.22.0)
      walked =
          items_walked w types (h.5.parameters ++ h.5.locals) items (in_body f h.6 (h.5.parameters ++ h.5.locals)) h.22.0
          (body_full (parameters_of d) h.2 h.5.parameters h.6 (h.5.parameters ++ h.5.locals) h.21 made.2, refl) well.3 h.22.2

      made_locals : HasMadeLocals h.4
      made_locals = (h.5, h.13, subst (AllByRecursion (IsMadeLocal w (h.5.parameters ++ h.5.locals))) h.22.4 walked.made)

      own : IsMade (a_name left ∷ []) (made_by_items items)
      own = record {
        origins = walked.origins;
        functions = h.4 ∷ [];
        sum = λ z.
            let a = walked.sum z in
            let b = ap function_weight_of h.13 ∙ ap body_weight h.22.1 in
            omega (arith, a, b);
        placed = λ L g. walked.placed L g;
        names = λ L M g k.
            ((bound h.3 left defines (a_function h.4 h.5.ty), h.20, refl, function_fine L M h.3 left h.4 defines h.5.ty (λ e. (k h.4 (inl refl), made_locals))), tt);
      }

  -- ---- items

  item_made : (types : List (List ℕ)) (item : Trees.Item) → Formed.IsItem types item → ErasesItem f item → IsMade (marks_of_item u item) (made_by_file_item item)
  item_made types (Trees.declaration d) well h =
      both (enumerators (base_found f d.specs F h.0 refl h.2))
      (declarators_made types h.0 (base_known f w.count w.less w.visible_made d.specs F h.0 (refl, tt) h.2) true d.all (storage_of d.specs)
      d.semicolon well.1 h.4)
  item_made types (Trees.defines specs d left items right) well h = defined_made types specs d left items right well h

  pub items_made : (types : List (List ℕ)) (items : List Trees.Item) → Formed.AreItems types items → AllByRecursion (ErasesItem f) items
      → IsMade (marks_of_file u items) (made_by_file items)
  items_made types [] well h = none
  items_made types (item ∷ items) well h = both (item_made types item well.0 h.0) (items_made (types_after types item) items well.1 h.1)
