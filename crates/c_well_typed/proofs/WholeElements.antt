-- In the unit of a file the elements of array types are complete (C99 6.7.5.2): of the types of objects and functions, of those at the nodes of bodies,
-- and of those of which the file speaks.
use Rattle.std.proofs.Common.{◌≡◌, ℕ, suc, ◌≤◌, Bool, true, false, refl, sym, ap, subst, cond, List, [], ◌∷◌, ◌++◌, length, map, flat_map, filter}
use Rattle.std.proofs.Common.{inl, inr}
use Rattle.std.proofs.lemmas.List.Elements.{recursion_from_All, All-from_recursion}
use Rattle.std.specs.Prelude.{◌⊎◌, not, Option, Some, None, slice_get}
use Rattle.std.specs.List.{AllByRecursion}
use Rattle.std.specs.Option.{option_map}
use Rattle.c_types.specs.Objects.{is_object}
use Rattle.c_types.specs.Types.{CType, pointer, array}
use Rattle.c_tokens.specs.TokenPlaces.{TokensHavePlaces}
use Rattle.c_ast.specs.Laws.{TreesBeginFirst}
use Rattle.c_ast.specs.Trees
use Rattle.c_ast.specs.TreesOfFiles.{IsTreeOf}
use Rattle.c_typed.specs.declared.program.Local.{Local}
use Rattle.c_typed.specs.Mapped.{of_types, mapped_statement}
use Rattle.c_typed.specs.Trees as Typed
use Rattle.c_typed.specs.Typed.{field_type}
use Rattle.c_typed.specs.TypedStatements.{declared_by}
use Rattle.c_typed.specs.TypeNumbers.{type_at}
use Rattle.c_typed.specs.Walk.{types_in_statement}
use Rattle.c_erasure.specs.Files.{AreAscending, IsFileOf}
use Rattle.c_erasure.specs.InitialMentions.{told_by_initial}
use Rattle.c_erasure.specs.Marks.{marks_of_file, scope_beginnings}
use Rattle.c_erasure.specs.Noted.{Noted}
use Rattle.c_erasure.specs.Erasure.{IsMeasured, Erases}
use Rattle.c_erasure.specs.Scopes.{Entity, ALocal, AFunction, AnObject, AMention, FileScope, Scope, visible, ended}
use Rattle.c_erasure.specs.Units as Units
use Rattle.c_erasure.specs.Units.{Stores, recognised_statement, typed_initializer, if_any, is_size_operand, all_types, types, object_types, function_types}
use Rattle.c_erasure.specs.Units.{type_if_pointer, stored_in, number_in, unit_of}
use Rattle.c_erasure.proofs.MarkPlaces.Ordered.{marks_are_in_order}
use Rattle.c_checking_laws.specs.TextOrder.TextOrder.{TextsAreInOrder}
use Rattle.c_well_typed.specs.Laws.{UnitsHaveWholeElements}
use Rattle.c_well_typed.specs.WellTyped.{of_unit, IsResult, HasWholeElements, HaveWholeElements}
use Rattle.c_well_typed.proofs.CompleteLocals.{locals_complete}
use Rattle.c_well_typed.proofs.Definitions.{in_function, IsDefinedFunction, function_known}
use Rattle.c_well_typed.proofs.KnownTypes.{complete_known, body_scope}
use Rattle.c_well_typed.proofs.Leaves.{InStatements}
use Rattle.c_well_typed.proofs.MadeLeaves.{items_leaves}
use Rattle.c_well_typed.proofs.MadeNames as MadeNames
use Rattle.c_well_typed.proofs.MadeNodes.{HasWhole, AreWhole, made_whole, object_whole, scalar_whole}
use Rattle.c_well_typed.proofs.MadeStatements.{statement_whole}
use Rattle.c_well_typed.proofs.NamedTypes.{IsMadeEntity, IsMadeScope}
use Rattle.c_well_typed.proofs.NamesInScope.{joined}
use Rattle.c_well_typed.proofs.Numbers.{IsAmong, IsNumbered, all_among, of_all}
use Rattle.c_well_typed.proofs.RecognisedTypes.{statement_types}
use Rattle.c_well_typed.proofs.SpokenFiles.{mention_whole, field_made}
use Rattle.c_well_typed.proofs.ToldTypes.{initial_told}
use Rattle.c_well_typed.proofs.UnitFunctions.{at_place, after_map, records_ended, functions_numbered, all_same, source_typed, typed_function}
use Rattle.c_well_typed.proofs.UnitObjects.{before_at}
use Rattle.c_well_typed.proofs.WellMade.{IsWellMade}
use Rattle.c_well_typed.proofs.WholeObjects.{objects_whole}

-- ---- lists

each : {A : Type 0} (P : A → Type 0) (xs : List A) → ((n : ℕ) (x : A) → slice_get xs n ≡ Some x → P x) → AllByRecursion P xs
each P [] h = tt
each P (x ∷ xs) h = (h 0 x refl, each P xs (λ n y e. h (suc n) y e))

of_lists : {A B : Type 0} (P : B → Type 0) (v : A → List B) (xs : List A) → ((n : ℕ) (x : A) → slice_get xs n ≡ Some x → AllByRecursion P (v x))
    → AllByRecursion P (flat_map v xs)
of_lists P v [] h = tt
of_lists P v (x ∷ xs) h = joined P (v x) (flat_map v xs) (h 0 x refl) (of_lists P v xs (λ n y e. h (suc n) y e))

filtered : {A : Type 0} (P : A → Type 0) (p : A → Bool) (xs : List A) → AllByRecursion P xs → AllByRecursion P (filter p xs)
filtered P p [] h = tt
filtered P p (x ∷ xs) h = by_test (p x) (filtered P p xs h.1)
  where
    by_test : (b : Bool) → AllByRecursion P (filter p xs) → AllByRecursion P (cond b (x ∷ filter p xs) (filter p xs))
    by_test true k = (h.0, k)
    by_test false k = k

all_is : {A : Type 0} (P : A → Type 0) (xs : List A) → AllByRecursion P xs → (x : A) → IsAmong x xs → P x
all_is P [] h x i = absurd i
all_is P (y ∷ xs) h x (inl e) = subst P (sym e) h.0
all_is P (y ∷ xs) h x (inr i) = all_is P xs h.1 x i

-- ---- an annotated file

module _ (bytes : List ℕ) (items : List Trees.Item) (f : FileScope) (tree : IsTreeOf bytes items) (h : IsFileOf items f)
    (beginnings : AreAscending (scope_beginnings (marks_of_file f.untagged items)))
    (whole : (n : ℕ) (o : AnObject) → slice_get f.objects n ≡ Some o → is_object (length f.records) o.ty ≡ true) where
  abbrev count : ℕ
  count = length f.records

  abbrev H : CType → Type 0
  H = HasWhole count

  abbrev A : List CType → Type 0
  A types = AllByRecursion (HasWhole count) types

  less : (at : ℕ) → ended f.ends at ≤ count
  less = records_ended items f h beginnings

  visible_made : (x : List ℕ) (at : ℕ) (e : Entity) → visible f.names x at ≡ Some e → IsMadeEntity f count less e
  visible_made = MadeNames.visible_made f count less h.consistent items tree.3.well_formed h beginnings

  function_made : (n : ℕ) (g : AFunction) → slice_get f.functions n ≡ Some g → IsWellMade count g.ty
  function_made = MadeNames.function_made f count less h.consistent items tree.3.well_formed h beginnings

  -- what stands in a `sizeof` is complete
  sized : (a : Trees.Expression) (s : Scope) (t : CType) → IsMadeScope f count less s → IsMeasured (Erases a) s t → is_object count t ≡ true → H t
  sized a s t i m o = object_whole count t o

  fields : (r k : ℕ) (t : CType) → field_type f.records r k ≡ Some t → IsWellMade count t
  fields = field_made f count less visible_made H (made_whole count) sized bytes items tree h

  -- ---- objects

  store_whole : (s : Stores) → A (type_if_pointer s)
  store_whole (at, pointer t, v) = (tt, tt)
  store_whole (at, t, v) = tt

  object_types_whole : (n : ℕ) (o : AnObject) → slice_get f.objects n ≡ Some o → A (object_types f o)
  object_types_whole n o e = (object_whole count o.ty (whole n o e), of_lists H type_if_pointer (stored_in f o) (λ n s e. store_whole s))

  -- ---- functions

  abbrev of_body : Typed.Statement Noted → List CType
  of_body s = map (λ t. t.ty) (types_in_statement (recognised_statement s))

  result_whole : (t : CType) → IsResult t → H t
  result_whole t (inl e) = scalar_whole count t e
  result_whole t (inr e) = subst H (sym e) tt

  module _ (n : ℕ) (g : AFunction) (e : slice_get f.functions n ≡ Some g) where
    numbered : AllByRecursion (IsNumbered (types f)) (function_types g)
    numbered = at_place (λ (g : AFunction). AllByRecursion (IsNumbered (types f)) (function_types g)) f.functions (functions_numbered items f h beginnings) n g e

    declared_functions : (k : ℕ) (t : CType) → slice_get (in_function f g).functions k ≡ Some t → IsWellMade count t
    declared_functions k t q = let z = before_at (λ (g : AFunction). g.ty) f.functions k t q in subst (IsWellMade count) z.2 (function_made k z.0 z.1)

    module _ (d : IsDefinedFunction f count g) where
      abbrev S : Typed.Statement Noted
      S = Typed.block (declared_by d.all) d.all

      made_leaves : InStatements (IsWellMade count) (IsWellMade count) (λ n. Unit {0}) d.all
      made_leaves =
          let t = subst (IsWellMade count) d.ty_is (function_made n g e) in
          let i = body_scope f (λ t. is_object count t ≡ true) d.list d.types g.parameters d.bounds (g.parameters ++ g.locals) d.of_list t.2 in
          items_leaves (IsWellMade count) (IsWellMade count) (λ n. Unit {0}) (IsMadeScope f count less) (complete_known f count less visible_made) d.items _ d.all i
          d.erased

      nodes_whole : AreWhole H (types_in_statement (recognised_statement S))
      nodes_whole =
          statement_types H tt S
          (statement_whole (in_function f g) (λ t. is_object count t ≡ true) declared_functions fields H (made_whole count) (λ n. Unit {0}) d.result
          (result_whole d.result d.scalars.0) (λ n t e at u p. scalar_whole count u) S false false (source_typed items f h beginnings g numbered d) made_leaves)

      body_whole : A (flat_map of_body (if_any g.body))
      body_whole =
          let own = after_map (λ (t : Noted). H t.ty) H (λ (t : Noted). t.ty) (types_in_statement (recognised_statement S)) (λ t i. i) nodes_whole in
          subst (λ b. A (flat_map of_body (if_any b))) (sym d.body) (joined H (of_body S) [] own tt)

      locals_whole : A (map (λ l. l.ty) (g.parameters ++ g.locals))
      locals_whole =
          let T = types f in
          let L = of_unit (unit_of items f) in
          let G = Units.function f g in
          let numbers = of_types (λ (t : Noted). number_in T t.ty) in
          let body = mapped_statement numbers (recognised_statement S) in
          let complete = locals_complete L G body (typed_function items f h beginnings g numbered n e)
          (ap (option_map (λ s. mapped_statement numbers (recognised_statement s))) d.body) in
          let each_local = recursion_from_All (λ (x : Local). is_object count (type_at T x.ty) ≡ true) (G.parameters ++ G.locals) complete in
          subst A (all_same items f h beginnings g numbered)
          (after_map (λ (x : Local). is_object count (type_at T x.ty) ≡ true) H (λ (x : Local). type_at T x.ty) (G.parameters ++ G.locals)
          (λ x k. object_whole count (type_at T x.ty) k) each_local)

    function_types_whole : A (function_types g)
    function_types_whole = by_body (function_known f count less items h beginnings n g e)
      where
        of_parts : A (map (λ l. l.ty) (g.parameters ++ g.locals)) → A (flat_map of_body (if_any g.body)) → A (function_types g)
        of_parts l b =
            joined H (g.ty ∷ map (λ l. l.ty) (g.parameters ++ g.locals)) (flat_map of_body (if_any g.body)) (made_whole count g.ty (function_made n g e), l) b

        by_body : ((g.body ≡ None) × (g.parameters ≡ []) × (g.locals ≡ [])) ⊎ IsDefinedFunction f count g → A (function_types g)
        by_body (inr d) = of_parts (locals_whole d) (body_whole d)
        by_body (inl d) =
            of_parts
            (subst (λ all. A (map (λ (l : ALocal). l.ty) (all ++ g.locals))) (sym d.1) (subst (λ all. A (map (λ (l : ALocal). l.ty) all)) (sym d.2) tt))
            (subst (λ b. A (flat_map of_body (if_any b))) (sym d.0) tt)

  -- ---- mentions

  abbrev IsWholeMention : AMention → Type 0
  IsWholeMention m = HasWhole count m.ty

  object_mentions : (n : ℕ) (o : AnObject) → slice_get f.objects n ≡ Some o
      → AllByRecursion IsWholeMention (told_by_initial (option_map typed_initializer o.initial))
  object_mentions n o e = by_initial o.initial refl
    where
      by_initial : (i : Option (Typed.Initializer Noted)) → o.initial ≡ i → AllByRecursion IsWholeMention (told_by_initial (option_map typed_initializer i))
      by_initial None q = tt
      by_initial (Some i) q = initial_told count f o.ty i (h.initialized n o i e q)

  mentions_whole : AllByRecursion IsWholeMention (Units.mentions f)
  mentions_whole =
      joined IsWholeMention (filter (λ m. not (is_size_operand f m)) f.mentions)
      (flat_map (λ (o : AnObject). told_by_initial (option_map typed_initializer o.initial)) f.objects)
      (filtered IsWholeMention (λ m. not (is_size_operand f m)) f.mentions
      (each IsWholeMention f.mentions (mention_whole f count less visible_made H (made_whole count) sized bytes items tree h)))
      (of_lists IsWholeMention (λ (o : AnObject). told_by_initial (option_map typed_initializer o.initial)) f.objects object_mentions)

  -- ---- all of them

  all_types_whole : A (all_types f)
  all_types_whole =
      let a = of_lists H (object_types f) f.objects object_types_whole in
      let b = of_lists H function_types f.functions function_types_whole in
      let c = after_map IsWholeMention H (λ (m : AMention). m.ty) (Units.mentions f) (λ m k. k) mentions_whole in
      joined H (flat_map (object_types f) f.objects ++ flat_map function_types f.functions) (map (λ (m : AMention). m.ty) (Units.mentions f))
      (joined H (flat_map (object_types f) f.objects) (flat_map function_types f.functions) a b) c

  in_unit : (t : CType) → H t → HasWholeElements (unit_of items f) t
  in_unit (array t n) k = k
  in_unit t k = tt

  pub types_whole : HaveWholeElements (unit_of items f)
  types_whole =
      All-from_recursion (HasWholeElements (unit_of items f)) (types f)
      (all_among (HasWholeElements (unit_of items f)) (types f) (λ t i. in_unit t (all_is H (all_types f) all_types_whole t (of_all [] (all_types f) t i))))

module _ (places : TokensHavePlaces) (first : TreesBeginFirst) (texts : TextsAreInOrder) where
  pub units_have_whole_elements : UnitsHaveWholeElements
  units_have_whole_elements file name bytes items u tree e =
      let f = e.annotated in
      let beginnings = (marks_are_in_order places).beginnings bytes items f.untagged tree in
      subst HaveWholeElements (sym e.unit)
      (types_whole bytes items f tree e.of_tree beginnings (objects_whole places first texts name bytes items f tree e.tags e.of_tree))
