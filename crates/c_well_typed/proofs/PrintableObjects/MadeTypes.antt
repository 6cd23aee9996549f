-- The types of the unit of a file are those that declarators can make: of objects and functions, at the nodes of bodies and initializers, and those of which
-- the file speaks (C99 6.7.5).
use Rattle.std.proofs.Common.{◌≡◌, ◌∙◌, ℕ, suc, ◌+◌, ◌≤◌, Bool, true, false, refl, sym, ap, subst, cond, List, [], ◌∷◌, ◌++◌, length, length-append, map}
use Rattle.std.proofs.Common.{flat_map, filter, append-nil, arith, inl, inr}
use Rattle.std.proofs.lemmas.List.{map-append}
use Rattle.std.proofs.lemmas.List.Elements.{All-from_recursion}
use Rattle.std.specs.Prelude.{◌⊎◌, not, All, Option, Some, None, slice_get}
use Rattle.std.specs.List.{AllByRecursion}
use Rattle.std.specs.Option.{option_map}
use Rattle.c_types.specs.Objects.{is_object}
use Rattle.c_types.specs.Types.{CType, CTypes, and_type}
use Rattle.c_types.specs.Views.{listed}
use Rattle.c_ast.specs.Trees
use Rattle.c_ast.specs.TreesOfFiles.{IsTreeOf}
use Rattle.c_typed.specs.Constants.{ty}
use Rattle.c_typed.specs.Parts.{IsPart, itself, of_element, of_field}
use Rattle.c_typed.specs.Trees as Typed
use Rattle.c_typed.specs.Typed.{Declared, path_ty, field_type}
use Rattle.c_typed.specs.TypedStatements.{declared_by}
use Rattle.c_typed.specs.Walk.{types_in_statement, types_in_initializer}
use Rattle.c_erasure.specs.Erasure.{typed, literal_of, IsMeasured, IsTypedThing, IsOfType, Erases}
use Rattle.c_erasure.specs.Files.{count_up, AreAscending, IsFileOf, IsTypedObject}
use Rattle.c_erasure.specs.InitialMentions.{told_by_initial}
use Rattle.c_erasure.specs.Marks.{marks_of_file, scope_beginnings}
use Rattle.c_erasure.specs.Noted.{Noted, Expression, Path, Thing, an_object, a_value, a_function, a_function_at, a_library_function, type_of, type_of_path}
use Rattle.c_erasure.specs.Scopes.{Entity, ALocal, AFunction, AnObject, AMention, FileScope, Scope, measured, at_file_scope, declared, visible, ended}
use Rattle.c_erasure.specs.Units as Units
use Rattle.c_erasure.specs.Units.{recognised_statement, recognised_initializer, typed_initializer, if_any, is_size_operand, all_types, types, object_types}
use Rattle.c_erasure.specs.Units.{function_types, type_if_pointer, of_initializer, stored_in, unit_of}
use Rattle.c_well_typed.proofs.Allocations.{bare_itself}
use Rattle.c_well_typed.proofs.Definitions.{in_function, IsDefinedFunction, function_known}
use Rattle.c_well_typed.proofs.KnownTypes.{complete_known, body_scope}
use Rattle.c_well_typed.proofs.Leaves.{InInitializer, InStatements}
use Rattle.c_well_typed.proofs.MadeLeaves.{Knows, leaves, items_leaves, initializer_leaves}
use Rattle.c_well_typed.proofs.MadeNames as MadeNames
use Rattle.c_well_typed.proofs.MadeNodes.{AreWhole, made, path_made}
use Rattle.c_well_typed.proofs.MadeStatements.{HasParts, initializer_whole, statement_whole}
use Rattle.c_well_typed.proofs.NamedTypes.{IsMadeEntity, IsMadeScope}
use Rattle.c_well_typed.proofs.NamesInScope.{joined}
use Rattle.c_well_typed.proofs.Numbers.{IsAmong, IsNumbered, all_among, of_all}
use Rattle.c_well_typed.proofs.Recognised.{typed_path}
use Rattle.c_well_typed.proofs.RecognisedTypes.{statement_types, initializer_types}
use Rattle.c_well_typed.proofs.SpokenFiles.{mention_whole, field_made}
use Rattle.c_well_typed.proofs.UnitFunctions.{at_place, after_map, functions_numbered, source_typed}
use Rattle.c_well_typed.proofs.UnitObjects.{before_at}
use Rattle.c_well_typed.proofs.WellMade.{IsWellMade, AreWellMade}
use Rattle.c_well_typed.proofs.PrintableObjects.BareThings.{bare_thing}
use Rattle.c_well_typed.proofs.PrintableObjects.FileLiterals.{less, visible_made, walk, IsCovered, object_covered, locals_made}
use Rattle.c_well_typed.proofs.PrintableObjects.Literals.{IsLiteralObject}
use Rattle.c_well_typed.proofs.PrintableObjects.NamedParts.{front_of}
use Rattle.c_well_typed.proofs.PrintableObjects.Sources.{IsMadeLocal, IsFilled}
use Rattle.c_well_typed.proofs.PrintableObjects.ToldTypes as Told

some_is : {A : Type 0} (x y : A) → Some x ≡ Some y → x ≡ y
some_is x y h = cc

-- ---- lists

each : {A : Type 0} (P : A → Type 0) (xs : List A) → ((n : ℕ) (x : A) → slice_get xs n ≡ Some x → P x) → AllByRecursion P xs
each P [] h = tt
each P (x ∷ xs) h = (h 0 x refl, each P xs (λ n y e. h (suc n) y e))

of_lists : {A B : Type 0} (P : B → Type 0) (v : A → List B) (xs : List A) → ((n : ℕ) (x : A) → slice_get xs n ≡ Some x → AllByRecursion P (v x))
    → AllByRecursion P (flat_map v xs)
of_lists P v [] h = tt
of_lists P v (x ∷ xs) h = joined P (v x) (flat_map v xs) (h 0 x refl) (of_lists P v xs (λ n y e. h (suc n) y e))

filtered : {A : Type 0} (P : A → Type 0) (p : A → Bool) (xs : List A) → AllByRecursion P xs → AllByRecursion P (filter p xs)
filtered P p [] h = tt
filtered P p (x ∷ xs) h = by_test (p x) (filtered P p xs h.1)
  where
    by_test : (b : Bool) → AllByRecursion P (filter p xs) → AllByRecursion P (cond b (x ∷ filter p xs) (filter p xs))
    by_test true k = (h.0, k)
    by_test false k = k

all_is : {A : Type 0} (P : A → Type 0) (xs : List A) → AllByRecursion P xs → (x : A) → IsAmong x xs → P x
all_is P [] h x i = absurd i
all_is P (y ∷ xs) h x (inl e) = subst P (sym e) h.0
all_is P (y ∷ xs) h x (inr i) = all_is P xs h.1 x i

-- what is known of the numbers that are counted is so of the elements that have them
counted_at : {A : Type 0} (Q : ℕ → Type 0) (P : A → Type 0) (b : List A) (from : ℕ) → ((k : ℕ) (x : A) → slice_get b k ≡ Some x → Q (from + k) → P x)
    → AllByRecursion Q (count_up from (length b)) → AllByRecursion P b
counted_at Q P [] from f h = tt
counted_at Q P (x ∷ b) from f h =
    let z : from ≡ from + 0 = omega arith in (
      f 0 x refl (subst Q z h.0),
      counted_at Q P b (from + 1) (λ k y e q. let s : from + 1 + k ≡ from + suc k = omega arith in f (suc k) y e (subst Q s q)) h.1,
    )

after_first : {A : Type 0} (a b : List A) (k : ℕ) → slice_get (a ++ b) (length a + k) ≡ slice_get b k
after_first [] b k = let l : 0 + k ≡ k = omega arith in ap (slice_get b) l
after_first (x ∷ a) b k = let l : suc (length a) + k ≡ suc (length a + k) = omega arith in ap (slice_get (x ∷ (a ++ b))) l ∙ after_first a b k

module _ (bytes : List ℕ) (items : List Trees.Item) (f : FileScope) (tree : IsTreeOf bytes items) (h : IsFileOf items f)
    (beginnings : AreAscending (scope_beginnings (marks_of_file f.untagged items))) where
  abbrev N : ℕ
  N = length f.records

  abbrev W : CType → Type 0
  W = IsWellMade N

  abbrev Ws : List CType → Type 0
  Ws types = AllByRecursion (IsWellMade N) types

  abbrev L : (at : ℕ) → ended f.ends at ≤ N
  L = less bytes items f tree h beginnings

  abbrev V : (x : List ℕ) (at : ℕ) (e : Entity) → visible f.names x at ≡ Some e
      → IsMadeEntity f N L e
  V = visible_made bytes items f tree h beginnings

  -- the elements of arrays are complete
  abbrev E : CType → Type 0
  E t = is_object N t ≡ true

  abbrev anywhere : ℕ → Type 0
  anywhere n = Unit {0}

  abbrev In : Scope → Type 0
  In s = IsMadeScope f N L s

  K : Knows W W anywhere In
  K = complete_known f N L V

  -- ---- functions, fields and parts

  function_made : (n : ℕ) (g : AFunction) → slice_get f.functions n ≡ Some g → W g.ty
  function_made = MadeNames.function_made f N L h.consistent items tree.3.well_formed h beginnings

  functions_made : (n : ℕ) (t : CType) → slice_get (map (λ (g : AFunction). g.ty) f.functions) n ≡ Some t → W t
  functions_made n t q = let z = before_at (λ (g : AFunction). g.ty) f.functions n t q in subst W z.2 (function_made n z.0 z.1)

  fields : (r k : ℕ) (t : CType) → field_type f.records r k ≡ Some t → W t
  fields = field_made f N L V (λ t. Unit {0}) (λ t w. tt) (λ a s t i m o. tt) bytes items tree h

  part_made : (t u : CType) (at : ℕ) → IsPart f.records t at u → W t → W u
  part_made t u at (itself s) w = w
  part_made t u at (of_element s v n k by l p) w = part_made s v by p w.2
  part_made t u at (of_field s v r field by e p) w = part_made s v by p (fields r field s e)

  -- ---- the operands of `sizeof`

  path_same : (p : Path) → path_ty (typed_path p) ≡ type_of_path p
  path_same (Typed.path t at step) = refl

  type_same : (e : Expression) → ty (typed e) ≡ type_of e
  type_same (Typed.expression t at node) = refl

  sized : (a : Trees.Expression) (s : Scope) (t : CType) → IsMadeScope f N L s → IsMeasured (Erases a) s t → is_object N t ≡ true → W t
  sized a s t i m o = by_operand m.0 m.1 m.2 m.3
    where
      d : Declared
      d = declared s

      own_functions : (n : ℕ) (t : CType) → slice_get (map (λ (g : AFunction). g.ty) s.file.functions) n ≡ Some t → W t
      own_functions n t e = functions_made n t (subst (λ (f : FileScope). slice_get (map (λ (g : AFunction). g.ty) f.functions) n ≡ Some t) i.0 e)

      own_fields : (r k : ℕ) (t : CType) → field_type s.file.records r k ≡ Some t → W t
      own_fields r k t e = fields r k t (subst (λ (f : FileScope). field_type f.records r k ≡ Some t) i.0 e)

      by_operand : (th : Thing) → Erases a (measured s) th → IsTypedThing s th → IsOfType th t → W t
      by_operand (an_object p) e k q =
          let l = leaves W W anywhere In K a (measured s) (an_object p) i e in
          subst W (path_same p ∙ q) (path_made d E own_functions own_fields p k l)
      by_operand (a_value x) e k q =
          let l = leaves W W anywhere In K a (measured s) (a_value x) i e in
          let b = bare_thing a (measured s) (a_value x) e in
          let w = made d E own_functions own_fields x k l in
          subst W (type_same x ∙ q) (subst (λ x. W (ty x)) (bare_itself (typed x) b) w)
      by_operand (a_function at g u) e k q = absurd q
      by_operand (a_function_at x) e k q = absurd q
      by_operand (a_library_function at which) e k q = absurd q

  mention_made : (k : ℕ) (m : AMention) → slice_get f.mentions k ≡ Some m → W m.ty
  mention_made = mention_whole f N L V W (λ t w. w) sized bytes items tree h

  -- ---- objects

  literal_made : (o : AnObject) → IsLiteralObject o → W o.ty
  literal_made o l =
      subst (λ (o : AnObject). W o.ty) (sym l.1) (long, refl, tt)
    where
      long : 1 ≤ length (literal_of l.0)
      long =
          let r = front_of l.0 in
          let e = ap length r.1 in
          let m = length-append r.0 (0 ∷ []) in
          omega (arith, e, m)

  covered : (n : ℕ) (o : AnObject) → slice_get f.objects n ≡ Some o → IsCovered bytes items f tree h beginnings 0 0 n o
  covered = object_covered bytes items f tree h beginnings 0 0

  object_made : (n : ℕ) (o : AnObject) → slice_get f.objects n ≡ Some o → W o.ty
  object_made n o e = by_kind (covered n o e)
    where
      by_kind : IsCovered bytes items f tree h beginnings 0 0 n o → W o.ty
      by_kind (inl l) = literal_made o l
      by_kind (inr s) = let x = s.0 in x.made

  -- the types at the nodes of what initializes it
  abbrev HasMade : Typed.Initializer Noted → Type 0
  HasMade i = AreWhole W (types_in_initializer (recognised_initializer i))

  initial_made : (n : ℕ) (o : AnObject) (i : Typed.Initializer Noted) → slice_get f.objects n ≡ Some o → o.initial ≡ Some i → HasMade i
  initial_made n o i e q = by_kind (covered n o e)
    where
      parts : HasParts (declared (at_file_scope f)) E functions_made fields W (λ t w. w) o.ty
      parts at u p s = part_made o.ty u at p (object_made n o e)

      typed_whole : (i : Typed.Initializer Noted) → IsTypedObject f o.ty i → InInitializer W W i
          → AreWhole W (types_in_initializer i)
      typed_whole (Typed.parts []) t l = tt
      typed_whole (Typed.parts (part ∷ all)) t l =
          initializer_whole (declared (at_file_scope f)) E functions_made fields W (λ t w. w) o.ty (Typed.parts (part ∷ all)) parts t l
      typed_whole (Typed.whole x) t l = initializer_whole (declared (at_file_scope f)) E functions_made fields W (λ t w. w) o.ty (Typed.whole x) parts t l
      typed_whole (Typed.whole_record p) t l =
          initializer_whole (declared (at_file_scope f)) E functions_made fields W (λ t w. w) o.ty (Typed.whole_record p) parts t l

      of_filled : IsFilled (walk bytes items f tree h beginnings 0 0) o.ty i → HasMade i
      of_filled (inl z) = subst HasMade (sym z) tt
      of_filled (inr x) =
          let full = x.full in
          initializer_types W tt i
          (typed_whole i (h.initialized n o i e q) (initializer_leaves W W anywhere In K x.tree x.scope o.ty i full.made x.erased))

      by_kind : IsCovered bytes items f tree h beginnings 0 0 n o → HasMade i
      by_kind (inl l) = subst HasMade (some_is _ i (sym (ap (λ (o : AnObject). o.initial) l.1) ∙ q)) tt
      by_kind (inr s) = let x = s.0 in of_filled (x.filled i q)

  object_types_made : (n : ℕ) (o : AnObject) → slice_get f.objects n ≡ Some o → Ws (object_types f o)
  object_types_made n o e = (object_made n o e, by_initial o.initial refl)
    where
      by_initial : (i : Option (Typed.Initializer Noted)) → o.initial ≡ i
          → Ws (flat_map type_if_pointer (flat_map (λ i. of_initializer f (typed_initializer i)) (if_any i)))
      by_initial None q = tt
      by_initial (Some i) q =
          subst (λ all. Ws (flat_map type_if_pointer all)) (sym (append-nil (of_initializer f (typed_initializer i))))
          (Told.initializer_types W (λ r. tt) f (recognised_initializer i) (initial_made n o i e q))

  -- ---- functions

  module _ (n : ℕ) (g : AFunction) (e : slice_get f.functions n ≡ Some g) (d : IsDefinedFunction f N g) where
    abbrev S : Typed.Statement Noted
    S = Typed.block (declared_by d.all) d.all

    types_made : (W d.result) × AreWellMade N d.types
    types_made = let t = subst W d.ty_is (function_made n g e) in (t.1, t.2)

    each_listed : (all : List CType) (types : CTypes) → listed all ≡ types → AreWellMade N types → Ws all
    each_listed [] types q w = tt
    each_listed (t ∷ all) types q w =
        let own : AreWellMade N (and_type t (listed all)) = subst (AreWellMade N) (sym q) w in (own.1, each_listed all (listed all) refl own.2)

    own_locals : Ws (map (λ l. l.ty) g.locals)
    own_locals =
        let some : g.body ≡ None → ⊥ = λ z. absurd (no_body (sym z ∙ d.body)) in
        let all = locals_made bytes items f tree h beginnings 0 0 n g e some in
        after_map (λ (l : ALocal). W l.ty) W (λ (l : ALocal). l.ty) g.locals (λ l w. w)
        (counted_at (IsMadeLocal (walk bytes items f tree h beginnings 0 0) (g.parameters ++ g.locals)) (λ (l : ALocal). W l.ty) g.locals (length g.parameters)
        (λ k l q made. made l (after_first g.parameters g.locals k ∙ q)) all)
      where
        no_body : None ≡ Some (Typed.block (declared_by d.all) d.all) → ⊥
        no_body z = cc

    locals_types : Ws (map (λ l. l.ty) (g.parameters ++ g.locals))
    locals_types =
        subst Ws (sym (map-append (λ (l : ALocal). l.ty) g.parameters g.locals))
        (joined W (map (λ (l : ALocal). l.ty) g.parameters) (map (λ (l : ALocal). l.ty) g.locals)
        (each_listed (map (λ (l : ALocal). l.ty) g.parameters) d.types d.parameters types_made.1) own_locals)

    local_parts : (k : ℕ) (t : CType) → slice_get (in_function f g).locals k ≡ Some t
        → HasParts (in_function f g) E functions_made fields W (λ t w. w) t
    local_parts k t q at u p s = part_made t u at p (at_place W (map (λ (l : ALocal). l.ty) (g.parameters ++ g.locals)) locals_types k t q)

    made_leaves : InStatements W W anywhere d.all
    made_leaves =
        let i = body_scope f E d.list d.types g.parameters d.bounds (g.parameters ++ g.locals) d.of_list types_made.1 in
        items_leaves W W anywhere In K d.items _ d.all i d.erased

    numbered : AllByRecursion (IsNumbered (types f)) (function_types g)
    numbered = at_place (λ (g : AFunction). AllByRecursion (IsNumbered (types f)) (function_types g)) f.functions (functions_numbered items f h beginnings) n g e

    nodes_made : AreWhole W (types_in_statement (recognised_statement S))
    nodes_made =
        statement_types W tt S
        (statement_whole (in_function f g) E functions_made fields W (λ t w. w) anywhere d.result types_made.0 local_parts S false false
        (source_typed items f h beginnings g numbered d) made_leaves)

  abbrev of_body : Typed.Statement Noted → List CType
  of_body s = map (λ t. t.ty) (types_in_statement (recognised_statement s))

  function_types_made : (n : ℕ) (g : AFunction) → slice_get f.functions n ≡ Some g → Ws (function_types g)
  function_types_made n g e = by_body (function_known f N L items h beginnings n g e)
    where
      of_parts : Ws (map (λ l. l.ty) (g.parameters ++ g.locals)) → Ws (flat_map of_body (if_any g.body)) → Ws (function_types g)
      of_parts l b =
          joined W (g.ty ∷ map (λ l. l.ty) (g.parameters ++ g.locals)) (flat_map of_body (if_any g.body)) (function_made n g e, l) b

      by_body : ((g.body ≡ None) × (g.parameters ≡ []) × (g.locals ≡ [])) ⊎ IsDefinedFunction f N g → Ws (function_types g)
      by_body (inr d) =
          let s = Typed.block (declared_by d.all) d.all in
          let own = after_map (λ (t : Noted). W t.ty) W (λ (t : Noted). t.ty) (types_in_statement (recognised_statement s)) (λ t i. i) (nodes_made n g e d) in
          of_parts (locals_types n g e d) (subst (λ b. Ws (flat_map of_body (if_any b))) (sym d.body) (joined W (of_body s) [] own tt))
      by_body (inl d) =
          of_parts
          (subst (λ all. Ws (map (λ (l : ALocal). l.ty) (all ++ g.locals))) (sym d.1) (subst (λ all. Ws (map (λ (l : ALocal). l.ty) all)) (sym d.2) tt))
          (subst (λ b. Ws (flat_map of_body (if_any b))) (sym d.0) tt)

  -- ---- mentions

  abbrev IsMadeMention : AMention → Type 0
  IsMadeMention m = W m.ty

  object_mentions : (n : ℕ) (o : AnObject) → slice_get f.objects n ≡ Some o
      → AllByRecursion IsMadeMention (told_by_initial (option_map typed_initializer o.initial))
  object_mentions n o e = by_initial o.initial refl
    where
      by_initial : (i : Option (Typed.Initializer Noted)) → o.initial ≡ i → AllByRecursion IsMadeMention (told_by_initial (option_map typed_initializer i))
      by_initial None q = tt
      by_initial (Some i) q = Told.initial_told W (λ r. tt) (recognised_initializer i) (initial_made n o i e q)

  mentions_made : AllByRecursion IsMadeMention (Units.mentions f)
  mentions_made =
      joined IsMadeMention (filter (λ m. not (is_size_operand f m)) f.mentions)
      (flat_map (λ (o : AnObject). told_by_initial (option_map typed_initializer o.initial)) f.objects)
      (filtered IsMadeMention (λ m. not (is_size_operand f m)) f.mentions (each IsMadeMention f.mentions mention_made))
      (of_lists IsMadeMention (λ (o : AnObject). told_by_initial (option_map typed_initializer o.initial)) f.objects object_mentions)

  -- ---- all of them

  all_made : Ws (all_types f)
  all_made =
      let a = of_lists W (object_types f) f.objects object_types_made in
      let b = of_lists W function_types f.functions function_types_made in
      let c = after_map IsMadeMention W (λ (m : AMention). m.ty) (Units.mentions f) (λ m k. k) mentions_made in
      joined W (flat_map (object_types f) f.objects ++ flat_map function_types f.functions) (map (λ (m : AMention). m.ty) (Units.mentions f))
      (joined W (flat_map (object_types f) f.objects) (flat_map function_types f.functions) a b) c

  pub types_all_made : All (IsWellMade N) (types f)
  types_all_made =
      All-from_recursion W (types f) (all_among W (types f) (λ t i. all_is W (all_types f) all_made t (of_all [] (all_types f) t i)))

  pub fields_made : (r k : ℕ) (t : CType) → field_type f.records r k ≡ Some t → IsWellMade N t
  fields_made = fields
