-- The functions of the unit of an annotated file are well typed over its lists.
use Rattle.std.proofs.Common.{◌≡◌, ◌∙◌, ℕ, zero, suc, ◌+◌, ◌≤◌, ◌<◌, Bool, true, false, refl, sym, ap, subst, cond, List, [], ◌∷◌, ◌++◌, length, map, flat_map}
use Rattle.std.proofs.Common.{arith, inl, inr}
use Rattle.std.proofs.lemmas.List.{map-append, length-map}
use Rattle.std.proofs.lemmas.List.Elements.{recursion_from_All, All-from_recursion}
use Rattle.std.specs.Prelude.{◌⊎◌, All, Some, None, slice_get, nat_lt, codes}
use Rattle.std.specs.List.{AllByRecursion}
use Rattle.std.specs.Option.{option_map}
use Rattle.c_tokens.specs.TokenPlaces.{TokensHavePlaces}
use Rattle.c_types.specs.declared.ty.IntKind.TheVariants.{Int}
use Rattle.c_types.specs.Objects.{is_object}
use Rattle.c_types.specs.Types.{CType, CTypes, integer, function, no_types}
use Rattle.c_types.specs.Views.{listed}
use Rattle.c_ast.specs.Laws.{TreesBeginFirst}
use Rattle.c_ast.specs.Trees
use Rattle.c_typed.specs.declared.program.Local.{Local}
use Rattle.c_typed.specs.Conversions.{is_function}
use Rattle.c_typed.specs.Mapped.{Renaming, of_types, mapped_statement}
use Rattle.c_typed.specs.Programs.{FunctionData, UnitData}
use Rattle.c_typed.specs.Trees as Typed
use Rattle.c_typed.specs.Typed.{Declared}
use Rattle.c_typed.specs.TypedStatements.{declared_by, all_declared, IsTypedStatement, AreTyped}
use Rattle.c_typed.specs.TypeNumbers.{type_at}
use Rattle.c_typed.specs.Walk.{types_in_statement}
use Rattle.c_erasure.specs.Declarators.{IsSmall}
use Rattle.c_erasure.specs.Files.{AreAscending, IsFileOf, without_notes}
use Rattle.c_erasure.specs.Files as Files
use Rattle.c_erasure.specs.Marks.{Mark, a_tag, an_end, a_name, marks_of_file, scope_beginnings, ends_in, defined_in}
use Rattle.c_erasure.specs.Noted.{Noted}
use Rattle.c_erasure.specs.Scopes.{ALocal, AFunction, AnObject, FileScope, ended}
use Rattle.c_erasure.specs.Units as Units
use Rattle.c_erasure.specs.Units.{recognised_statement, if_any, all_types, types, object_types, function_types, number_in, locals, taken_in, unit_of}
use Rattle.c_erasure.proofs.MarkPlaces.Ordered.{marks_are_in_order}
use Rattle.c_checking_laws.specs.TextOrder.TextOrder.{TextsAreInOrder}
use Rattle.c_checking_units.proofs.WholeFiles.{text_whole}
use Rattle.c_well_typed.specs.Laws.{UnitsHaveTypedFunctions}
use Rattle.c_well_typed.specs.WellTyped.{Lists, of_unit, count_up, declared_in, AreDifferent, IsSmallType, HasFewParts, HasBody, IsTypedFunction, HasObjectType}
use Rattle.c_well_typed.specs.WellTyped.{HaveTypedFunctions}
use Rattle.c_well_typed.proofs.Composed as Composed
use Rattle.c_well_typed.proofs.Definitions.{in_function, IsDefinedFunction, is_function_type, function_known}
use Rattle.c_well_typed.proofs.Labels.{all_declared_mapped, all_declared_recognised, declared_mapped}
use Rattle.c_well_typed.proofs.Numbers.{all_among, two_parts, of_each, taken_up, AreOnce, once, IsNumbered, numbered}
use Rattle.c_well_typed.proofs.Recognised.{with_complete}
use Rattle.c_well_typed.proofs.RecognisedStatements.{typed_statement, typed_statements, statement_keeps}
use Rattle.c_well_typed.proofs.TypesMapped as TypesMapped
use Rattle.c_well_typed.proofs.WholeObjects.{objects_whole}

-- ---- lists

some_is : {A : Type 0} (x y : A) → Some x ≡ Some y → x ≡ y
some_is x y h = cc

pub at_place : {A : Type 0} (P : A → Type 0) (xs : List A) → AllByRecursion P xs → (k : ℕ) (x : A) → slice_get xs k ≡ Some x → P x
at_place P [] h k x e = cc
at_place P (y ∷ xs) h zero x e = subst P (some_is y x e) h.0
at_place P (y ∷ xs) h (suc k) x e = at_place P xs h.1 k x e

each_mapped : {A B : Type 0} (P : B → Type 0) (v : A → B) (xs : List A) → ((j : ℕ) (x : A) → slice_get xs j ≡ Some x → P (v x))
    → AllByRecursion P (map v xs)
each_mapped P v [] h = tt
each_mapped P v (x ∷ xs) h = (h 0 x refl, each_mapped P v xs (λ j y e. h (suc j) y e))

before_map : {A B : Type 0} (P : B → Type 0) (Q : A → Type 0) (v : A → B) (xs : List A) → ((x : A) → P (v x) → Q x) → AllByRecursion P (map v xs)
    → AllByRecursion Q xs
before_map P Q v [] f h = tt
before_map P Q v (x ∷ xs) f h = (f x h.0, before_map P Q v xs f h.1)

pub after_map : {A B : Type 0} (P : A → Type 0) (Q : B → Type 0) (v : A → B) (xs : List A) → ((x : A) → P x → Q (v x)) → AllByRecursion P xs
    → AllByRecursion Q (map v xs)
after_map P Q v [] f h = tt
after_map P Q v (x ∷ xs) f h = (f x h.0, after_map P Q v xs f h.1)

joined : {A : Type 0} (P : A → Type 0) (xs ys : List A) → AllByRecursion P xs → AllByRecursion P ys → AllByRecursion P (xs ++ ys)
joined P [] ys h k = k
joined P (x ∷ xs) ys h k = (h.0, joined P xs ys h.1 k)

-- ---- how many records are complete at a byte

ends_count : (ms : List Mark) → length (ends_in ms) ≡ length (defined_in ms)
ends_count [] = refl
ends_count (a_tag t ∷ ms) = ends_count ms
ends_count (a_name from ∷ ms) = ends_count ms
ends_count (an_end tag right ∷ ms) = ap suc (ends_count ms)

ended_less : (ends : List ℕ) (at : ℕ) → ended ends at ≤ length ends
ended_less [] at = omega arith
ended_less (end ∷ more) at = let r = ended_less more at in by_test (nat_lt end at) r
  where
    by_test : (b : Bool) → ended more at ≤ length more → (cond b 1 0) + ended more at ≤ length (end ∷ more)
    by_test true r = omega (arith, r)
    by_test false r = omega (arith, r)

-- ---- statements

without_is : (all : Typed.Statements Noted) → without_notes all ≡ typed_statements all
without_is Typed.no_statements = refl
without_is (Typed.and_statement s more) = ap (Typed.and_statement (typed_statement s)) (without_is more)

pub count_up_is : (from count : ℕ) → Files.count_up from count ≡ count_up from count
count_up_is from zero = refl
count_up_is from (suc count) = ap (λ l. from ∷ l) (count_up_is (from + 1) count)

function_is : (t : CType) → is_function t ≡ true → (result : CType) × (parameters : CTypes) × (t ≡ function result parameters)
function_is (function result parameters) h = (result, parameters, refl)
function_is t h = cc

module _ (items : List Trees.Item) (f : FileScope) (h : IsFileOf items f) (beginnings : AreAscending (scope_beginnings (marks_of_file f.untagged items))) where
  abbrev T : List CType
  T = types f

  abbrev L : Lists
  L = of_unit (unit_of items f)

  abbrev Is : CType → Type 0
  Is t = IsNumbered T t

  abbrev count : ℕ
  count = length f.records

  pub records_ended : (at : ℕ) → ended f.ends at ≤ count
  records_ended at =
      let a = ended_less f.ends at in
      let b : length f.ends ≡ length (ends_in (marks_of_file f.untagged items)) = ap length h.ends in
      let c = ends_count (marks_of_file f.untagged items) in
      let d : length (map (λ r. r.tag) f.records) ≡ length (defined_in (marks_of_file f.untagged items)) = ap length h.records in
      let e : length (map (λ r. r.tag) f.records) ≡ length f.records = length-map f.records (λ r. r.tag) in
      omega (arith, a, b, c, d, e)

  -- ---- all types are numbered

  abbrev ObjectNumbered : AnObject → Type 0
  ObjectNumbered o = AllByRecursion Is (object_types f o)

  abbrev FunctionNumbered : AFunction → Type 0
  FunctionNumbered g = AllByRecursion Is (function_types g)

  numbered_all : AllByRecursion Is (all_types f)
  numbered_all = all_among Is (all_types f) (λ t i. numbered T t (taken_up (all_types f) t i))

  parts : AllByRecursion Is (flat_map (object_types f) f.objects) × AllByRecursion Is (flat_map function_types f.functions)
  parts =
      let a = two_parts Is (flat_map (object_types f) f.objects ++ flat_map function_types f.functions) (map (λ m. m.ty) (Units.mentions f)) numbered_all in
      two_parts Is (flat_map (object_types f) f.objects) (flat_map function_types f.functions) a.0

  pub objects_numbered : AllByRecursion ObjectNumbered f.objects
  objects_numbered = of_each Is (object_types f) f.objects parts.0

  pub functions_numbered : AllByRecursion FunctionNumbered f.functions
  functions_numbered = of_each Is function_types f.functions parts.1

  objects_same : (all : List AnObject) → AllByRecursion ObjectNumbered all → map (λ o. type_at T o.ty) (map (Units.object f) all) ≡ map (λ o. o.ty) all
  objects_same [] k = refl
  objects_same (o ∷ all) k = rw (k.0.0.1, objects_same all k.1) refl

  functions_same : (all : List AFunction) → AllByRecursion FunctionNumbered all → map (λ g. type_at T g.ty) (map (Units.function f) all) ≡ map (λ g. g.ty) all
  functions_same [] k = refl
  functions_same (g ∷ all) k = rw (k.0.0.1, functions_same all k.1) refl

  -- ---- locals

  locals_same : (taken : List ℕ) (n : ℕ) (all : List ALocal) → AllByRecursion Is (map (λ l. l.ty) all)
      → map (λ x. type_at T x.ty) (locals f taken n all) ≡ map (λ l. l.ty) all
  locals_same taken n [] k = refl
  locals_same taken n (l ∷ all) k = rw (k.0.1, locals_same taken (n + 1) all k.1) refl

  locals_ranged : (taken : List ℕ) (n : ℕ) (all : List ALocal) → AllByRecursion Is (map (λ l. l.ty) all)
      → AllByRecursion (λ (x : Local). x.ty < length T) (locals f taken n all)
  locals_ranged taken n [] k = tt
  locals_ranged taken n (l ∷ all) k = (k.0.0, locals_ranged taken (n + 1) all k.1)

  locals_length : (taken : List ℕ) (n : ℕ) (all : List ALocal) → length (locals f taken n all) ≡ length all
  locals_length taken n [] = refl
  locals_length taken n (l ∷ all) = ap suc (locals_length taken (n + 1) all)

  -- ---- a function

  abbrev whole : List CType → List CType → List CType → Declared
  whole own objects functions = record { records = f.records; complete = λ at. count; locals = own; objects = objects; functions = functions }

  abbrev numbers : Renaming Noted ℕ
  numbers = of_types (λ t. number_in T t.ty)

  module _ (g : AFunction) (k : FunctionNumbered g) where
    abbrev G : FunctionData
    G = Units.function f g

    abbrev of_body : Typed.Statement Noted → List CType
    of_body s = map (λ t. t.ty) (types_in_statement (recognised_statement s))

    own_types : AllByRecursion Is (g.ty ∷ map (λ l. l.ty) (g.parameters ++ g.locals)) × AllByRecursion Is (flat_map of_body (if_any g.body))
    own_types = two_parts Is (g.ty ∷ map (λ l. l.ty) (g.parameters ++ g.locals)) (flat_map of_body (if_any g.body)) k

    of_locals : AllByRecursion Is (map (λ l. l.ty) g.parameters) × AllByRecursion Is (map (λ l. l.ty) g.locals)
    of_locals =
        two_parts Is (map (λ l. l.ty) g.parameters) (map (λ l. l.ty) g.locals)
        (subst (AllByRecursion Is) (map-append (λ (l : ALocal). l.ty) g.parameters g.locals) own_types.0.1)

    all_ranged : All (λ x. x.ty < length T) (G.parameters ++ G.locals)
    all_ranged =
        All-from_recursion (λ (x : Local). x.ty < length T) (G.parameters ++ G.locals)
        (joined (λ (x : Local). x.ty < length T) G.parameters G.locals (locals_ranged (taken_in g) 0 g.parameters of_locals.0)
        (locals_ranged (taken_in g) (length g.parameters) g.locals of_locals.1))

    parameters_same : map (λ x. type_at T x.ty) G.parameters ≡ map (λ l. l.ty) g.parameters
    parameters_same = locals_same (taken_in g) 0 g.parameters of_locals.0

    pub all_same : map (λ x. type_at T x.ty) (G.parameters ++ G.locals) ≡ map (λ l. l.ty) (g.parameters ++ g.locals)
    all_same =
        map-append (λ (x : Local). type_at T x.ty) G.parameters G.locals
        ∙ ap (λ own. own ++ map (λ (x : Local). type_at T x.ty) G.locals) parameters_same
        ∙ ap (λ own. map (λ (l : ALocal). l.ty) g.parameters ++ own) (locals_same (taken_in g) (length g.parameters) g.locals of_locals.1)
        ∙ sym (map-append (λ (l : ALocal). l.ty) g.parameters g.locals)

    -- ---- its body

    module _ (d : IsDefinedFunction f count g) where
      abbrev S : Typed.Statement Noted
      S = Typed.block (declared_by d.all) d.all

      abbrev R : Typed.Statement Noted
      R = recognised_statement S

      body_numbered : AllByRecursion Is (map (λ t. t.ty) (types_in_statement R))
      body_numbered =
          (two_parts Is (of_body S) [] (subst (λ b. AllByRecursion Is (flat_map of_body (if_any b))) d.body own_types.1)).0

      body_ranged : All (λ i. i < length T) (types_in_statement (mapped_statement numbers R))
      body_ranged =
          subst (All (λ i. i < length T)) (sym (TypesMapped.types_of_statement numbers R))
          (All-from_recursion (λ i. i < length T) (map (λ (t : Noted). number_in T t.ty) (types_in_statement R))
          (after_map (λ (t : Noted). Is t.ty) (λ i. i < length T) (λ (t : Noted). number_in T t.ty) (types_in_statement R) (λ t i. i.0)
          (before_map Is (λ (t : Noted). Is t.ty) (λ (t : Noted). t.ty) (types_in_statement R) (λ t i. i) body_numbered)))

      body_same : mapped_statement (of_types (type_at T)) (mapped_statement numbers R) ≡ typed_statement R
      body_same =
          Composed.of_statement numbers (of_types (type_at T)) (of_types (λ (t : Noted). t.ty)) (λ i. refl) (λ i. refl) (λ i. refl) R
          (before_map Is (λ (t : Noted). type_at T (number_in T t.ty) ≡ t.ty) (λ (t : Noted). t.ty) (types_in_statement R) (λ t i. i.1) body_numbered)

      pub source_typed : IsTypedStatement (in_function f g) d.result false false (typed_statement S)
      source_typed = (
        sym (declared_mapped (of_types (λ (t : Noted). t.ty)) d.all),
        subst (AreTyped (in_function f g) d.result false false) (without_is d.all) d.typed,
      )

      kept : IsTypedStatement (with_complete count (in_function f g)) d.result false false (typed_statement R)
      kept = statement_keeps (in_function f g) count records_ended d.result S false false d.noted source_typed

      body_typed : IsTypedStatement (declared_in L G) d.result false false (mapped_statement (of_types (type_at T)) (mapped_statement numbers R))
      body_typed =
          let own = map (λ (l : ALocal). l.ty) (g.parameters ++ g.locals) in
          let objects = map (λ (o : AnObject). o.ty) f.objects in
          let functions = map (λ (g : AFunction). g.ty) f.functions in
          let a = subst (λ own. IsTypedStatement (whole own objects functions) d.result false false (typed_statement R)) (sym all_same) kept in
          let b = subst (λ objects. IsTypedStatement (whole (map (λ x. type_at T x.ty) (G.parameters ++ G.locals)) objects functions) d.result false false (typed_statement R))
          (sym (objects_same f.objects objects_numbered)) a in
          let c = subst (λ functions. IsTypedStatement (whole (map (λ x. type_at T x.ty) (G.parameters ++ G.locals))
          (map (λ o. type_at T o.ty) (map (Units.object f) f.objects)) functions) d.result false false (typed_statement R))
          (sym (functions_same f.functions functions_numbered)) b in
          subst (IsTypedStatement (declared_in L G) d.result false false) (sym body_same) c

      body_declared : all_declared (mapped_statement numbers R) ≡ count_up (length G.parameters) (length G.locals)
      body_declared =
          all_declared_mapped numbers R ∙ all_declared_recognised S ∙ d.declared_all
          ∙ count_up_is (length g.parameters) (length g.locals)
          ∙ ap (λ n. count_up n (length g.locals)) (sym (locals_length (taken_in g) 0 g.parameters))
          ∙ ap (count_up (length G.parameters)) (sym (locals_length (taken_in g) (length g.parameters) g.locals))

      has_body : HasBody L G d.result d.types (option_map (λ s. mapped_statement numbers (recognised_statement s)) g.body)
      has_body =
          subst (λ b. HasBody L G d.result d.types (option_map (λ s. mapped_statement numbers (recognised_statement s)) b)) (sym d.body)
          (d.scalars.0, d.scalars.1, ap listed parameters_same ∙ d.parameters, (body_ranged, body_typed, body_declared))

      defined : IsTypedFunction L G
      defined = (d.result, d.types, own_types.0.0.0, own_types.0.0.1 ∙ d.ty_is, all_ranged, has_body)

    -- ---- one that is only declared

    declared_only : is_function g.ty ≡ true → (g.body ≡ None) × (g.parameters ≡ []) × (g.locals ≡ []) → IsTypedFunction L G
    declared_only t e =
        let is = function_is g.ty t in (
          is.0,
          is.1,
          own_types.0.0.0,
          own_types.0.0.1 ∙ is.2,
          all_ranged,
          subst (λ b. HasBody L G is.0 is.1 (option_map (λ s. mapped_statement numbers (recognised_statement s)) b)) (sym e.0)
              (ap (locals f (taken_in g) 0) e.1, ap (locals f (taken_in g) (length g.parameters)) e.2),
        )

    pub typed_function : (n : ℕ) → slice_get f.functions n ≡ Some g → IsTypedFunction L G
    typed_function n e = by_body (function_known f count records_ended items h beginnings n g e)
      where
        by_body : ((g.body ≡ None) × (g.parameters ≡ []) × (g.locals ≡ [])) ⊎ IsDefinedFunction f count g → IsTypedFunction L G
        by_body (inl d) = declared_only (is_function_type f count records_ended items h beginnings n g e) d
        by_body (inr d) = defined d

  -- ---- all functions

  pub functions_typed : All (IsTypedFunction L) (map (Units.function f) f.functions)
  functions_typed =
      All-from_recursion (IsTypedFunction L) (map (Units.function f) f.functions)
      (each_mapped (IsTypedFunction L) (Units.function f) f.functions
      (λ j g e. typed_function g (at_place FunctionNumbered f.functions functions_numbered j g e) j e))

  pub mains_typed : All (λ g. g.name ≡ codes "main" → type_at T g.ty ≡ function (integer Int) no_types) (map (Units.function f) f.functions)
  mains_typed =
      All-from_recursion (λ (g : FunctionData). g.name ≡ codes "main" → type_at T g.ty ≡ function (integer Int) no_types) (map (Units.function f) f.functions)
      (each_mapped (λ (g : FunctionData). g.name ≡ codes "main" → type_at T g.ty ≡ function (integer Int) no_types) (Units.function f) f.functions
      (λ j g e name. (at_place FunctionNumbered f.functions functions_numbered j g e).0.1 ∙ h.main j g e name))

  pub objects_typed : ((n : ℕ) (o : AnObject) → slice_get f.objects n ≡ Some o → is_object count o.ty ≡ true) → All (HasObjectType L) (map (Units.object f) f.objects)
  objects_typed whole =
      All-from_recursion (HasObjectType L) (map (Units.object f) f.objects)
      (each_mapped (HasObjectType L) (Units.object f) f.objects
      (λ j o e.
      let k = (at_place ObjectNumbered f.objects objects_numbered j o e).0 in
      (k.0, subst (λ t. is_object count t ≡ true) (sym k.1) (whole j o e))))

  -- ---- types

  different : (all : List CType) → AreOnce all → AreDifferent L all
  different [] k = tt
  different (t ∷ all) k = (k.0, different all k.1)

  few_parts : (all : List CType) → AllByRecursion (IsSmall f.records) all → AllByRecursion (HasFewParts L) all
  few_parts [] k = tt
  few_parts (t ∷ all) k = let s = k.0 in (s.parts, few_parts all k.1)

  small_types : (all : List CType) → AllByRecursion (IsSmall f.records) all → AllByRecursion (IsSmallType L) all
  small_types [] k = tt
  small_types (t ∷ all) k = let s = k.0 in (s.bytes, small_types all k.1)

  pub types_different : AreDifferent L T
  types_different = different T (once (all_types f))

  pub types_few : All (IsSmall f.records) T → All (HasFewParts L) T
  types_few k = All-from_recursion (HasFewParts L) T (few_parts T (recursion_from_All (IsSmall f.records) T k))

  pub types_small : All (IsSmall f.records) T → All (IsSmallType L) T
  types_small k = All-from_recursion (IsSmallType L) T (small_types T (recursion_from_All (IsSmall f.records) T k))

module _ (places : TokensHavePlaces) (first : TreesBeginFirst) (texts : TextsAreInOrder) where
  pub units_have_typed_functions : UnitsHaveTypedFunctions
  units_have_typed_functions file name bytes items u tree e =
      let f = e.annotated in
      let beginnings = (marks_are_in_order places).beginnings bytes items f.untagged tree in
      let own : HaveTypedFunctions (of_unit (unit_of items f)) = record {
        records = (text_whole places first texts bytes items f tree e.of_tree).complete;
        small_records = e.of_tree.small;
        different_types = types_different items f e.of_tree beginnings;
        few_parts = types_few items f e.of_tree beginnings e.small;
        functions = functions_typed items f e.of_tree beginnings;
        object_types = objects_typed items f e.of_tree beginnings (objects_whole places first texts name bytes items f tree e.tags e.of_tree);
        main_types = mains_typed items f e.of_tree beginnings;
      } in
      subst (λ (u : UnitData). HaveTypedFunctions (of_unit u) × All (IsSmallType (of_unit u)) u.types) (sym e.unit)
      (own, types_small items f e.of_tree beginnings e.small)
