-- The unit of a file is covered: each record that stands in its types as a value or in an array is accused by a mention or by a field.
use Rattle.std.proofs.Common.{◌≡◌, ◌∙◌, ℕ, ◌+◌, Bool, true, false, refl, sym, ap, subst, cond, List, [], ◌∷◌, ◌++◌, length, map, flat_map, filter, inl}
use Rattle.std.proofs.Common.{inr, add-one}
use Rattle.std.specs.Prelude.{◌⊎◌, IfSome, not, Option, Some, None, slice_get}
use Rattle.std.specs.List.{AllByRecursion}
use Rattle.std.specs.Option.{option_map}
use Rattle.lay_base.specs.declared.place.File.{File}
use Rattle.c_types.specs.Sameness.{same_type}
use Rattle.c_types.specs.Types.{CType, void}
use Rattle.c_types.proofs.SameTypes.{same_is}
use Rattle.c_tokens.specs.TokenPlaces.{TokensHavePlaces}
use Rattle.c_ast.specs.Trees
use Rattle.c_ast.specs.TreesOfFiles.{IsTreeOf}
use Rattle.c_typed.specs.declared.program.Initial.{Initial}
use Rattle.c_typed.specs.declared.program.Local.{Local}
use Rattle.c_typed.specs.declared.program.MentionKind.{MentionKind}
use Rattle.c_typed.specs.declared.program.MentionKind.TheVariants.{Object, Named}
use Rattle.c_typed.specs.InitialValues.{a_number, a_null, an_address, a_function}
use Rattle.c_typed.specs.Mapped.{Renaming, of_types, mapped_statement}
use Rattle.c_typed.specs.Programs.{ProgramData, UnitData}
use Rattle.c_typed.specs.Trees as Typed
use Rattle.c_typed.specs.TypeNumbers.{type_at}
use Rattle.c_typed.specs.Walk.{types_in_statement}
use Rattle.c_erasure.specs.Files.{AreAscending, IsFileOf}
use Rattle.c_erasure.specs.InitialMentions.{told_by_initial}
use Rattle.c_erasure.specs.Marks.{marks_of_file, scope_beginnings}
use Rattle.c_erasure.specs.Noted.{Noted}
use Rattle.c_erasure.specs.Scopes.{Entity, typedef, enumerator, a_local, a_parameter, a_library_function, ALocal, AMention, AFunction, AnObject, FileScope, Scope}
use Rattle.c_erasure.specs.Scopes.{an_object, at_file_scope, is_measured}
use Rattle.c_erasure.specs.Scopes as Scopes
use Rattle.c_erasure.specs.Statements.{HasConstants}
use Rattle.c_erasure.specs.Units as Units
use Rattle.c_erasure.specs.Units.{Stores, all_types, function_types, is_size_operand, number_in, object_types, of_initializer, recognised_statement, typed_initializer}
use Rattle.c_erasure.specs.Units.{types, unit_of}
use Rattle.c_erasure.proofs.MarkPlaces.Ordered.{marks_are_in_order}
use Rattle.c_link.proofs.JoinedRecords.{IsAmong, among_at, among_flat, among_right}
use Rattle.c_link.specs.Programs.{IsProgramOf}
use Rattle.c_well_typed.proofs.Definitions.{IsDefinedFunction, function_known}
use Rattle.c_well_typed.proofs.FileObjects.{objects_known}
use Rattle.c_well_typed.proofs.JoinedFunctions.{each_is}
use Rattle.c_well_typed.proofs.Leaves.{InInitializer}
use Rattle.c_well_typed.proofs.LiteralObjects.{AreGood, Holds, IsFull, IsGood, IsTextual}
use Rattle.c_well_typed.proofs.MadeLeaves.{Knows, initializer_leaves}
use Rattle.c_well_typed.proofs.NamesInScope.{IsEntityOf, joined}
use Rattle.c_well_typed.proofs.Numbers.{IsNumbered, all_among, numbered, taken_up, two_parts}
use Rattle.c_well_typed.proofs.Programs.{each_unit}
use Rattle.c_well_typed.proofs.TokenBytes.{Anywhere, tree_of_bytes}
use Rattle.c_well_typed.proofs.TypesMapped.{types_of_statement}
use Rattle.c_well_typed.proofs.UnitFunctions.{after_map, records_ended}
use Rattle.c_well_typed.proofs.UnitObjects.{before_at}
use Rattle.legality.specs.InTypes.{arrays_in, pointed}
use Rattle.c_undefined_places.proofs.CoveredBodies.{IsToldLocal, locals_told, nodes_told}
use Rattle.c_undefined_places.proofs.CoveredFiles as Files
use Rattle.c_undefined_places.proofs.CoveredFiles.{AccusedIn, AreAccusedIn, mentioned, named_accused, object_accused, said_in}
use Rattle.c_undefined_places.proofs.CoveredInitials.{IsToldStore, anything, initial_stored}
use Rattle.c_undefined_places.proofs.CoveredTypes as CoveredTypes
use Rattle.c_undefined_places.proofs.CoveredUnits as Covered
use Rattle.c_undefined_places.proofs.CoveredUnits.{ArraysAccusedIn, FunctionAccusedIn, InitialAccusedIn, IsAccused, IsCoveredUnit, ObjectAccusedIn, said_by}
use Rattle.c_undefined_places.proofs.CoveredUnits.{ValuesAccusedIn, values_in}
use Rattle.c_undefined_places.proofs.PlacesOfUnits.{each_place}

-- what is under the number of a type is that type, or `void`
number_or_void : (all : List CType) (t : CType) → (type_at all (number_in all t) ≡ t) ⊎ (type_at all (number_in all t) ≡ void)
number_or_void [] t = inr refl
number_or_void (s ∷ all) t = by_test (same_type s t) refl (number_or_void all t)
  where
    Of : Bool → Type 0
    Of b = (type_at (s ∷ all) (cond b 0 (number_in all t + 1)) ≡ t) ⊎ (type_at (s ∷ all) (cond b 0 (number_in all t + 1)) ≡ void)

    by_test : (b : Bool) → same_type s t ≡ b → (type_at all (number_in all t) ≡ t) ⊎ (type_at all (number_in all t) ≡ void) → Of b
    by_test true e later = inl (same_is s t e)
    by_test false e (inl later) = inl (ap (λ n. type_at (s ∷ all) n) (add-one (number_in all t)) ∙ later)
    by_test false e (inr later) = inr (ap (λ n. type_at (s ∷ all) n) (add-one (number_in all t)) ∙ later)

any_entity : (e : Entity) → IsEntityOf anything e
any_entity (typedef t) = tt
any_entity (enumerator v) = tt
any_entity (Scopes.an_object n t) = tt
any_entity (Scopes.a_function n t) = tt
any_entity (a_library_function which) = tt
any_entity (a_local n t) = tt
any_entity (a_parameter t) = tt

module _ (bytes : List ℕ) (items : List Trees.Item) (f : FileScope) (tree : IsTreeOf bytes items) (h : IsFileOf items f)
    (beginnings : AreAscending (scope_beginnings (marks_of_file f.untagged items))) where
  abbrev A : ℕ → Type 0
  A = AccusedIn f

  abbrev Arrays : CType → Type 0
  Arrays t = AreAccusedIn f (arrays_in t)

  -- ---- objects of the file

  unmeasured : (s : Scope) → IsFull f s → is_measured s.purpose ≡ false
  unmeasured s full = ap is_measured full.1

  -- of the casts in an initializer
  known : Knows anything Arrays (λ n. Unit {0}) (IsFull f)
  known = record {
    text = λ n l. (tt, tt);
    entity = λ s x at e i q. any_entity e;
    pointer = λ t m. tt;
    cast = λ n s t i q m. named_accused f t _ (mentioned f s Named t _ i.0 (unmeasured s i) m);
    inside = λ s i. i;
    variable = λ specs s base i q d later x t j v. tt;
    object = λ s x n t i m. i;
    local = λ s x n t i m. i;
    declared = λ s base d x t n i m v e. tt;
  }

  constants_told : (value : Option (ℕ × Trees.Expression)) (s : Scope) (t : CType) (i : Typed.Initializer Noted) → IsFull f s → HasConstants s t value i
      → InInitializer anything Arrays i
  constants_told None s t i full k = subst (InInitializer anything Arrays) (sym k) tt
  constants_told (Some value) s t i full k = initializer_leaves anything Arrays (λ n. Unit {0}) (IsFull f) known value.1 s t i full k.0

  good : AreGood Anywhere (InInitializer anything Arrays) (λ t. AreAccusedIn f (values_in t)) f
  good = record {
    of_text = λ bytes. (tt, tt);
    of_zero = tt;
    of_value = λ value s t i rest full b k. constants_told value s t i full k;
    literal_fits = λ n. tt;
    local_fits = λ s base d x t full v. object_accused f t _ (mentioned f s Object t _ full.0 (unmeasured s full) v.6);
    object_fits = λ t place m. object_accused f t place (mentioned f (at_file_scope f) Object t place refl refl m);
  }

  abbrev IsKnown : AnObject → Type 0
  IsKnown o = Holds o × IsTextual o × IsGood (InInitializer anything Arrays) o × AreAccusedIn f (values_in o.ty)

  object_known : (n : ℕ) (o : AnObject) → slice_get f.objects n ≡ Some o → IsKnown o
  object_known n o e =
      objects_known f (length f.records) (records_ended items f h beginnings) good items (tree_of_bytes bytes items tree) h beginnings n o e

  objects : (n : ℕ) (t : CType) → slice_get (map (λ (o : AnObject). o.ty) f.objects) n ≡ Some t → AreAccusedIn f (values_in t)
  objects n t e = let z = before_at (λ (o : AnObject). o.ty) f.objects n t e in subst (λ t. AreAccusedIn f (values_in t)) z.2 (object_known n z.0 z.1).3

  abbrev AreStored : Option (Typed.Initializer Noted) → Type 0
  AreStored o = IfSome o (λ i. AllByRecursion (IsToldStore f objects) (of_initializer f (typed_initializer i)))

  abbrev IsToldObject : AnObject → Type 0
  IsToldObject o = AreAccusedIn f (values_in o.ty) × AreStored o.initial

  object_told : (n : ℕ) (o : AnObject) → slice_get f.objects n ≡ Some o → IsToldObject o
  object_told n o e = ((object_known n o e).3, by_initial o.initial refl)
    where
      by_initial : (i : Option (Typed.Initializer Noted)) → o.initial ≡ i → AreStored i
      by_initial None q = tt
      by_initial (Some i) q =
          initial_stored f objects o.ty i (h.initialized n o i e q) ((object_known n o e).2 i q)
          (λ m j.
          among_right m (filter (λ m. not (is_size_operand f m)) f.mentions)
          (flat_map (λ (o : AnObject). told_by_initial (option_map typed_initializer o.initial)) f.objects)
          (among_flat (λ (o : AnObject). told_by_initial (option_map typed_initializer o.initial)) o f.objects m (among_at f.objects n o e)
          (subst (λ i. IsAmong m (told_by_initial (option_map typed_initializer i))) (sym q) j)))

  -- ---- its unit

  abbrev T : List CType
  T = types f

  abbrev u : UnitData
  u = unit_of items f

  mentions_numbered : AllByRecursion (λ (m : AMention). IsNumbered T m.ty) (Units.mentions f)
  mentions_numbered = of_map (Units.mentions f) (two_parts (IsNumbered T) declared (map (λ (m : AMention). m.ty) (Units.mentions f)) all).1
    where
      declared : List CType
      declared = flat_map (object_types f) f.objects ++ flat_map function_types f.functions

      all : AllByRecursion (IsNumbered T) (all_types f)
      all = all_among (IsNumbered T) (all_types f) (λ t i. numbered T t (taken_up (all_types f) t i))

      of_map : (ms : List AMention) → AllByRecursion (IsNumbered T) (map (λ (m : AMention). m.ty) ms)
          → AllByRecursion (λ (m : AMention). IsNumbered T m.ty) ms
      of_map [] h = tt
      of_map (m ∷ ms) h = (h.0, of_map ms h.1)

  -- what the unit says is what the file does
  same_said : (ms : List AMention) → AllByRecursion (λ (m : AMention). IsNumbered T m.ty) ms
      → map {B = MentionKind × CType} (λ m. (m.kind, type_at T m.ty)) (map (Units.mention f) ms)
      ≡ map {B = MentionKind × CType} (λ (m : AMention). (m.kind, m.ty)) ms
  same_said [] h = refl
  same_said (m ∷ ms) h = rw (h.0.1, same_said ms h.1) refl

  abbrev Accused : List ℕ → Type 0
  Accused numbers = Covered.AccusedIn u numbers

  in_unit : (numbers : List ℕ) → AreAccusedIn f numbers → Accused numbers
  in_unit numbers w =
      subst (λ said. AllByRecursion (IsAccused f.records said) numbers) (sym (same_said (Units.mentions f) mentions_numbered)) w

  -- of a type by its number, where nothing stands in `void`
  by_number : (in_type : CType → List ℕ) → in_type void ≡ [] → (t : CType) → AreAccusedIn f (in_type t) → Accused (in_type (type_at T (number_in T t)))
  by_number in_type none t w = by_place (number_or_void T t)
    where
      by_place : (type_at T (number_in T t) ≡ t) ⊎ (type_at T (number_in T t) ≡ void) → Accused (in_type (type_at T (number_in T t)))
      by_place (inl e) = subst (λ t. Accused (in_type t)) (sym e) (in_unit (in_type t) w)
      by_place (inr e) = subst Accused (sym (ap in_type e ∙ none)) tt

  store_accused : (s : Stores) → IsToldStore f objects s → InitialAccusedIn u (Units.initial f s).value
  store_accused (at, t, a_number kind v) w = tt
  store_accused (at, t, a_null) w = tt
  store_accused (at, t, an_address a) w = by_number pointed refl t w
  store_accused (at, t, a_function g) w = tt

  stores_accused : (o : Option (Typed.Initializer Noted)) → AreStored o
      → IfSome (option_map (λ i. map (Units.initial f) (of_initializer f (typed_initializer i))) o) (AllByRecursion (λ (i : Initial). InitialAccusedIn u i.value))
  stores_accused None w = tt
  stores_accused (Some i) w =
      after_map (IsToldStore f objects) (λ (i : Initial). InitialAccusedIn u i.value) (Units.initial f) (of_initializer f (typed_initializer i)) store_accused w

  object_accused_in : (o : AnObject) → IsToldObject o → ObjectAccusedIn u (Units.object f o)
  object_accused_in o w = (by_number values_in refl o.ty w.0, stores_accused o.initial w.1)

  -- ---- functions

  locals_accused : (taken : List ℕ) (n : ℕ) (all : List ALocal) → AllByRecursion (IsToldLocal bytes items f tree h beginnings) all
      → AllByRecursion (λ (l : Local). ValuesAccusedIn u l.ty) (Units.locals f taken n all)
  locals_accused taken n [] w = tt
  locals_accused taken n (l ∷ all) w = (by_number values_in refl l.ty w.0.1, locals_accused taken (n + 1) all w.1)

  abbrev numbers : Renaming Noted ℕ
  numbers = of_types (λ t. number_in T t.ty)

  abbrev IsToldBody : Option (Typed.Statement Noted) → Type 0
  IsToldBody o = IfSome o (λ s. AllByRecursion (λ (t : Noted). Arrays t.ty) (types_in_statement (recognised_statement s)))

  body_accused : (o : Option (Typed.Statement Noted)) → IsToldBody o
      → IfSome (option_map (λ s. mapped_statement numbers (recognised_statement s)) o) (λ body. AllByRecursion (ArraysAccusedIn u) (types_in_statement body))
  body_accused None w = tt
  body_accused (Some s) w =
      subst (AllByRecursion (ArraysAccusedIn u)) (sym (types_of_statement numbers (recognised_statement s)))
      (after_map (λ (t : Noted). Arrays t.ty) (ArraysAccusedIn u) (λ (t : Noted). number_in T t.ty) (types_in_statement (recognised_statement s))
      (λ t w. by_number arrays_in refl t.ty w) w)

  abbrev IsToldFunction : AFunction → Type 0
  IsToldFunction g = Arrays g.ty × AllByRecursion (IsToldLocal bytes items f tree h beginnings) g.parameters
      × AllByRecursion (IsToldLocal bytes items f tree h beginnings) g.locals × IsToldBody g.body

  function_told : (n : ℕ) (g : AFunction) → slice_get f.functions n ≡ Some g → IsToldFunction g
  function_told n g e = by_body (function_known f (length f.records) (records_ended items f h beginnings) items h beginnings n g e)
    where
      Told : ALocal → Type 0
      Told = IsToldLocal bytes items f tree h beginnings

      own : Arrays g.ty
      own = CoveredTypes.arrays (length f.records) A g.ty (Files.function_told bytes items f tree h beginnings n g e)

      by_body : ((g.body ≡ None) × (g.parameters ≡ []) × (g.locals ≡ [])) ⊎ IsDefinedFunction f (length f.records) g → IsToldFunction g
      by_body (inl k) =
          (own, subst (AllByRecursion Told) (sym k.1) tt, subst (AllByRecursion Told) (sym k.2) tt, subst IsToldBody (sym k.0) tt)
      by_body (inr d) =
          let locals = two_parts Told g.parameters g.locals (locals_told bytes items f tree h beginnings n g e d) in
          (own, locals.0, locals.1, subst IsToldBody (sym d.body) (nodes_told bytes items f tree h beginnings n g e d))

  function_accused : (g : AFunction) → IsToldFunction g → FunctionAccusedIn u (Units.function f g)
  function_accused g w =
      let taken = Units.taken_in g in (
        by_number arrays_in refl g.ty w.0,
        joined (λ (l : Local). ValuesAccusedIn u l.ty) (Units.locals f taken 0 g.parameters) (Units.locals f taken (length g.parameters) g.locals)
            (locals_accused taken 0 g.parameters w.1) (locals_accused taken (length g.parameters) g.locals w.2),
        body_accused g.body w.3,
      )

  pub unit_covered : IsCoveredUnit u
  unit_covered = record {
    objects = after_map IsToldObject (ObjectAccusedIn u) (Units.object f) f.objects object_accused_in (each_place IsToldObject f.objects object_told);
    functions = after_map IsToldFunction (FunctionAccusedIn u) (Units.function f) f.functions function_accused
        (each_place IsToldFunction f.functions function_told);
  }

-- ---- the units of files

pub units_covered : TokensHavePlaces → (files : List File) (p : ProgramData) → (h : IsProgramOf files p) → AllByRecursion IsCoveredUnit h.units
units_covered places files p h =
    each_is IsCoveredUnit h.units
    (each_unit IsCoveredUnit
    (λ number file u own.
    let f = own.erases.annotated in
    let beginnings = (marks_are_in_order places).beginnings file.bytes own.items f.untagged own.tree in
    subst IsCoveredUnit (sym own.erases.unit) (unit_covered file.bytes own.items f own.tree own.erases.of_tree beginnings))
    0 files h.units h.of_files)
