-- The code of a program of files is sound.
use Rattle.std.proofs.Common.{◌≡◌, ℕ, zero, suc, ◌<◌, ◌≤◌, true, false, List, [], ◌∷◌, map, Option, Some, None, refl, ap, sym, subst}
use Rattle.std.proofs.Common.{◌∙◌, arith, slice_get}
use Rattle.std.proofs.lemmas.Bool.{eq-eqb, or_left}
use Rattle.std.proofs.lemmas.Option.{slice_get-get_or}
use Rattle.std.specs.List.{AllByRecursion as Each, list_any}
use Rattle.std.specs.Prelude.{◌==◌, All, get_or, is_some}
use Rattle.lay_base.specs.declared.place.File.{File}
use Rattle.c_types.specs.declared.ty.IntKind.TheVariants.{Int}
use Rattle.c_types.specs.Layouts.{size_of}
use Rattle.c_types.specs.Types.{CType, CTypes, void, integer, pointer, array, function, structure, no_types, and_type}
use Rattle.c_types.specs.Views.{listed}
use Rattle.c_typed.specs.Conversions.{is_scalar}
use Rattle.c_typed.specs.Programs.{FunctionData, ProgramData}
use Rattle.c_typed.specs.References.{an_object}
use Rattle.c_typed.specs.Trees.{Statement}
use Rattle.c_typed.specs.declared.program.Initial.{Initial}
use Rattle.c_typed.specs.declared.program.InitialValue.{InitialValue}
use Rattle.c_typed.specs.declared.program.InitialValue.TheVariants as V
use Rattle.c_typed.specs.declared.program.Local.{Local}
use Rattle.c_typed.specs.declared.program.Object.{Object}
use Rattle.block_memory.specs.RunWorlds.Scalars.{width_of}
use Rattle.c_meaning.specs.Program.{access_at, access_of, all_locals, none_or, object_size, size_at, size_if_defined, type_at}
use Rattle.c_link.specs.Gaps.{HasNone, IsMissing, is_object, referred_by_stored}
use Rattle.c_link.specs.Programs.{IsProgramOf}
use Rattle.c_well_typed.specs.Printable.Programs.{IsPrintable}
use Rattle.c_well_typed.specs.Printable.Laws.{ProgramIsPrintable}
use Rattle.c_well_typed.specs.Laws.{ProgramIsWellTyped}
use Rattle.c_well_typed.specs.WellTyped.{AreInitials, AreScalars, AreWellTyped, HasBody as HasTypedBody, HasMain, IsTypedFunction, IsTypedInitial}
use Rattle.c_well_typed.specs.WellTyped.{IsTypedInitialValue}
use Rattle.c_well_typed.specs.WellTyped.{IsTypedObject, local_types, of_program}
use Rattle.c_well_typed.specs.Within.{AreWithin, InitialsLieWithin, IsWithin, value_size}
use Rattle.code_bounds.specs.LoweredLaws.{JumpsStand, KindsStand, TypedHaveScopes}
use Rattle.lower_tac.specs.Statements.{code_if_any, lowered, parameter_of, routine_of}
use Rattle.rv_code.specs.Programs.{places_of}
use Rattle.rv_emit.specs.Fitting.{CodeFits}
use Rattle.rv_emit.specs.Relation.{ParameterFits}
use Rattle.rv_image.specs.Data.{object_places}
use Rattle.tac_ir.specs.Code.{RoutineData}
use Rattle.tac_ir.specs.Jumps.{JumpsWithin}
use Rattle.tac_ir.specs.Kinds.{KindsWithin}
use Rattle.tac_ir.specs.declared.step.Parameter.{Parameter}
use Rattle.source_values.specs.Rows.{TypesAreSmall}
use Rattle.compiled_files.specs.Sound.{InitialFits, IsSound, ObjectsFit, RoutineFits, ValueFits, value_width}
use Rattle.compiled_files.proofs.Soundness.Adding.{some_same}
use Rattle.compiled_files.proofs.Soundness.Blocks as Blocks
use Rattle.compiled_files.proofs.Soundness.Fits as Fits
use Rattle.compiled_files.proofs.Soundness.Functions as Functions
use Rattle.compiled_files.proofs.Soundness.Referring.{IsUsed, IsUsedObject, has_initial, value_test, value_used}
use Rattle.compiled_files.proofs.Soundness.Routines as Routines
use Rattle.c_well_typed.proofs.Sizing.{at_all, get_from, get_map}
use Rattle.compiled_files.proofs.Soundness.Typing.{IsThere, kind_small}

-- a number or a pointer is as large as what is loaded of it
scalar_width : (p : ProgramData) (n : ℕ) → is_scalar (type_at p n) ≡ true → width_of (access_at p n) ≤ size_at p n
scalar_width p n h = by_type (type_at p n) h
  where
    by_type : (t : CType) → is_scalar t ≡ true → width_of (access_of t n) ≤ size_of p.records t
    by_type void e = cc
    by_type (integer kind) e = omega arith
    by_type (pointer t) e = omega arith
    by_type (array t m) e = cc
    by_type (function t all) e = cc
    by_type (structure r) e = cc

-- the parameters of a function are numbers and pointers
each_scalar : (all : List CType) (own : CTypes) → listed all ≡ own → AreScalars own → (x : ℕ) (t : CType) → slice_get all x ≡ Some t → is_scalar t ≡ true
each_scalar [] own e s x t i = cc
each_scalar (u ∷ all) no_types e s x t i = cc
each_scalar (u ∷ all) (and_type v more) e s zero t i =
    subst (λ t. is_scalar t ≡ true) (let z : v ≡ t = cc in z) s.0
each_scalar (u ∷ all) (and_type v more) e s (suc x) t i = each_scalar all more (let z : listed all ≡ more = cc in z) s.1 x t i

no_entry : {A : Type 0} (all : List A) → all ≡ [] → (x : ℕ) (y : A) → slice_get all x ≡ Some y → ⊥
no_entry [] e x y i = cc
no_entry (z ∷ all) e x y i = cc

-- a function that takes nothing has no parameters
none_listed : (f : Local → CType) (all : List Local) → listed (map f all) ≡ no_types → all ≡ []
none_listed f [] e = refl
none_listed f (l ∷ all) e = cc

same_parameters : {s t : CType} {all others : CTypes} → function s all ≡ function t others → all ≡ others
same_parameters e = cc

same_width : (p : ProgramData) (v : InitialValue) → value_width p (lowered p) v ≡ value_size v
same_width p (V.Number kind v) = refl
same_width p (V.Address t n at) = refl
same_width p (V.Function t f) = refl

module _ (p : ProgramData) (typed : AreWellTyped (of_program p)) (printable : IsPrintable p) (small : TypesAreSmall p) (names : HasNone (IsMissing p))
    (scoped : TypedHaveScopes) (jumps : JumpsStand) (kinds : KindsStand) where
  abbrev Fit : RoutineData → Type 0
  Fit = RoutineFits p (lowered p)

  -- ---- a function that has a body

  module _ (i : ℕ) (f : FunctionData) (body : Statement ℕ) (is : slice_get p.functions i ≡ Some f) (has : f.body ≡ Some body) (k : ℕ) where
    abbrev g : RoutineData
    g = Blocks.g p typed printable small names scoped i f body is has k

    parameter_fits : (x : ℕ) (r : Parameter) → slice_get g.parameters x ≡ Some r → ParameterFits g x r
    parameter_fits x r e =
        let z = get_from (parameter_of p) f.parameters x r e in
        let l = z.0 in
        let there = Blocks.in_front_part f.parameters f.locals x l z.1 in
        let sort : slice_get g.locals x ≡ Some l.block = get_map (λ (l : Local). l.block) (all_locals f) x l there in
        let t = Functions.body_typed p typed printable small names i f body is has in
        let own = get_map (λ (l : Local). type_at p l.ty) f.parameters x l z.1 in
        let scalar = each_scalar (local_types (of_program p) f.parameters) _ t.2 t.1 x (type_at p l.ty) own in
        subst (ParameterFits g x) z.2 (record {
          sort = sort;
          size = λ b. (
            sym (Blocks.block_is p typed printable small names scoped i f body is has k x (sort ∙ ap Some b)
                ∙ Blocks.own_size p typed printable small names scoped i f body is has k x l there),
            scalar_width p l.ty scalar,
          );
        })

    body_fits : slice_get (lowered p).routines i ≡ Some g → Fit g
    body_fits there = record {
      code = Fits.code_fits p (lowered p) (Functions.places p typed printable small names) g
          (Blocks.size p typed printable small names scoped i f body is has k)
          (Blocks.block_is p typed printable small names scoped i f body is has k) (Blocks.good p typed printable small names scoped i f body is has k)
          (at_all KindsWithin (lowered p).routines i g (kinds p) there) (at_all JumpsWithin (lowered p).routines i g (jumps p) there);
      parameters = parameter_fits;
    }

  -- ---- any function

  -- what is only declared has no code
  no_code_fits : (q : RoutineData) → q.code ≡ [] → q.parameters ≡ [] → Fit q
  no_code_fits q none few = record {
    code = subst (λ code. CodeFits p.types (lowered p) (places_of (lowered p) (object_places p)) q code) (sym none)
        (λ k d h. absurd (let r : k < 0 = h in omega (arith, r)));
    parameters = λ x r e. absurd (no_entry q.parameters few x r e);
  }

  function_fits : (i : ℕ) (f : FunctionData) → slice_get p.functions i ≡ Some f → (k : ℕ) → (b : Option (Statement ℕ)) → f.body ≡ b
      → slice_get (lowered p).routines i ≡ Some (routine_of p f (code_if_any p k f b)) → Fit (routine_of p f (code_if_any p k f b))
  function_fits i f is k None has there =
      let t = at_all (IsTypedFunction (of_program p)) p.functions i f typed.functions.functions is in
      let none : HasTypedBody (of_program p) f t.0 t.1 None = subst (λ b. HasTypedBody (of_program p) f t.0 t.1 b) has t.5 in
      no_code_fits (routine_of p f (code_if_any p k f None)) refl (ap (map (parameter_of p)) none.0)
  function_fits i f is k (Some body) has there = body_fits i f body is has k there

  pub routine_fits : (i : ℕ) (r : RoutineData) → slice_get (lowered p).routines i ≡ Some r → Fit r
  routine_fits i r there =
      let o = Routines.origin p i r there in
      subst Fit o.made (function_fits i o.function o.is o.number o.function.body refl
      (subst (λ (r : RoutineData). slice_get (lowered p).routines i ≡ Some r) (sym o.made) there))

  -- ---- `main`

  takes_nothing : (f : FunctionData) (result : CType) (own : CTypes) (b : Option (Statement ℕ)) → HasTypedBody (of_program p) f result own b → own ≡ no_types
      → f.parameters ≡ []
  takes_nothing f result own None h e = h.0
  takes_nothing f result own (Some body) h e = none_listed (λ (l : Local). type_at p l.ty) f.parameters (h.2 ∙ e)

  main_fits : HasMain p → (r : RoutineData) → slice_get (lowered p).routines (lowered p).main ≡ Some r → r.parameters ≡ []
  main_fits main r there =
      let o = Routines.origin p p.main r there in
      let f = o.function in
      let same : main.0 ≡ f = some_same (sym main.1 ∙ o.is) in
      let t = at_all (IsTypedFunction (of_program p)) p.functions p.main f typed.functions.functions o.is in
      let is : type_at p f.ty ≡ function (integer Int) no_types =
      subst (λ (f : FunctionData). type_at p f.ty ≡ function (integer Int) no_types) same main.2.2 in
      let none = takes_nothing f t.0 t.1 f.body t.5 (same_parameters (sym t.3 ∙ is)) in
      ap (λ (r : RoutineData). r.parameters) (sym o.made) ∙ ap (map (parameter_of p)) none

  -- ---- what objects hold at first

  module _ (within : InitialsLieWithin) where
    defined_size : (o : Object) → is_some o.initial ≡ true → object_size p o ≡ size_at p o.ty
    defined_size o e = (let z = Functions.some_body o.initial e in ap (λ (i : Option (List Initial)). size_if_defined i (size_at p o.ty)) z.1)

    value_fits : (u : CType) (v : InitialValue) → IsTypedInitialValue (of_program p) u v → Each (IsThere (IsUsed p)) (referred_by_stored v)
        → ((n : ℕ) → referred_by_stored v ≡ an_object n ∷ [] → IsUsedObject p n) → ValueFits p (lowered p) v
    value_fits u (V.Number kind v) t used objects = kind_small kind v t.3
    value_fits u (V.Address i n at) t used objects =
        let e = defined_size t.0 (has_initial p names n t.0 t.5 (objects n refl)) in
        let h = t.6 in (t.0, t.5, omega (arith, h, e))
    value_fits u (V.Function i f) t used objects = Functions.used_code p typed printable small names f t.0 t.5 used.0

    module _ (n : ℕ) (o : Object) (is : slice_get p.objects n ≡ Some o) (all : List Initial) (has : o.initial ≡ Some all) where
      object_typed : IsTypedObject (of_program p) o
      object_typed = at_all (IsTypedObject (of_program p)) p.objects n o typed.objects is

      -- the object that an address names is used
      object_used : (k : ℕ) (i : Initial) → slice_get all k ≡ Some i → (m : ℕ) → referred_by_stored i.value ≡ an_object m ∷ [] → IsUsedObject p m
      object_used k i there m e =
          value_test p n o all is has k i there (is_object m)
          (ap (list_any (is_object m)) e ∙ or_left (m == m) false (eq-eqb m m refl))

      initial_fits : (k : ℕ) (i : Initial) → slice_get all k ≡ Some i → InitialFits p (lowered p) o i
      initial_fits k i there =
          let l = of_program p in
          let t = type_at p o.ty in
          let typed_all : AreInitials l t (Some all) = subst (AreInitials l t) has object_typed.1 in
          let one = at_all (IsTypedInitial l t) all k i typed_all there in
          let within_all : AreWithin l t (Some all) = subst (AreWithin l t) has (within l typed.functions.records o object_typed) in
          let inside = at_all (IsWithin l t) all k i within_all there in
          let e = defined_size o (ap (λ (b : Option (List Initial)). is_some b) has) in
          let w = same_width p i.value in
          record {
            within = (let z = inside.ends in omega (arith, z, e, w));
            value = value_fits one.0 i.value one.2 (value_used p n o all is has k i there) (object_used k i there);
          }

    objects_fit : ObjectsFit p (lowered p)
    objects_fit n o is = by_initial o.initial refl
      where
        by_initial : (b : Option (List Initial)) → o.initial ≡ b → All (InitialFits p (lowered p) o) (none_or b)
        by_initial None e = λ k d h. absurd (let r : k < 0 = h in omega (arith, r))
        by_initial (Some all) e = λ k d h. initial_fits n o is all e k (get_or all k d) (slice_get-get_or all k d h)

    pub is_sound : HasMain p → IsSound p (lowered p)
    is_sound main = record { objects = objects_fit; routines = routine_fits; main = main_fits main }

-- the code of a program of files
pub sound : (files : List File) (p : ProgramData) → IsProgramOf files p → ProgramIsWellTyped p → ProgramIsPrintable p → TypesAreSmall p
    → JumpsStand → KindsStand → TypedHaveScopes → InitialsLieWithin → IsSound p (lowered p)
sound files p is typed printable small jumps kinds scoped within =
    let t = typed files is in
    let names : HasNone (IsMissing p) = subst (λ p. HasNone (IsMissing p)) (sym is.program.joined_units) is.program.complete.names in
    is_sound p t.lists (printable files is) small names scoped jumps kinds within t.main
