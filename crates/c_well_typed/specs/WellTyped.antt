-- Well typed units and programs: every node keeps its rule over the lists of its unit or program, and every number names something there.
use Rattle.std.specs.Prelude.{◌≡◌, ◌≢◌, ℕ, zero, suc, ◌+◌, ◌≤◌, ◌<◌, true, false, List, [], ◌∷◌, ◌++◌, map, length, All, slice_get}
use Rattle.std.specs.Prelude.{Option, Some, None, codes, ◌⊎◌}
use Rattle.c_types.specs.declared.ty.IntKind.{IntKind}
use Rattle.c_types.specs.declared.ty.IntKind.TheVariants.{Int}
use Rattle.c_types.specs.IntKinds.{width}
use Rattle.c_types.specs.Types.{CType, CTypes, void, integer, pointer, array, function, no_types, and_type, Record}
use Rattle.c_types.specs.Layouts.{size_of}
use Rattle.c_types.specs.Limits.{AreComplete, AreSmall, greatest_size}
use Rattle.c_types.specs.Objects.{is_object, parts}
use Rattle.c_types.specs.Views.{listed}
use Rattle.c_typed.specs.declared.program.Initial.{Initial}
use Rattle.c_typed.specs.declared.program.InitialValue.{InitialValue}
use Rattle.c_typed.specs.declared.program.InitialValue.TheVariants as V
use Rattle.c_typed.specs.declared.program.Local.{Local}
use Rattle.c_typed.specs.declared.program.Object.{Object}
use Rattle.c_typed.specs.Trees as Trees
use Rattle.c_typed.specs.Conversions.{is_function, is_scalar, as_kind}
use Rattle.c_typed.specs.Mapped.{of_types, mapped_statement}
use Rattle.c_typed.specs.Parts.{IsPart}
use Rattle.c_typed.specs.Programs.{FunctionData, UnitData, ProgramData}
use Rattle.c_typed.specs.Typed.{Declared}
use Rattle.c_typed.specs.TypedStatements.{all_declared, IsTypedStatement}
use Rattle.c_typed.specs.TypeNumbers.{type_at}
use Rattle.c_typed.specs.Walk.{types_in_statement}

-- the lists that a unit and a program have in common
pub record Lists : Type 0 where
  pub records : List Record
  pub types : List CType
  pub objects : List Object
  pub functions : List FunctionData

abbrev pub of_unit : UnitData → Lists
of_unit u = record { records = u.records; types = u.types; objects = u.objects; functions = u.functions }

abbrev pub of_program : ProgramData → Lists
of_program p = record { records = p.records; types = p.types; objects = p.objects; functions = p.functions }

-- the numbers from one on, so many
abbrev pub count_up : (from count : ℕ) → List ℕ
count_up from zero = []
count_up from (suc count) = from ∷ count_up (from + 1) count

-- a function gives a number, a pointer or nothing, and takes numbers and pointers (own)
abbrev pub IsResult : CType → Type 0
IsResult t = (is_scalar t ≡ true) ⊎ (t ≡ void)

abbrev pub AreScalars : CTypes → Type 0
AreScalars no_types = Unit {0}
AreScalars (and_type t more) = (is_scalar t ≡ true) × AreScalars more

module _ (l : Lists) where
  abbrev pub ty : ℕ → CType
  ty i = type_at l.types i

  abbrev pub local_types : List Local → List CType
  local_types all = map (λ x. ty x.ty) all

  -- what is declared in a function: all records are complete
  abbrev pub declared_in : FunctionData → Declared
  declared_in f = record {
    records = l.records;
    complete = λ at. length l.records;
    locals = local_types (f.parameters ++ f.locals);
    objects = map (λ o. ty o.ty) l.objects;
    functions = map (λ g. ty g.ty) l.functions;
  }

  -- ---- types: each once, and within the limits

  abbrev pub AreDifferent : List CType → Type 0
  AreDifferent [] = Unit {0}
  AreDifferent (t ∷ more) = All (λ u. u ≢ t) more × AreDifferent more

  abbrev pub IsSmallType : CType → Type 0
  IsSmallType t = size_of l.records t ≤ greatest_size

  abbrev pub HasFewParts : CType → Type 0
  HasFewParts t = parts t ≤ 1024

  -- ---- functions

  abbrev pub IsTypedBody : FunctionData → CType → Trees.Statement ℕ → Type 0
  IsTypedBody f result body = All (λ i. i < length l.types) (types_in_statement body)
      × IsTypedStatement (declared_in f) result false false (mapped_statement (of_types ty) body)
      × (all_declared body ≡ count_up (length f.parameters) (length f.locals))

  -- what is only declared has no locals
  abbrev pub HasBody : FunctionData → CType → CTypes → Option (Trees.Statement ℕ) → Type 0
  HasBody f result parameters None = (f.parameters ≡ []) × (f.locals ≡ [])
  HasBody f result parameters (Some body) = IsResult result × AreScalars parameters × (listed (local_types f.parameters) ≡ parameters)
      × IsTypedBody f result body

  abbrev pub IsTypedFunction : FunctionData → Type 0
  IsTypedFunction f = (result : CType) × (parameters : CTypes) × (f.ty < length l.types) × (ty f.ty ≡ function result parameters)
      × All (λ x. x.ty < length l.types) (f.parameters ++ f.locals) × HasBody f result parameters f.body

  -- ---- objects

  -- the bytes of a string literal are kept as numbers of type `char`, whichever character type the elements of the array have
  abbrev pub IsTypedInitialValue : CType → InitialValue → Type 0
  IsTypedInitialValue t (V.Number kind v) = (own : IntKind) × (t ≡ integer own) × (width kind ≡ width own) × (as_kind kind v ≡ v)
  IsTypedInitialValue t (V.Address i n offset) = (o : Object) × (u : CType) × (i < length l.types) × (ty i ≡ t) × (t ≡ pointer u)
      × (slice_get l.objects n ≡ Some o) × (offset ≤ size_of l.records (ty o.ty))
  IsTypedInitialValue t (V.Function i f) = (g : FunctionData) × (u : CType) × (i < length l.types) × (ty i ≡ t) × (t ≡ pointer u)
      × (slice_get l.functions f ≡ Some g) × (is_function u ≡ true)

  abbrev pub IsTypedInitial : CType → Initial → Type 0
  IsTypedInitial t i = (u : CType) × IsPart l.records t i.offset u × IsTypedInitialValue u i.value

  abbrev pub AreInitials : CType → Option (List Initial) → Type 0
  AreInitials t None = Unit {0}
  AreInitials t (Some all) = All (IsTypedInitial t) all

  -- one that is only declared has a complete type too (own)
  abbrev pub HasObjectType : Object → Type 0
  HasObjectType o = (o.ty < length l.types) × (is_object (length l.records) (ty o.ty) ≡ true)

  abbrev pub IsTypedObject : Object → Type 0
  IsTypedObject o = HasObjectType o × AreInitials (ty o.ty) o.initial

  -- ---- all of them

  -- records are complete, types stand each once, each function keeps its rules, and objects have
  -- complete types; `main` takes nothing and gives an int (own)
  pub record HaveTypedFunctions : Type 0 where
    pub records : AreComplete l.records
    pub small_records : AreSmall l.records
    pub different_types : AreDifferent l.types
    pub few_parts : All HasFewParts l.types
    pub functions : All IsTypedFunction l.functions
    pub object_types : All HasObjectType l.objects
    pub main_types : All (λ f. f.name ≡ codes "main" → ty f.ty ≡ function (integer Int) no_types) l.functions

  pub record AreWellTyped : Type 0 where
    pub functions : HaveTypedFunctions
    pub small_types : All IsSmallType l.types
    pub objects : All IsTypedObject l.objects

-- ---- units and programs

-- the elements of an array type are of a complete object type (6.7.5.2), so that no other file completes it
abbrev pub HasWholeElements : UnitData → CType → Type 0
HasWholeElements u (array t n) = is_object (length u.records) t ≡ true
HasWholeElements u t = Unit {0}

abbrev pub HaveWholeElements : UnitData → Type 0
HaveWholeElements u = All (HasWholeElements u) u.types

abbrev pub IsWellTypedUnit : UnitData → Type 0
IsWellTypedUnit u = AreWellTyped (of_unit u)

abbrev pub IsMain : ProgramData → FunctionData → Type 0
IsMain p f = (f.name ≡ codes "main") × (f.body ≢ None) × (ty (of_program p) f.ty ≡ function (integer Int) no_types)

abbrev pub HasMain : ProgramData → Type 0
HasMain p = (f : FunctionData) × (slice_get p.functions p.main ≡ Some f) × IsMain p f

pub record IsWellTyped (p : ProgramData) : Type 0 where
  pub lists : AreWellTyped (of_program p)
  pub main : HasMain p
