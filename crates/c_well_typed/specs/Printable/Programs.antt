-- Programs that a C text can say: beside the typing rule of each node, what a printer needs. Names, places and mentions are the text's own.
use Rattle.std.specs.Prelude.{◌≡◌, ◌≢◌, ℕ, ◌+◌, Bool, true, false, not, ◌||◌, ◌==◌, ◌<◌, if◌then◌else◌, List, [], ◌∷◌, ◌++◌, map, flat_map, length, All}
use Rattle.std.specs.Prelude.{slice_get}
use Rattle.std.specs.Prelude.{Option, Some, None}
use Rattle.std.specs.List.{list_any}
use Rattle.c_types.specs.declared.ty.IntKind.TheVariants.{Char}
use Rattle.c_types.specs.Types.{CType, integer, array, Record}
use Rattle.c_typed.specs.declared.program.Initial.{Initial}
use Rattle.c_typed.specs.declared.program.InitialValue.{InitialValue}
use Rattle.c_typed.specs.declared.program.InitialValue.TheVariants as V
use Rattle.c_typed.specs.declared.program.Local.{Local}
use Rattle.c_typed.specs.declared.program.Object.{Object}
use Rattle.c_typed.specs.Trees as Trees
use Rattle.c_typed.specs.Addressed.{addressed_by_statement}
use Rattle.c_typed.specs.Conversions.{is_scalar}
use Rattle.c_typed.specs.Mapped.{of_types, mapped_statement}
use Rattle.c_typed.specs.Programs.{FunctionData, ProgramData}
use Rattle.c_typed.specs.References.{Reference, an_object, a_function, references_by_statement}
use Rattle.c_typed.specs.TypeNumbers.{type_at}
use Rattle.c_well_typed.specs.Printable.Declarable.{IsDeclarable}
use Rattle.c_well_typed.specs.Printable.Initializers.{of_text, IsPrintableInitial}
use Rattle.c_well_typed.specs.Printable.Statements.{IsPrintableStatement}

abbrev pub if_any : {A : Type 0} → Option A → List A
if_any None = []
if_any (Some x) = x ∷ []

-- ---- what refers to an object

abbrev pub referred_by : InitialValue → List Reference
referred_by (V.Number kind v) = []
referred_by (V.Address i n offset) = an_object n ∷ []
referred_by (V.Function i f) = a_function f ∷ []

abbrev pub times : ℕ → List Reference → ℕ
times n [] = 0
times n (an_object m ∷ more) = (if m == n then 1 else 0) + times n more
times n (a_function f ∷ more) = times n more

module _ (p : ProgramData) where
  abbrev pub ty : ℕ → CType
  ty i = type_at p.types i

  abbrev pub references : List Reference
  references = flat_map (λ o. flat_map (flat_map (λ i. referred_by i.value)) (if_any o.initial)) p.objects
      ++ flat_map (λ f. flat_map references_by_statement (if_any f.body)) p.functions

  -- ---- records: each has a member (6.7.2.1)

  abbrev pub IsPrintableRecord : Record → Type 0
  IsPrintableRecord r = (r.fields ≢ []) × All (λ f. IsDeclarable (length p.records) f.ty) r.fields

  -- ---- objects

  -- of a string literal: the array of its bytes and a zero (6.4.5)
  abbrev pub IsLiteral : Object → Type 0
  IsLiteral o = (bytes : List ℕ) × (o.name ≡ []) × (o.linked ≡ false) × (ty o.ty ≡ array (integer Char) (length bytes + 1)) × All (λ b. b < 256) bytes
      × (o.initial ≡ Some (of_text 0 (bytes ++ 0 ∷ [])))

  abbrev pub IsInitial : CType → Option (List Initial) → Type 0
  IsInitial t None = Unit {0}
  IsInitial t (Some all) = IsPrintableInitial p.records t all

  abbrev pub IsObject : (is_text : Bool) → Object → Type 0
  IsObject true o = IsLiteral o
  IsObject false o = IsInitial (ty o.ty) o.initial

  abbrev pub IsPrintableObject : Object → Type 0
  IsPrintableObject o = IsObject o.text o

  -- a string literal makes one object where it stands
  abbrev pub StandsOnce : Type 0
  StandsOnce = (n : ℕ) (o : Object) → slice_get p.objects n ≡ Some o → o.text ≡ true → times n references ≡ 1

  -- ---- functions

  abbrev pub local_types : FunctionData → List CType
  local_types f = map (λ l. ty l.ty) (f.parameters ++ f.locals)

  -- a local is a block where it is no number or pointer, or where its address is taken
  abbrev pub AreMarked : (taken : List ℕ) → ℕ → List Local → Type 0
  AreMarked taken n [] = Unit {0}
  AreMarked taken n (l ∷ more) = (l.block ≡ not (is_scalar (ty l.ty)) || list_any (λ m. m == n) taken) × AreMarked taken (n + 1) more

  abbrev pub IsBody : FunctionData → Trees.Statement ℕ → Type 0
  IsBody f body = ((own : List ℕ) × (all : Trees.Statements ℕ) × (body ≡ Trees.block own all))
      × AreMarked (addressed_by_statement body) 0 (f.parameters ++ f.locals)
      × IsPrintableStatement p.records (local_types f) (mapped_statement (of_types ty) body)

  abbrev pub IsPrintableFunction : FunctionData → Type 0
  IsPrintableFunction f = All (IsBody f) (if_any f.body)

-- ---- all of them

pub record IsPrintable (p : ProgramData) : Type 0 where
  pub types : All (IsDeclarable (length p.records)) p.types
  pub records : All (IsPrintableRecord p) p.records
  pub objects : All (IsPrintableObject p) p.objects
  pub literals : StandsOnce p
  pub functions : All (IsPrintableFunction p) p.functions
