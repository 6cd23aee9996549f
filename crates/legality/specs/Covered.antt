-- Covered programs: a record violates a test where it is the type of an object, a parameter or a local, where an address of type `T *` stands among what
-- objects hold at first, or where an array of it stands anywhere in the type of an object, a parameter, a local, a field, a function or an expression.
use Rattle.std.specs.Prelude.{ℕ, List, ◌++◌, All, IfSome}
use Rattle.lay_base.specs.declared.place.Place.{Place}
use Rattle.c_types.specs.Types.{Record}
use Rattle.c_typed.specs.declared.program.InitialValue.{InitialValue}
use Rattle.c_typed.specs.declared.program.InitialValue.TheVariants as V
use Rattle.c_typed.specs.declared.program.Object.{Object}
use Rattle.c_typed.specs.Programs.{FunctionData, ProgramData}
use Rattle.c_typed.specs.TypeNumbers.{type_at}
use Rattle.c_typed.specs.Walk.{types_in_statement}
use Rattle.legality.specs.declared.violation.Test.{Test}
use Rattle.legality.specs.Breaches.{Violates}
use Rattle.legality.specs.InTypes.{arrays_in, itself, pointed}

-- the record with that number is not legal
abbrev pub IsRefused : ProgramData → (number : ℕ) → Type 0
IsRefused p number = (test : Test) × (place : Place) × Violates p number test place

abbrev pub AreRefused : ProgramData → List ℕ → Type 0
AreRefused p numbers = All (IsRefused p) numbers

-- ---- types by their numbers

-- each record of which an array stands anywhere in the type
abbrev pub AreArraysRefused : ProgramData → ℕ → Type 0
AreArraysRefused p t = AreRefused p (arrays_in (type_at p.types t))

-- ... and the record that the type is
abbrev pub AreValuesRefused : ProgramData → ℕ → Type 0
AreValuesRefused p t = AreRefused p (itself (type_at p.types t) ++ arrays_in (type_at p.types t))

-- ---- objects, functions and records

abbrev pub IsCoveredInitial : ProgramData → InitialValue → Type 0
IsCoveredInitial p (V.Address t object offset) = AreRefused p (pointed (type_at p.types t))
IsCoveredInitial p v = Unit {0}

abbrev pub IsCoveredObject : ProgramData → Object → Type 0
IsCoveredObject p o = AreValuesRefused p o.ty × IfSome o.initial (All (λ i. IsCoveredInitial p i.value))

-- the operands of `&` and what is stored to are expressions too (C99 6.5.3.2, 6.5.16)
abbrev pub IsCoveredFunction : ProgramData → FunctionData → Type 0
IsCoveredFunction p f = AreArraysRefused p f.ty × All (λ l. AreValuesRefused p l.ty) (f.parameters ++ f.locals)
    × IfSome f.body (λ body. All (AreArraysRefused p) (types_in_statement body))

abbrev pub IsCoveredRecord : ProgramData → Record → Type 0
IsCoveredRecord p r = All (λ f. AreRefused p (arrays_in f.ty)) r.fields

pub record IsCovered (p : ProgramData) : Type 0 where
  pub objects : All (IsCoveredObject p) p.objects
  pub functions : All (IsCoveredFunction p) p.functions
  pub records : All (IsCoveredRecord p) p.records
