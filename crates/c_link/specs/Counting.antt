-- When the bytes of a program's objects can be counted.
use Rattle.std.specs.Prelude.{ℕ, ◌≤◌, ◌++◌, IsTrue, All, get_or, length, List}
use Rattle.c_types.specs.Layouts.{size_of}
use Rattle.c_types.specs.Limits.{AreComplete, greatest_size}
use Rattle.c_types.specs.Objects.{is_object}
use Rattle.c_types.specs.Types.{CType, Record, void}
use Rattle.c_typed.specs.Programs.{ProgramData, FunctionData, UnitData}
use Rattle.lay_base.specs.declared.faults.LimitKind.{LimitKind}
use Rattle.c_link.specs.declared.limits.Passed.{Passed}
use Rattle.c_link.specs.Gaps.{type_at}

-- an object type within the limits of types
pub record IsMeasured (records : List Record) (t : CType) : Type 0 where
  pub complete : IsTrue (is_object (length records) t)
  pub small : size_of records t ≤ greatest_size

abbrev pub AreLocalsMeasured : ProgramData → FunctionData → Type 0
AreLocalsMeasured p f = All (λ l. IsMeasured p.records (type_at p l.ty)) (f.parameters ++ f.locals)

-- each object and each local has such a type
pub record AreMeasured (p : ProgramData) : Type 0 where
  pub objects : All (λ o. IsMeasured p.records (type_at p o.ty)) p.objects
  pub locals : All (AreLocalsMeasured p) p.functions

-- ---- of units

abbrev pub type_of_unit : UnitData → ℕ → CType
type_of_unit u i = get_or u.types i void

-- its records are complete, and each object and each local of it has such a type
pub record IsCountable (u : UnitData) : Type 0 where
  pub records : AreComplete u.records
  pub objects : All (λ o. IsMeasured u.records (type_of_unit u o.ty)) u.objects
  pub locals : All (λ f. All (λ l. IsMeasured u.records (type_of_unit u l.ty)) (f.parameters ++ f.locals)) u.functions

-- ---- a limit that is passed

abbrev pub passed_of : Passed → LimitKind × ℕ
passed_of it = (it.which, it.counted)
