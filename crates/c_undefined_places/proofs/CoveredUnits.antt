-- Covered units: what a unit says of the records in its types. A record is accused where a type speaks of it for which the unit has a mention, or which a
-- field has.
use Rattle.std.specs.Prelude.{◌⊎◌, ℕ, List, [], ◌++◌, map, IfSome}
use Rattle.std.specs.List.{AllByRecursion}
use Rattle.c_types.specs.Types.{CType, Field, Record}
use Rattle.c_typed.specs.declared.program.InitialValue.{InitialValue}
use Rattle.c_typed.specs.declared.program.InitialValue.TheVariants as V
use Rattle.c_typed.specs.declared.program.MentionKind.{MentionKind}
use Rattle.c_typed.specs.declared.program.MentionKind.TheVariants as M
use Rattle.c_typed.specs.declared.program.Object.{Object}
use Rattle.c_typed.specs.Programs.{FunctionData, UnitData}
use Rattle.c_typed.specs.TypeNumbers.{type_at}
use Rattle.c_typed.specs.Walk.{types_in_statement}
use Rattle.c_link.proofs.JoinedRecords.{IsAmong}
use Rattle.legality.specs.InTypes.{arrays_in, itself, pointed}

-- the record that a type is, and those of which arrays stand in it
abbrev pub values_in : CType → List ℕ
values_in t = itself t ++ arrays_in t

-- of what mentions accuse the records in their types; of the other kinds nothing is asked here
abbrev pub accused_by : MentionKind → CType → List ℕ
accused_by M.Object t = values_in t
accused_by M.Named t = arrays_in t
accused_by M.To t = pointed t
accused_by kind t = []

-- by mentions with their types, or by the fields of records
abbrev pub IsAccused : List Record → List (MentionKind × CType) → ℕ → Type 0
IsAccused records said r = ((m : MentionKind × CType) × IsAmong m said × IsAmong r (accused_by m.0 m.1))
    ⊎ ((owner : Record) × (f : Field) × IsAmong owner records × IsAmong f owner.fields × IsAmong r (values_in f.ty))

abbrev pub AreAccused : List Record → List (MentionKind × CType) → List ℕ → Type 0
AreAccused records said numbers = AllByRecursion (IsAccused records said) numbers

-- ---- units

abbrev pub said_by : UnitData → List (MentionKind × CType)
said_by u = map (λ m. (m.kind, type_at u.types m.ty)) u.mentions

abbrev pub AccusedIn : UnitData → List ℕ → Type 0
AccusedIn u numbers = AreAccused u.records (said_by u) numbers

abbrev pub ArraysAccusedIn : UnitData → ℕ → Type 0
ArraysAccusedIn u t = AccusedIn u (arrays_in (type_at u.types t))

abbrev pub ValuesAccusedIn : UnitData → ℕ → Type 0
ValuesAccusedIn u t = AccusedIn u (values_in (type_at u.types t))

abbrev pub InitialAccusedIn : UnitData → InitialValue → Type 0
InitialAccusedIn u (V.Address t object offset) = AccusedIn u (pointed (type_at u.types t))
InitialAccusedIn u v = Unit {0}

abbrev pub ObjectAccusedIn : UnitData → Object → Type 0
ObjectAccusedIn u o = ValuesAccusedIn u o.ty × IfSome o.initial (AllByRecursion (λ i. InitialAccusedIn u i.value))

abbrev pub FunctionAccusedIn : UnitData → FunctionData → Type 0
FunctionAccusedIn u g = ArraysAccusedIn u g.ty × AllByRecursion (λ l. ValuesAccusedIn u l.ty) (g.parameters ++ g.locals)
    × IfSome g.body (λ body. AllByRecursion (ArraysAccusedIn u) (types_in_statement body))

pub record IsCoveredUnit (u : UnitData) : Type 0 where
  pub objects : AllByRecursion (ObjectAccusedIn u) u.objects
  pub functions : AllByRecursion (FunctionAccusedIn u) u.functions
