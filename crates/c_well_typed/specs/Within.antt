-- Where what an object holds at first lies in it (C99 6.2.5, 6.7.8): what an interpreter asks that writes it there.
use Rattle.std.specs.Prelude.{◌≡◌, ℕ, ◌+◌, ◌%◌, ◌^◌, ◌≤◌, true, List, All, length, Option, Some, None}
use Rattle.lay_base.specs.declared.place.File.{File}
use Rattle.c_types.specs.declared.ty.IntKind.TheVariants.{Char}
use Rattle.c_types.specs.IntKinds.{width}
use Rattle.c_types.specs.Layouts.{size_of}
use Rattle.c_types.specs.Limits.{AreComplete}
use Rattle.c_types.specs.Types.{CType, integer, array}
use Rattle.c_typed.specs.RunCounts.Loops.{loops_of}
use Rattle.c_typed.specs.declared.program.Initial.{Initial}
use Rattle.c_typed.specs.declared.program.InitialValue.{InitialValue}
use Rattle.c_typed.specs.declared.program.InitialValue.TheVariants as V
use Rattle.c_typed.specs.declared.program.Object.{Object}
use Rattle.c_typed.specs.Programs.{ProgramData}
use Rattle.c_link.specs.Gaps.{local_bytes, global_bytes}
use Rattle.c_link.specs.Programs.{IsProgramOf}
use Rattle.c_well_typed.specs.WellTyped.{Lists, ty, of_program, IsTypedObject}

-- how many bytes a value has, which is its alignment too
abbrev pub value_size : InitialValue → ℕ
value_size (V.Number kind v) = width kind
value_size (V.Address t n offset) = 4
value_size (V.Function t f) = 4

-- it ends in the object, and begins at a multiple of its size
pub record IsWithin (l : Lists) (t : CType) (i : Initial) : Type 0 where
  pub ends : i.offset + value_size i.value ≤ size_of l.records t
  pub aligned : i.offset % value_size i.value ≡ 0

abbrev pub AreWithin : Lists → CType → Option (List Initial) → Type 0
AreWithin l t None = Unit {0}
AreWithin l t (Some all) = All (IsWithin l t) all

-- of an object that is typed
abbrev pub InitialsLieWithin : Type 0
InitialsLieWithin = (l : Lists) → AreComplete l.records → (o : Object) → IsTypedObject l o → AreWithin l (ty l o.ty) o.initial

-- ---- string literals

-- the object of one is an array of characters (6.4.5)
abbrev pub IsTextObject : Lists → Object → Type 0
IsTextObject l o = o.text ≡ true → (n : ℕ) × (ty l o.ty ≡ array (integer Char) n)

-- a number, and no pointer
abbrev pub IsNumber : InitialValue → Type 0
IsNumber (V.Number kind v) = Unit {0}
IsNumber v = ⊥

abbrev pub AreNumbers : Option (List Initial) → Type 0
AreNumbers None = Unit {0}
AreNumbers (Some all) = All (λ i. IsNumber i.value) all

-- so it holds no pointer
abbrev pub TextsHoldNumbers : Type 0
TextsHoldNumbers = (l : Lists) (o : Object) → IsTypedObject l o → IsTextObject l o → o.text ≡ true → AreNumbers o.initial

abbrev pub ProgramHasTexts : ProgramData → Type 0
ProgramHasTexts p = (files : List File) → IsProgramOf files p → All (IsTextObject (of_program p)) p.objects

-- ---- limits

-- how many nodes it has, how many fields a record, and how many bytes the locals of a function take, and all objects with the strings that initialize
-- locals
pub record IsWithinLimits (p : ProgramData) : Type 0 where
  pub nodes : p.nodes ≤ 131072
  pub fields : All (λ r. length r.fields ≤ 64) p.records
  pub frames : All (λ f. local_bytes p f ≤ 2 ^ 24) p.functions
  pub globals : global_bytes p ≤ 2 ^ 24

abbrev pub ProgramsAreWithinLimits : Type 0
ProgramsAreWithinLimits = (files : List File) (p : ProgramData) → IsProgramOf files p → IsWithinLimits p

-- each function has as few loops as a program may have nodes
abbrev pub ProgramsHaveFewLoops : Type 0
ProgramsHaveFewLoops = (files : List File) (p : ProgramData) → IsProgramOf files p → All (λ f. loops_of f ≤ 131072) p.functions

-- and a program as few functions
abbrev pub ProgramsHaveFewFunctions : Type 0
ProgramsHaveFewFunctions = (files : List File) (p : ProgramData) → IsProgramOf files p → length p.functions ≤ 131072
