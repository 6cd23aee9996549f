-- What a program gives so that its start wants nothing but memory.
use Rattle.std.specs.Prelude.{◌≡◌, ℕ, ◌+◌, ◌-◌, ◌%◌, ◌^◌, ◌≤◌, ◌<◌, false, All, fold}
use Rattle.c_typed.specs.RunCounts.Loops.{loops_of}
use Rattle.c_meaning.specs.Program.{none_or, object_size, size_at}
use Rattle.c_types.specs.IntKinds.{width}
use Rattle.c_typed.specs.declared.program.Initial.{Initial}
use Rattle.c_typed.specs.declared.program.InitialValue.{InitialValue}
use Rattle.c_typed.specs.declared.program.InitialValue.TheVariants as V
use Rattle.c_typed.specs.declared.program.Object.{Object}
use Rattle.c_typed.specs.Programs.{ProgramData}

abbrev pub value_bytes : InitialValue → ℕ
value_bytes (V.Number kind v) = width kind
value_bytes v = 4

-- a pointer stands at a multiple of four, and in no string literal
abbrev pub StandsFree : Object → (at : ℕ) → InitialValue → Type 0
StandsFree o at (V.Number kind v) = Unit {0}
StandsFree o at v = (at % 4 ≡ 0) × (o.text ≡ false)

pub record IsFitValue (p : ProgramData) (o : Object) (i : Initial) : Type 0 where
  pub ends : i.offset + value_bytes i.value ≤ size_at p o.ty
  pub free : StandsFree o i.offset i.value

abbrev pub object_bytes : ProgramData → ℕ
object_bytes p = fold (λ n o. n + object_size p o) 0 p.objects

-- each first value fits into its object, the loops of a function can be counted in 32 bits, and all objects have few bytes
pub record StartsFit (p : ProgramData) : Type 0 where
  pub values : All (λ o. All (IsFitValue p o) (none_or o.initial)) p.objects
  pub loops : All (λ f. loops_of f < 2 ^ 32 - 1) p.functions
  pub bytes : object_bytes p ≤ 2 ^ 24
