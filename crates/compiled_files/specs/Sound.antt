-- What of a program and of its code its machine code stands on.
use Rattle.std.specs.Prelude.{◌≡◌, ℕ, ◌+◌, ◌≤◌, ◌<◌, ◌^◌, All, [], Some, slice_get}
use Rattle.c_types.specs.IntKinds.{width}
use Rattle.c_typed.specs.Programs.{ProgramData}
use Rattle.c_typed.specs.declared.program.Initial.{Initial}
use Rattle.c_typed.specs.declared.program.InitialValue.{InitialValue}
use Rattle.c_typed.specs.declared.program.InitialValue.TheVariants as V
use Rattle.c_typed.specs.declared.program.Object.{Object}
use Rattle.c_meaning.specs.Program.{none_or, object_size}
use Rattle.rv_code.specs.Programs.{places_of}
use Rattle.rv_emit.specs.Fitting.{CodeFits}
use Rattle.rv_emit.specs.Maps.{HasBody}
use Rattle.rv_emit.specs.Relation.{ParameterFits}
use Rattle.rv_image.specs.Data.{object_places}
use Rattle.tac_ir.specs.Code.{Code, RoutineData}
use Rattle.tac_ir.specs.declared.step.Parameter.{Parameter}

-- ---- what objects hold at first

module _ (p : ProgramData) (c : Code) where
  -- a number is a word, an address is that of a byte of an object or of its end, and a function has a body
  abbrev pub ValueFits : InitialValue → Type 0
  ValueFits (V.Number kind v) = v < 2 ^ 32
  ValueFits (V.Address type n at) = (o : Object) × (slice_get p.objects n ≡ Some o) × (at ≤ object_size p o)
  ValueFits (V.Function type f) = HasBody c f

  -- how many bytes a value has
  abbrev pub value_width : InitialValue → ℕ
  value_width (V.Number kind v) = width kind
  value_width (V.Address type n at) = 4
  value_width (V.Function type f) = 4

  pub record InitialFits (o : Object) (i : Initial) : Type 0 where
    pub within : i.offset + value_width i.value ≤ object_size p o
    pub value : ValueFits i.value

  abbrev pub ObjectsFit : Type 0
  ObjectsFit = (n : ℕ) (o : Object) → slice_get p.objects n ≡ Some o → All (InitialFits o) (none_or o.initial)

  -- ---- functions

  -- the code of a function, and its parameters
  pub record RoutineFits (g : RoutineData) : Type 0 where
    pub code : CodeFits p.types c (places_of c (object_places p)) g g.code
    pub parameters : (x : ℕ) (r : Parameter) → slice_get g.parameters x ≡ Some r → ParameterFits g x r

  pub record IsSound : Type 0 where
    pub objects : ObjectsFit
    pub routines : (f : ℕ) (g : RoutineData) → slice_get c.routines f ≡ Some g → RoutineFits g
    -- `main` takes nothing
    pub main : (g : RoutineData) → slice_get c.routines c.main ≡ Some g → g.parameters ≡ []
