-- The laws of lowered code.
use Rattle.std.specs.Prelude.{◌≡◌, ◌≢◌, ℕ, ◌+◌, ◌*◌, ◌^◌, ◌<◌, ◌≤◌, List, [], ◌∷◌, length, map, All, Some, None, slice_get}
use Rattle.lay_base.specs.declared.place.File.{File}
use Rattle.c_typed.specs.Programs.{FunctionData, ProgramData}
use Rattle.c_meaning.specs.Program.{all_locals, size_at}
use Rattle.tac_ir.specs.Code.{RoutineData}
use Rattle.tac_ir.specs.declared.step.Step.{Step}
use Rattle.tac_ir.specs.declared.step.Step.TheVariants as S
use Rattle.c_link.specs.Programs.{IsProgramOf}
use Rattle.lower_tac.specs.Asked.{asked_by_functions}
use Rattle.lower_tac.specs.Statements.{lowered}
use Rattle.c_well_typed.specs.ProgramWeights.Bounds.{IsProgramBounded}
use Rattle.c_well_typed.specs.ProgramWeights.Counted.{code, frame}
use Rattle.c_well_typed.specs.ProgramWeights.Weights.{weight_of_function, code_weight_of_program}
use Rattle.c_well_typed.specs.WellTyped.{of_program, HasMain, HaveTypedFunctions}
use Rattle.tac_ir.specs.Jumps.{JumpsWithin}
use Rattle.tac_ir.specs.Kinds.{KindsWithin}
use Rattle.tac_ir.specs.Turns.{JumpsLeadOn}
use Rattle.code_bounds.specs.Prices.{Prices, in_steps, AreBytes, paid, price_of_routine, price_of_routines}
use Rattle.code_bounds.specs.Scopes.{HasScopes}
use Rattle.tac_ir.specs.Temporaries.{top_of_all}
use Rattle.code_bounds.specs.Temporaries.{temporaries}

-- the routine of that number, and the function whose code it has
pub record IsRoutineOf (p : ProgramData) (r : RoutineData) (f : FunctionData) : Type 0 where
  pub number : ℕ
  pub routine : slice_get (lowered p).routines number ≡ Some r
  pub function : slice_get p.functions number ≡ Some f

-- each jump leads to a step of its function
abbrev pub JumpsStand : Type 0
JumpsStand = (p : ProgramData) → All JumpsWithin (lowered p).routines

-- each jump leads on, or back to where a turn is taken
abbrev pub AllJumpsLeadOn : Type 0
AllJumpsLeadOn = (p : ProgramData) → All JumpsLeadOn (lowered p).routines

-- no step writes a local that lies in a block, and each block of which one speaks is a local's
abbrev pub KindsStand : Type 0
KindsStand = (p : ProgramData) → All KindsWithin (lowered p).routines

-- each block begins with the size of its local
abbrev pub sizes_of_locals : ProgramData → FunctionData → List ℕ
sizes_of_locals p f = map (λ l. size_at p l.ty) (all_locals f)

abbrev pub HasOwnSize : (sizes : List ℕ) → Step → Type 0
HasOwnSize sizes (S.Begin x size) = slice_get sizes x ≡ Some size
HasOwnSize sizes s = Unit {0}

abbrev pub SizesStand : Type 0
SizesStand = (p : ProgramData) (r : RoutineData) (f : FunctionData) → IsRoutineOf p r f → All (HasOwnSize (sizes_of_locals p f)) r.code

-- a function has no more labels than steps
abbrev pub HasFewLabels : RoutineData → Type 0
HasFewLabels r = length r.labels ≤ length r.code

abbrev pub LabelsAreFew : Type 0
LabelsAreFew = (p : ProgramData) → All HasFewLabels (lowered p).routines

-- what is in a function pays for its code, whatever the prices
abbrev pub CodeIsPaid : Type 0
CodeIsPaid = (p : ProgramData) (r : RoutineData) (f : FunctionData) → IsRoutineOf p r f → HasScopes f
    → (c : Prices) → price_of_routine c r ≤ weight_of_function (paid c) f

-- so there are no more steps than it weighs where each costs one
abbrev pub StepsAreFew : Type 0
StepsAreFew = (p : ProgramData) (r : RoutineData) (f : FunctionData) → IsRoutineOf p r f → HasScopes f
    → length r.code ≤ weight_of_function (paid in_steps) f

-- and in bytes the code is within the weight of the function, and of the program
abbrev pub BytesAreWithin : Type 0
BytesAreWithin = (p : ProgramData) (r : RoutineData) (f : FunctionData) → IsRoutineOf p r f → HasScopes f
    → (c : Prices) → AreBytes c → price_of_routine c r ≤ weight_of_function code f

abbrev pub ProgramsAreWithin : Type 0
ProgramsAreWithin = (p : ProgramData) → All HasScopes p.functions
    → (c : Prices) → AreBytes c → price_of_routines c (lowered p).routines ≤ code_weight_of_program p

-- where `main` is there, 512 bytes of that weight are left
abbrev pub BytesAreLeft : Type 0
BytesAreLeft = (p : ProgramData) → All HasScopes p.functions → HasMain p
    → (c : Prices) → AreBytes c → price_of_routines c (lowered p).routines + 512 ≤ code_weight_of_program p

-- how many steps there are in all
abbrev pub steps_in : List RoutineData → ℕ
steps_in [] = 0
steps_in (r ∷ more) = length r.code + steps_in more

-- a program within the bounds on nodes has at most 32 steps for three nodes
abbrev pub ProgramsHaveFewSteps : Type 0
ProgramsHaveFewSteps = (p : ProgramData) → All HasScopes p.functions → IsProgramBounded p → 3 * steps_in (lowered p).routines ≤ 32 * p.nodes

-- a function pays for its temporaries beside its locals
abbrev pub TemporariesAreFew : Type 0
TemporariesAreFew = (p : ProgramData) (r : RoutineData) (f : FunctionData) → IsRoutineOf p r f
    → top_of_all r.code ≤ length r.locals + weight_of_function temporaries f

-- four bytes for each are within the weight of its frame, and 100 bytes of that are left
abbrev pub FramesAreWithin : Type 0
FramesAreWithin = (p : ProgramData) (r : RoutineData) (f : FunctionData) → IsRoutineOf p r f → HasScopes f → f.body ≢ None
    → 4 * (length r.locals + weight_of_function temporaries f) + 100 ≤ weight_of_function frame f

-- there are eight bytes of a function's code for each byte of its frame
abbrev pub FramesWeighLess : Type 0
FramesWeighLess = (f : FunctionData) → 8 * weight_of_function frame f ≤ weight_of_function code f

-- the locals of well typed functions stand in the scopes that declare them
abbrev pub TypedHaveScopes : Type 0
TypedHaveScopes = (p : ProgramData) → HaveTypedFunctions (of_program p) → All HasScopes p.functions

-- the code of a program of files asks for fewer numbers than 32 bits count
abbrev pub FewAreAsked : Type 0
FewAreAsked = (files : List File) (p : ProgramData) → IsProgramOf files p → asked_by_functions p.functions < 2 ^ 32
