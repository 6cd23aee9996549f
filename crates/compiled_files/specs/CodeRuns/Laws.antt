-- The laws of runs of code.
use Rattle.std.specs.Prelude.{false, ◌≡◌, ℕ, ◌+◌, ◌≤◌, List, [], ◌∷◌, Option, slice_get}
use Rattle.lay_base.specs.declared.place.Place.{Place}
use Rattle.c_types.specs.Types.{CType}
use Rattle.c_typed.specs.Programs.{ProgramData}
use Rattle.block_memory.specs.RunWorlds.Events.{Event, entered, heap_weight}
use Rattle.block_memory.specs.RunWorlds.Worlds.{World, End, world_of}
use Rattle.block_memory.specs.declared.run_worlds.value.Value.{Value}
use Rattle.c_meaning.specs.Frames.{Frame}
use Rattle.c_meaning.specs.Run.{run_of}
use Rattle.c_meaning.specs.Weights.{IsLight}
use Rattle.tac_ir.specs.Code.{Code, RoutineData}
use Rattle.tac_ir.specs.Covering.{Covers}
use Rattle.tac_ir.specs.Running.{Caller, Next, returns, body, calls, does, go, code_run}
use Rattle.tac_ir.specs.declared.step.Step.{Step}
use Rattle.compiled_files.specs.CodeRuns.Active.{active, frames, greatest, IsActive}
use Rattle.compiled_files.specs.CodeRuns.Growth.{Grew, Onward, OnlyAdds}
use Rattle.compiled_files.specs.CodeRuns.Leading.{Leads, KeepsActive, MakesActive}
use Rattle.compiled_files.specs.CodeRuns.Moments.{world_behind}
use Rattle.compiled_files.specs.CodeRuns.Passing.{Passes, PassesTo}
use Rattle.compiled_files.specs.CodeRuns.Room.{AreWithin, Fits}

-- ---- steps

-- a step, the body of a function that was entered, a call, and a return, each to one moment or the end
pub record Lead (types : List CType) (c : Code) : Type 0 where
  pub steps : (cs : List Caller) (g : RoutineData) (s : Step) (more : List Step) (f : Frame) (w : World)
      → Leads w (KeepsActive c cs g w.trace) (λ next. does types c next cs g s more f w)
  pub bodies : (at : Place) (cs : List Caller) (g : RoutineData) (code : List Step) (all : List Value) (w : World)
      → Leads w (KeepsActive c cs g w.trace) (λ next. body types c next at cs g code all w)
  pub calls : (at : Place) (k : ℕ) (cs : List Caller) (all : List Value) (f : Frame) (w : World)
      → Leads w (MakesActive c cs w.trace) (λ next. calls types c next at k cs (slice_get c.routines k) all f w)
  pub returns : (cs : List Caller) (v : Option Value) (w : World) → Leads w (MakesActive c cs w.trace) (λ next. returns types c next cs v w)

abbrev pub StepsLead : Type 0
StepsLead = (types : List CType) (c : Code) → Lead types c

-- ---- runs

-- a step, the body of a function, a call, and a return only add where what follows only adds
pub record Add (types : List CType) (c : Code) (next : Next) : Type 0 where
  pub steps : (cs : List Caller) (g : RoutineData) (s : Step) (more : List Step) (f : Frame) (w : World)
      → Onward w (world_of (does types c next cs g s more f w))
  pub bodies : (at : Place) (cs : List Caller) (g : RoutineData) (code : List Step) (all : List Value) (w : World)
      → Onward w (world_of (body types c next at cs g code all w))
  pub calls : (at : Place) (k : ℕ) (cs : List Caller) (all : List Value) (f : Frame) (w : World)
      → Onward w (world_of (calls types c next at k cs (slice_get c.routines k) all f w))
  pub returns : (cs : List Caller) (v : Option Value) (w : World) → Onward w (world_of (returns types c next cs v w))

abbrev pub StepsAdd : Type 0
StepsAdd = (types : List CType) (c : Code) (next : Next) → OnlyAdds next → Add types c next

-- and a run of any number of steps only adds
abbrev pub RunsAdd : Type 0
RunsAdd = (types : List CType) (c : Code) (n : ℕ) → OnlyAdds (go types c n)

-- after any number of steps the active functions of a run are those of its calls
abbrev pub RunsPass : Type 0
RunsPass = (types : List CType) (c : Code) (w : World) → active w.trace ≡ [] → (k : ℕ) → Passes types c w k (code_run types c w)

-- and where the run comes to an end, that is later
abbrev pub CoveredRunsPass : Type 0
CoveredRunsPass = (types : List CType) (c : Code) (w : World) (e : End) → active w.trace ≡ [] → Covers e (code_run types c w) → (k : ℕ)
    → PassesTo types c e w k (code_run types c w)

-- ---- weights

-- what only rises while a trace grows
pub record Rise (old new : List Event) : Type 0 where
  pub heap : heap_weight old ≤ heap_weight new
  pub stack : (size : ℕ → ℕ) → greatest size old ≤ greatest size new

abbrev pub WeightsRise : Type 0
WeightsRise = (old new : List Event) → Grew old new → Rise old new

-- the frames of the calls that are not over, and the one that is entered, are at most the greatest
abbrev pub CallsAreWithin : Type 0
CallsAreWithin = (c : Code) (number : ℕ) (numbers : List ℕ) (cs : List Caller) (g : RoutineData) (trace : List Event) → IsActive c number numbers cs g trace
    → (size : ℕ → ℕ) (k : ℕ) → size k + (size number + frames size numbers) ≤ greatest size (entered k ∷ trace)

-- what fits at the end has fitted before
abbrev pub EarlierFits : Type 0
EarlierFits = (size : ℕ → ℕ) (heap stack : ℕ) (old new : List Event) → Grew old new → Fits size heap stack new → Fits size heap stack old

-- a light run fits where each frame is within the weight of a call
abbrev pub LightRunsFit : Type 0
LightRunsFit = (p : ProgramData) (heap stack : ℕ) (input : List ℕ) (turns : ℕ) → IsLight p heap stack input turns
    → (size : ℕ → ℕ) → AreWithin p size → Fits size heap stack (world_of (run_of p input turns false)).trace

-- and so does each moment of a run of code that comes to its end
abbrev pub LightMomentsFit : Type 0
LightMomentsFit = (p : ProgramData) (heap stack : ℕ) (input : List ℕ) (turns : ℕ) → IsLight p heap stack input turns → (size : ℕ → ℕ) → AreWithin p size
    → (types : List CType) (c : Code) (w : World) → active w.trace ≡ [] → Covers (run_of p input turns false) (code_run types c w)
    → (k : ℕ) → (passes : Passes types c w k (code_run types c w)) × Fits size heap stack (world_behind passes.moved).trace
