-- What only rises while a trace grows, and the room that a light run has.
use Rattle.std.proofs.Common.{false, ◌≡◌, refl, sym, ap, subst, ℕ, ◌+◌, ◌≤◌, List, [], ◌∷◌, ◌++◌, drop, arith}
use Rattle.c_typed.specs.Programs.{ProgramData}
use Rattle.block_memory.specs.RunWorlds.Events.{Event, put, got, allocated, freed, loaded, stored, reached, entered, left, began, heap_weight}
use Rattle.block_memory.specs.RunWorlds.Worlds.{world_of}
use Rattle.c_meaning.specs.Run.{run_of}
use Rattle.c_meaning.specs.Weights.{frame_of, greatest_frames, IsLight}
use Rattle.c_meaning.specs.Weights as Source
use Rattle.tac_ir.specs.Code.{Code, RoutineData}
use Rattle.tac_ir.specs.Covering.{Covers}
use Rattle.tac_ir.specs.Running.{Caller, code_run}
use Rattle.block_memory.specs.RunWorlds.Worlds.{World}
use Rattle.c_types.specs.Types.{CType}
use Rattle.compiled_files.specs.CodeRuns.Active.{active, frames, greatest, IsActive}
use Rattle.compiled_files.specs.CodeRuns.Growth.{Grew}
use Rattle.compiled_files.specs.CodeRuns.Laws.{Rise}
use Rattle.compiled_files.specs.CodeRuns.Moments.{world_behind}
use Rattle.compiled_files.specs.CodeRuns.Passing.{Passes}
use Rattle.compiled_files.proofs.CodeRuns.Runs.{covered_runs_pass}
use Rattle.compiled_files.specs.CodeRuns.Room.{AreWithin, Fits, CallHasRoom, AllocationHasRoom}

-- ---- while a trace grows

heap_more : (more old : List Event) → heap_weight old ≤ heap_weight (more ++ old)
heap_more [] old = omega arith
heap_more (allocated b e n ∷ more) old = (let h = heap_more more old in omega (arith, h))
heap_more (put byte ∷ more) old = heap_more more old
heap_more (got byte ∷ more) old = heap_more more old
heap_more (freed b ∷ more) old = heap_more more old
heap_more (loaded b o n ∷ more) old = heap_more more old
heap_more (stored b o n ∷ more) old = heap_more more old
heap_more (reached b o ∷ more) old = heap_more more old
heap_more (entered f ∷ more) old = heap_more more old
heap_more (left ∷ more) old = heap_more more old
heap_more (began f l ∷ more) old = heap_more more old

module _ (size : ℕ → ℕ) where
  greatest_more : (more old : List Event) → greatest size old ≤ greatest size (more ++ old)
  greatest_more [] old = omega arith
  greatest_more (entered f ∷ more) old = (let h = greatest_more more old in omega (arith, h))
  greatest_more (put byte ∷ more) old = greatest_more more old
  greatest_more (got byte ∷ more) old = greatest_more more old
  greatest_more (allocated b e n ∷ more) old = greatest_more more old
  greatest_more (freed b ∷ more) old = greatest_more more old
  greatest_more (loaded b o n ∷ more) old = greatest_more more old
  greatest_more (stored b o n ∷ more) old = greatest_more more old
  greatest_more (reached b o ∷ more) old = greatest_more more old
  greatest_more (left ∷ more) old = greatest_more more old
  greatest_more (began f l ∷ more) old = greatest_more more old

pub weights_rise : (old new : List Event) → Grew old new → Rise old new
weights_rise old new grew = record {
  heap = subst (λ (z : List Event). heap_weight old ≤ heap_weight z) (sym grew.1) (heap_more grew.0 old);
  stack = λ size. subst (λ (z : List Event). greatest size old ≤ greatest size z) (sym grew.1) (greatest_more size grew.0 old);
}

-- ---- frames

pub calls_are_within : (c : Code) (number : ℕ) (numbers : List ℕ) (cs : List Caller) (g : RoutineData) (trace : List Event)
    → IsActive c number numbers cs g trace → (size : ℕ → ℕ) (k : ℕ) → size k + (size number + frames size numbers) ≤ greatest size (entered k ∷ trace)
calls_are_within c number numbers cs g trace h size k = (let e = ap (frames size) h.are_active in omega (arith, e))

-- ---- and the source's weights

module _ (p : ProgramData) where
  active_same : (trace : List Event) → active trace ≡ Source.active p trace
  active_same [] = refl
  active_same (entered f ∷ before) = ap (λ all. f ∷ all) (active_same before)
  active_same (left ∷ before) = ap (λ all. drop 1 all) (active_same before)
  active_same (put byte ∷ before) = active_same before
  active_same (got byte ∷ before) = active_same before
  active_same (allocated b e n ∷ before) = active_same before
  active_same (freed b ∷ before) = active_same before
  active_same (loaded b o n ∷ before) = active_same before
  active_same (stored b o n ∷ before) = active_same before
  active_same (reached b o ∷ before) = active_same before
  active_same (began f l ∷ before) = active_same before

  module _ (size : ℕ → ℕ) (within : AreWithin p size) where
    frames_within : (all : List ℕ) → frames size all ≤ Source.frames p all
    frames_within [] = omega arith
    frames_within (f ∷ more) = omega (arith, within f, frames_within more)

    greatest_within : (trace : List Event) → greatest size trace ≤ greatest_frames p trace
    greatest_within [] = omega arith
    greatest_within (entered f ∷ before) =
        let e = ap (λ all. Source.frames p (f ∷ all)) (active_same before) in
        omega (arith, e, frames_within (f ∷ active before), greatest_within before)
    greatest_within (left ∷ before) = greatest_within before
    greatest_within (put byte ∷ before) = greatest_within before
    greatest_within (got byte ∷ before) = greatest_within before
    greatest_within (allocated b e n ∷ before) = greatest_within before
    greatest_within (freed b ∷ before) = greatest_within before
    greatest_within (loaded b o n ∷ before) = greatest_within before
    greatest_within (stored b o n ∷ before) = greatest_within before
    greatest_within (reached b o ∷ before) = greatest_within before
    greatest_within (began f l ∷ before) = greatest_within before

-- ---- room

pub earlier_fits : (size : ℕ → ℕ) (heap stack : ℕ) (old new : List Event) → Grew old new → Fits size heap stack new → Fits size heap stack old
earlier_fits size heap stack old new grew fits =
    let rise = weights_rise old new grew in
    record { heap_fits = omega (arith, rise.heap, fits.heap_fits); stack_fits = omega (arith, rise.stack size, fits.stack_fits) }

pub light_runs_fit : (p : ProgramData) (heap stack : ℕ) (input : List ℕ) (turns : ℕ) → IsLight p heap stack input turns
    → (size : ℕ → ℕ) → AreWithin p size → Fits size heap stack (world_of (run_of p input turns false)).trace
light_runs_fit p heap stack input turns light size within = record {
  heap_fits = light.heap_fits;
  stack_fits = omega (arith, greatest_within p size within (world_of (run_of p input turns false)).trace, light.stack_fits);
}

pub light_moments_fit : (p : ProgramData) (heap stack : ℕ) (input : List ℕ) (turns : ℕ) → IsLight p heap stack input turns
    → (size : ℕ → ℕ) → AreWithin p size → (types : List CType) (c : Code) (w : World) → active w.trace ≡ []
    → Covers (run_of p input turns false) (code_run types c w) → (k : ℕ)
    → (passes : Passes types c w k (code_run types c w)) × Fits size heap stack (world_behind passes.moved).trace
light_moments_fit p heap stack input turns light size within types c w none covers k =
    let e = run_of p input turns false in
    let passes = covered_runs_pass types c w e none covers k in (
      passes.passes,
      earlier_fits size heap stack (world_behind passes.passes.moved).trace (world_of e).trace passes.onward.trace
          (light_runs_fit p heap stack input turns light size within),
    )

pub call_has_room : CallHasRoom
call_has_room size heap stack k trace end grew fits low pointer start few is =
    let now = earlier_fits size heap stack (entered k ∷ trace) end grew fits in omega (arith, now.stack_fits, few, is)

pub allocation_has_room : AllocationHasRoom
allocation_has_room size heap stack block elements n trace end grew fits low unused took so_far weighs =
    let now = earlier_fits size heap stack (allocated block elements n ∷ trace) end grew fits in
    record { has_room = omega (arith, now.heap_fits, so_far, weighs); within = omega (arith, so_far, weighs) }
