-- The code of a program of files is steady.
use Rattle.std.proofs.Common.{◌≡◌, refl, ap, ℕ, suc, ◌+◌, ◌≤◌, true, List, [], ◌∷◌, Some, arith, slice_get}
use Rattle.std.proofs.lemmas.List.Elements.{recursion_from_All}
use Rattle.std.specs.List.{AllByRecursion as Each}
use Rattle.std.specs.Prelude.{slice_index}
use Rattle.c_well_typed.specs.Printable.Laws.{ProgramIsPrintable}
use Rattle.c_typed.specs.Programs.{ProgramData}
use Rattle.c_well_typed.specs.Laws.{ProgramIsWellTyped}
use Rattle.c_well_typed.specs.Within.{InitialsLieWithin}
use Rattle.code_bounds.specs.LoweredLaws.{AllJumpsLeadOn, JumpsStand, KindsStand, TypedHaveScopes}
use Rattle.lower_tac.specs.Statements.{lowered}
use Rattle.rv_code.specs.Frames.{block_sizes}
use Rattle.rv_code.specs.Programs.{places_of}
use Rattle.rv_emit.specs.Fitting.{NumbersFit, StepFits}
use Rattle.rv_emit.specs.Relation.{ParameterFits}
use Rattle.rv_image.specs.Data.{object_places}
use Rattle.tac_ir.specs.Code.{RoutineData}
use Rattle.tac_ir.specs.Sizes.{AllFitBlocks, BeginParameters, FitsBlocks}
use Rattle.tac_ir.specs.Steady.{AllSteady, IsSteady}
use Rattle.tac_ir.specs.Turns.{JumpsLeadOn}
use Rattle.tac_ir.specs.declared.step.Parameter.{Parameter}
use Rattle.tac_ir.specs.declared.step.Step.{Step}
use Rattle.tac_ir.specs.declared.step.Step.TheVariants as S
use Rattle.compiled_files.specs.Laws.{ProgramIsSteady}
use Rattle.compiled_files.specs.Sound.{IsSound}
use Rattle.c_well_typed.proofs.Sizing.{at_all}
use Rattle.compiled_files.proofs.Soundness.Sound.{sound}

-- ---- one function

module _ (g : RoutineData) where
  abbrev size : ℕ → ℕ
  size x = slice_index (block_sizes g) x

  step_fits : (s : Step) → NumbersFit g s → FitsBlocks size g.texts s
  step_fits (S.Begin x n) h = omega (arith, h)
  step_fits (S.Forget x n) h = h
  step_fits (S.Zeros x n) h = h
  step_fits (S.Text x by n) h = h
  step_fits (S.Set t a) h = tt
  step_fits (S.Clear t) h = tt
  step_fits (S.Unary t at op a) h = tt
  step_fits (S.Not t a) h = tt
  step_fits (S.Convert t at kind a) h = tt
  step_fits (S.AsPointer t at a) h = tt
  step_fits (S.Number t at a) h = tt
  step_fits (S.Binary t at op kind right a b) h = tt
  step_fits (S.Compare t at op kind a b) h = tt
  step_fits (S.Move t at op n left kind a b) h = tt
  step_fits (S.Distance t at n a b) h = tt
  step_fits (S.Update t at op n sort right a b) h = tt
  step_fits (S.Field t at by a) h = tt
  step_fits (S.ElementField t at n kind by a b) h = tt
  step_fits (S.Element t at m n addressed kind a b) h = tt
  step_fits (S.Part t at by a) h = tt
  step_fits (S.Inside t at x by) h = tt
  step_fits (S.Load t at access a) h = tt
  step_fits (S.Store at access a b) h = tt
  step_fits (S.CopyRecord at n a b) h = tt
  step_fits (S.Jump to) h = tt
  step_fits (S.Branch when a to) h = tt
  step_fits (S.Test at op kind when a b to) h = tt
  step_fits (S.Case n a to) h = tt
  step_fits (S.Call t at f all) h = tt
  step_fits (S.CallThrough t at ty a all) h = tt
  step_fits (S.Library t at which all) h = tt
  step_fits (S.Allocate t at r n zeroed a) h = tt
  step_fits (S.End x) h = tt
  step_fits (S.Began f l) h = tt
  step_fits (S.Return a) h = tt
  step_fits (S.ReturnHeld t) h = tt
  step_fits (S.Fail kind at) h = tt

  module _ (Fits : Step → Type 0) (numbers : (s : Step) → Fits s → NumbersFit g s) where
    steps_fit : (code : List Step) → Each Fits code → AllFitBlocks size g.texts code
    steps_fit [] h = tt
    steps_fit (s ∷ more) h = (step_fits s (numbers s h.0), steps_fit more h.1)

  parameters_begin : (x : ℕ) (all : List Parameter) → ((k : ℕ) (r : Parameter) → slice_get all k ≡ Some r → r.block ≡ true → size (x + k) ≤ r.size)
      → BeginParameters size x all
  parameters_begin x [] h = tt
  parameters_begin x (r ∷ more) h = (
    λ b. let z = h 0 r refl b in let e : size (x + 0) ≡ size x = ap size (let n : x + 0 ≡ x = omega arith in n) in omega (arith, z, e),
    parameters_begin (x + 1) more (λ k q e b.
        let z = h (suc k) q e b in let e : size (x + suc k) ≡ size (x + 1 + k) = ap size (let n : x + suc k ≡ x + 1 + k = omega arith in n) in omega (arith, z, e)),
  )

  parameter_begins : (x : ℕ) (r : Parameter) → ParameterFits g x r → r.block ≡ true → size (0 + x) ≤ r.size
  parameter_begins x r h b =
      let z = (h.size b).0 in let e : size (0 + x) ≡ size x = ap size (let n : 0 + x ≡ x = omega arith in n) in omega (arith, z, e)

-- ---- all functions

all_steady : (all : List RoutineData) → ((i : ℕ) (g : RoutineData) → slice_get all i ≡ Some g → IsSteady g) → AllSteady all
all_steady [] h = tt
all_steady (g ∷ more) h = (h 0 g refl, all_steady more (λ i r e. h (suc i) r e))

module _ (p : ProgramData) (is_sound : IsSound p (lowered p)) (leads : AllJumpsLeadOn) where
  is_steady : (i : ℕ) (g : RoutineData) → slice_get (lowered p).routines i ≡ Some g → IsSteady g
  is_steady i g e =
      let fits = is_sound.routines i g e in
      let Fits = StepFits p.types (lowered p) (places_of (lowered p) (object_places p)) g in
      record {
        leads = at_all JumpsLeadOn (lowered p).routines i g (leads p) e;
        blocks = record {
          size = size g;
          steps = steps_fit g Fits (λ s h. h.numbers) g.code (recursion_from_All Fits g.code fits.code);
          parameters = parameters_begin g 0 g.parameters (λ x r e b. parameter_begins g x r (fits.parameters x r e) b);
        };
      }

-- the theorem
pub program_is_steady : (p : ProgramData) → ProgramIsWellTyped p → ProgramIsPrintable p → InitialsLieWithin → JumpsStand → KindsStand → TypedHaveScopes
    → AllJumpsLeadOn → ProgramIsSteady p
program_is_steady p typed printable within jumps kinds scopes leads files is small =
    all_steady (lowered p).routines (is_steady p (sound files p is typed printable small jumps kinds scopes within) leads)
