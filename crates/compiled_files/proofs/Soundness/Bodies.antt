-- The code of a function keeps what good steps keep; so it is not empty.
use Rattle.std.proofs.Common.{◌≡◌, ◌≢◌, ℕ, suc, List, [], ◌∷◌, ◌++◌, length, map, refl, ap, arith}
use Rattle.c_typed.specs.Programs.{FunctionData, ProgramData}
use Rattle.c_typed.specs.Trees.{Statement}
use Rattle.c_typed.specs.declared.program.Local.{Local}
use Rattle.c_meaning.specs.Program.{all_locals}
use Rattle.lower_tac.specs.Parts.{Steps}
use Rattle.lower_tac.specs.Statements.{Out, body_code, fallen, function_exits, have_blocks, last_code, parameters_of, routine_of, statement_code}
use Rattle.rv_code.specs.declared.layout.Places.{Places}
use Rattle.tac_ir.specs.Code.{Code, RoutineData}
use Rattle.tac_ir.specs.declared.step.Step.{Step}
use Rattle.tac_ir.specs.declared.step.Step.TheVariants as S
use Rattle.compiled_files.proofs.Soundness.Sitting.{StatementSits}
use Rattle.compiled_files.proofs.Soundness.Adding as Adding
use Rattle.compiled_files.proofs.Soundness.Scoping as Scoping
use Rattle.compiled_files.proofs.Soundness.Stating as Stating

pub as_many : {A B : Type 0} (f : A → B) (all : List A) → length (map f all) ≡ length all
as_many f [] = refl
as_many f (x ∷ all) = ap suc (as_many f all)

pub no_more : {A : Type 0} (all : List A) → all ++ [] ≡ all
no_more [] = refl
no_more {A} (x ∷ all) = ap (λ (more : List A). x ∷ more) (no_more all)

module _ (p : ProgramData) (c : Code) (places : Places) (size : ℕ → ℕ) (Here : ℕ → Type 0) (k : ℕ) (f : FunctionData) (body : Statement ℕ) where
  abbrev pub out : Out
  out = body_code p k f body

  abbrev pub g : RoutineData
  g = routine_of p f out

  module _ (P : Steps → Type 0) (add : (s : Step) (code : Steps) → Adding.Good p c places g size Here s → P code → P (s ∷ code)) where
    pub low : Adding.Low p c places g size Here (length (all_locals f))
    low = let e = as_many (λ (l : Local). l.block) (all_locals f) in omega (arith, e)

    -- from what the return at its end keeps
    pub body_adds : P (S.Return (fallen p k (all_locals f)) ∷ []) → StatementSits p c (length places.objects) Here (all_locals f) size body → P out.code
    body_adds last s =
        Scoping.scope_adds p c places g size Here (all_locals f) P add k (parameters_of p f) (λ x out. statement_code p k (all_locals f) body x out)
        (Stating.statement_adds p c places g size Here (all_locals f) P add k low body s) (have_blocks p k (all_locals f) (parameters_of p f))
        (function_exits p)
        (last_code p k f) (λ more e. last) [] (no_more out.texts)

  abbrev IsFilled : Steps → Type 0
  IsFilled code = code ≢ []

  filled_more : (s : Step) (code : Steps) → Adding.Good p c places g size Here s → IsFilled code → IsFilled (s ∷ code)
  filled_more s code good h = λ e. cc

  pub is_filled : StatementSits p c (length places.objects) Here (all_locals f) size body → out.code ≢ []
  is_filled s = body_adds IsFilled filled_more (λ e. cc) s
