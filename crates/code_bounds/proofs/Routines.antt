-- The routine of a function is what is lowered of it.
use Rattle.std.proofs.Common.{◌≡◌, ℕ, zero, suc, List, [], ◌∷◌, Some, sym, ap, ◌∙◌, slice_get}
use Rattle.c_typed.specs.Programs.{FunctionData, ProgramData}
use Rattle.tac_ir.specs.Code.{RoutineData}
use Rattle.lower_tac.specs.Statements.{routine_of, code_if_any, routines_from}
use Rattle.code_bounds.specs.LoweredLaws.{IsRoutineOf}

pub some_same : {A : Type 0} {a b : A} → Some a ≡ Some b → a ≡ b
some_same e = cc

pub record Is (p : ProgramData) (r : RoutineData) (f : FunctionData) : Type 0 where
  pub at : ℕ
  pub is : routine_of p f (code_if_any p at f f.body) ≡ r

routine_is : (p : ProgramData) (r : RoutineData) (f : FunctionData) (k g : ℕ) (all : List FunctionData)
    → slice_get (routines_from p k all) g ≡ Some r → slice_get all g ≡ Some f → Is p r f
routine_is p r f k g [] e h = cc
routine_is p r f k zero (one ∷ more) e h =
    record { at = k; is = ap (λ (f : FunctionData). routine_of p f (code_if_any p k f f.body)) (sym (some_same h)) ∙ some_same e }
routine_is p r f k (suc g) (one ∷ more) e h = routine_is p r f (suc k) g more e h

pub is_of : (p : ProgramData) (r : RoutineData) (f : FunctionData) → IsRoutineOf p r f → Is p r f
is_of p r f i = routine_is p r f 0 i.number p.functions i.routine i.function
