-- The texts of the places of violations, one for each record.
use Rattle.std.proofs.Common.{◌≡◌, ℕ, List, [], ◌∷◌, ◌++◌, Some, refl, sym, subst, append_assoc}
use Rattle.std.specs.Prelude.{Result, Ok, Err, IfOk}
use Rattle.std.specs.Global.{Vec}
use Rattle.lay_base.specs.declared.place.File.{File}
use Rattle.c_typed.specs.Programs.{ProgramData}
use Rattle.layout_plan.specs.declared.plans.Planned.{Planned}
use Rattle.layout_plan.specs.declared.plans.RecordPlan.{RecordPlan}
use Rattle.lay_report.specs.Reports.{IsReport}
use Rattle.lay_commands.specs.Compiling.{AreTextsFor, IsTextFor, Reports}

-- one more in front
pub texts_more : (files : List File) (plans : List RecordPlan) (left rest : List RecordPlan) (r : RecordPlan) (done : List (List ℕ)) (text : List ℕ)
    → left ≡ r ∷ rest → IsTextFor files r.decision text
    → ((more : List (List ℕ)) → AreTextsFor files left more → AreTextsFor files plans (done ++ more))
    → (more : List (List ℕ)) → AreTextsFor files rest more → AreTextsFor files plans ((done ++ text ∷ []) ++ more)
texts_more files plans left rest r done text is told before more all =
    let here : AreTextsFor files left (text ∷ more) = subst (λ l. AreTextsFor files l (text ∷ more)) (sym is) (text, more, refl, told, all) in
    subst (AreTextsFor files plans) (sym (append_assoc done (text ∷ []) more)) (before (text ∷ more) here)

pub reports : {E : Type 0} (planned : Planned) (files : List File) (p : ProgramData) (places : List (List ℕ)) (r : Result (Vec ℕ) E)
    → AreTextsFor files planned.plan.records places → IfOk r (λ text. IsReport p.records (Some planned) places text.items)
    → IfOk r (λ text. Reports (Some planned) files p text.items)
reports planned files p places (Ok text) told is = (places, told, is)
reports planned files p places (Err fault) told is = tt
