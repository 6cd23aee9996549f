-- What is written of a function.
use Rattle.std.specs.Prelude.{◌≡◌, ◌++◌, ◌∷◌, ◌-◌, ℕ, None, List}
use Rattle.c_typed.specs.Programs.{ProgramData}
use Rattle.c_typed.specs.Trees
use Rattle.c_typed.specs.Typed.{at_of}
use Rattle.c_typed.specs.Views.{AnExpression, AStatement}
use Rattle.c_typed.specs.declared.program.Local.{Local}
use Rattle.tac_ir.specs.declared.step.Step.TheVariants as Step
use Rattle.tac_ir.specs.declared.step.Target.{Target}
use Rattle.lower_tac.specs.declared.draft.Draft.{Draft}
use Rattle.lower_tac.specs.declared.ground.Ground.{Ground}
use Rattle.lower_tac.specs.declared.ways.Exits.{Exits}
use Rattle.lower_tac.specs.Grounds.{locals_in, program_in}
use Rattle.lower_tac.specs.Parts.{Steps, temp}
use Rattle.lower_tac.specs.Statements.{ArmsOut, Out, before, begins_code, default_start, dispatch_code, here, in_loop, marked, number_code, room, statement_code}
use Rattle.lower_tac.specs.Writing.{code_in}

abbrev pub out_in : Draft → Out
out_in d = record { code = code_in d.code; labels = d.labels.items; texts = d.texts; loops = d.loops }

-- where no want of memory is kept there was none before, and what is made is made of what was there
abbrev pub Drafted : (old new : Draft) → (Out → Out) → Type 0
Drafted old new made = new.code.want ≡ None → (old.code.want ≡ None) × (out_in new ≡ made (out_in old))

abbrev pub DraftedTo : {A : Type 0} → (old new : Draft) → A → (Out → A) → (Out → Out) → Type 0
DraftedTo old new answer known made = new.code.want ≡ None → (old.code.want ≡ None) × (answer ≡ known (out_in old)) × (out_in new ≡ made (out_in old))

-- the body of a loop, which begins at a label
abbrev pub begun : (function label : ℕ) → Out → Out
begun function label out = marked label (before (Step.Began function (out.loops - 1)) (record out { loops = out.loops - 1 }))

abbrev pub body_in : Ground → AStatement → (end next : Target) → (label : ℕ) → Exits → Out → Out
body_in g body end next label x out =
    begun g.number label (statement_code (program_in g) g.number (locals_in g) body (in_loop end next x) out)

-- arms, and where they begin, before those that are there
abbrev pub ArmsDrafted : (old new : Draft) → (was starts : List Target) → (Out → ArmsOut) → Type 0
ArmsDrafted old new was starts made =
    new.code.want ≡ None → (old.code.want ≡ None) × (starts ≡ (made (out_in old)).starts ++ was) × (out_in new ≡ (made (out_in old)).out)

-- one more arm begins, before those that are there
abbrev pub ArmStarted : (old new : Draft) → (was starts : List Target) → Type 0
ArmStarted old new was starts =
    (new.loops ≡ old.loops) × (new.code.want ≡ None → (old.code.want ≡ None) × (starts ≡ here (out_in old) ∷ was) × (out_in new ≡ out_in old))

-- what stands before the arms of a `switch`
abbrev pub before_arms : ProgramData → (g : ℕ) → List Local → AnExpression → List ℕ → Trees.Arms ℕ → List Target → (behind : Target) → Steps → Steps
before_arms p g locals e own arms starts behind code =
    number_code p g locals e (begins_code p g locals own
    (dispatch_code (temp (at_of e) (room p g locals)) arms starts (Step.Jump (default_start behind arms starts) ∷ code)))
