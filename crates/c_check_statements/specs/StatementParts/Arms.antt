-- The arms of a `switch` as its items are read: those that are closed, and the last one, to which more may be added.
use Rattle.std.specs.Prelude.{ℕ, zero, ◌==◌, Bool, true, false, List, [], ◌∷◌, ◌++◌, Ok}
use Rattle.c_typed.specs.Trees as Typed
use Rattle.c_erasure.specs.BrokenStatements.{Labels}
use Rattle.c_erasure.specs.Statements.{Arms, Statements, followed_by, with_first}
use Rattle.c_annotated.specs.Views.{OneArm}
use Rattle.c_erasure.specs.Checking.Answers.{◌>>=◌}
use Rattle.c_erasure.specs.Checking.Statements.{Found, Performed}
use Rattle.c_check_parts.specs.BlockLocals.Performing.{body_of}
use Rattle.c_check_statements.specs.declared.statement_parts.arms.LastArm.{LastArm}

-- the last arm: whether it has labels, and what stands in it up to there
abbrev pub last_arm_of : LastArm → Bool × OneArm
last_arm_of it = (it.has_labels, (it.cases, it.is_default, body_of it.statements))

abbrev pub joined : List OneArm → Arms → Arms
joined [] later = later
joined (arm ∷ more) later = Typed.and_arm arm.0 arm.1 arm.2 (joined more later)

-- the last arm with the statements up to the next label, and the arms after it
abbrev pub closed_arm : Bool × OneArm → Statements → Arms → Arms
closed_arm (true, arm) rest later = Typed.and_arm arm.0 arm.1 (followed_by arm.2 rest) later
closed_arm (false, arm) rest later = with_first (followed_by arm.2 rest) later

abbrev pub arms_after : List OneArm → Bool × OneArm → Performed (Statements × Arms) → Performed Arms
arms_after done last r = r >>= λ x. Ok (joined done (closed_arm last x.0.0 x.0.1), x.1)

-- an arm without labels and without statements is none
abbrev pub unless_empty : OneArm → Statements → List OneArm
unless_empty arm Typed.no_statements = []
unless_empty arm all = arm ∷ []

abbrev pub with_closed : List OneArm → Bool × OneArm → List OneArm
with_closed done (true, arm) = done ++ arm ∷ []
with_closed done (false, arm) = done ++ unless_empty ([], false, arm.2) arm.2

-- the arms up to there and the last one, after an item: what has labels begins an arm
abbrev pub arms_with : List OneArm → Bool × OneArm → Statements → List ℕ → ℕ → List OneArm × (Bool × OneArm)
arms_with done last own [] zero = (done, (last.0, (last.1.0, last.1.1, followed_by last.1.2 own)))
arms_with done last own cases defaults = (with_closed done last, (true, (cases, defaults == 1, own)))

abbrev pub item_added : List OneArm → Bool × OneArm → Performed (Statements × Found) → Performed ((List OneArm × (Bool × OneArm)) × Labels)
item_added done last r = r >>= λ x. Ok ((arms_with done last x.0.0 x.0.1.cases x.0.1.defaults, x.0.1.all), x.1)

-- the last arm after more statements
abbrev pub went_on : Bool × OneArm → Performed Statements → Performed (Bool × OneArm)
went_on last r = r >>= λ own. Ok ((last.0, (last.1.0, last.1.1, followed_by last.1.2 own.0)), own.1)
