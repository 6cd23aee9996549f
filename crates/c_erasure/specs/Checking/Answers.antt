-- What the checker answers: what it finds, or the fault at which it stops.
use Rattle.std.specs.Prelude.{ℕ, Result, Ok, Err}
use Rattle.lay_base.specs.declared.faults.Rule.{Rule}
use Rattle.c_erasure.specs.Broken.{Fault, ill_typed}
use Rattle.c_erasure.specs.Scopes.{FileScope, Scope}

abbrev pub Answer : Type 0 → Type 0
Answer A = Result A Fault

infixl 10 ◌>>=◌
abbrev pub ◌>>=◌ : {A B : Type 0} → Answer A → (A → Answer B) → Answer B
(Ok x) >>= f = f x
(Err e) >>= f = Err e

abbrev pub refused : {A : Type 0} → Rule → ℕ → Answer A
refused rule at = Err (ill_typed rule at)

-- what is found, and the file with all that is declared up to there
abbrev pub Checked : Type 0 → Type 0
Checked A = Answer (A × FileScope)

abbrev pub with_file : {A : Type 0} → FileScope → Answer A → Checked A
with_file f (Ok x) = Ok (x, f)
with_file f (Err e) = Err e

-- the scope in a file in which more is declared
abbrev pub moved : Scope → FileScope → Scope
moved s f = record s { file = f }
