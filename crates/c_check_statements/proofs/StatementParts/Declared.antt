-- The locals that statements declare, one after another.
use Rattle.std.proofs.Common.{◌≡◌, ℕ, ◌∷◌, refl}
use Rattle.std.specs.Prelude.{Some, None}
use Rattle.c_typed.specs.Trees as Typed
use Rattle.c_typed.specs.TypedStatements.{declared_by}
use Rattle.c_erasure.specs.Statements.{Statements}
use Rattle.c_annotated.specs.Views.{AStatement}
use Rattle.c_check_statements.specs.StatementParts.Parts.{number_declared}

pub declared_number : (st : AStatement) (more : Statements) (n : ℕ) → number_declared st ≡ Some n → declared_by (Typed.and_statement st more) ≡ n ∷ declared_by more
declared_number (Typed.declare m initial) more n h = cc
declared_number st more n h = cc

pub declared_nothing : (st : AStatement) (more : Statements) → number_declared st ≡ None → declared_by (Typed.and_statement st more) ≡ declared_by more
declared_nothing (Typed.declare m initial) more h = cc
declared_nothing st more h = refl
