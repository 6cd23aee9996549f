-- The file beside what a node answers, by that of its operand.
use Rattle.std.proofs.Common.{◌≡◌, ℕ}
use Rattle.std.specs.Prelude.{Option, Some, None, Ok}
use Rattle.lay_base.specs.declared.place.Place.{Place}
use Rattle.c_ast.specs.declared.operators.UnaryOp.{UnaryOp}
use Rattle.c_ast.specs.declared.operators.UnaryOp.TheVariants as U
use Rattle.c_typed.specs.declared.operators.BinaryOp.{BinaryOp}
use Rattle.c_erasure.specs.Noted.{Thing}
use Rattle.c_erasure.specs.Scopes.{FileScope, Scope}
use Rattle.c_erasure.specs.Checking.Answers.{◌>>=◌, Checked, with_file}
use Rattle.c_erasure.specs.Checking.Nodes.{Target, scalar_at, record_at}
use Rattle.c_erasure.specs.Checking.Finding.{value_at, on_value, unary_on, assigned}
use Rattle.c_checking_laws.proofs.Results.{bound_ok}
use Rattle.c_checking_laws.proofs.Adding.{file_beside, file_of_value}

pub file_of_operator : (P : FileScope → Type 0) (s : Scope) (op : UnaryOp) (count from at : ℕ) (r : Checked Thing) → ((x : Thing × FileScope) → r ≡ Ok x → P x.1)
    → (z : Thing × FileScope) → (value_at from r >>= λ x. with_file x.1 (on_value op count at s x.0)) ≡ Ok z → P z.1
file_of_operator P s op count from at r p z h =
    let x = bound_ok (value_at from r) _ z h in
    file_beside P x.0.1 _ z x.2 (file_of_value P from r x.0 x.1 p)

pub file_of_unary : (P : FileScope → Type 0) (s : Scope) (op : UnaryOp) (count from at : ℕ) (r : Checked Thing) → ((x : Thing × FileScope) → r ≡ Ok x → P x.1)
    → (z : Thing × FileScope) → unary_on op count from at s r ≡ Ok z → P z.1
file_of_unary P s U.Address count from at r p z h = let x = bound_ok r _ z h in file_beside P x.0.1 _ z x.2 (p x.0 x.1)
file_of_unary P s U.Deref count from at r p z h = file_of_operator P s U.Deref count from at r p z h
file_of_unary P s U.Plus count from at r p z h = file_of_operator P s U.Plus count from at r p z h
file_of_unary P s U.Minus count from at r p z h = file_of_operator P s U.Minus count from at r p z h
file_of_unary P s U.Complement count from at r p z h = file_of_operator P s U.Complement count from at r p z h
file_of_unary P s U.Not count from at r p z h = file_of_operator P s U.Not count from at r p z h

pub file_of_assigned : (P : FileScope → Type 0) (count op_at from : ℕ) (at : Place) (t : Target) (f : FileScope) (right : FileScope → Checked Thing)
    → ((x : Thing × FileScope) → right f ≡ Ok x → P x.1) → (o : Option BinaryOp) (z : Thing × FileScope)
    → assigned count op_at from at t f right o ≡ Ok z → P z.1
file_of_assigned P count op_at from at t f right p (Some op) z h =
    let x = bound_ok (value_at from (right f)) _ z h in
    file_beside P x.0.1 _ z x.2 (file_of_value P from (right f) x.0 x.1 p)
file_of_assigned P count op_at from at (scalar_at to) f right p None z h =
    let x = bound_ok (value_at from (right f)) _ z h in
    file_beside P x.0.1 _ z x.2 (file_of_value P from (right f) x.0 x.1 p)
file_of_assigned P count op_at from at (record_at to) f right p None z h =
    let x = bound_ok (right f) _ z h in
    file_beside P x.0.1 _ z x.2 (p x.0 x.1)
