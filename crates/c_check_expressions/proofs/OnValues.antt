-- Unary operators on values.
use Rattle.std.proofs.Common.{◌≡◌, ℕ, refl, ap}
use Rattle.std.specs.Prelude.{Ok}
use Rattle.c_ast.specs.declared.operators.UnaryOp.{UnaryOp}
use Rattle.c_ast.specs.declared.operators.UnaryOp.TheVariants as U
use Rattle.c_erasure.specs.Noted.{Expression, Thing}
use Rattle.c_erasure.specs.Scopes.{FileScope, Scope}
use Rattle.c_erasure.specs.Checking.Answers.{Answer, ◌>>=◌, with_file}
use Rattle.c_erasure.specs.Checking.Finding.{on_value, unary_on}
use Rattle.c_erasure.specs.Checking.Nodes.{worth}

abbrev applied : UnaryOp → (count at : ℕ) → Scope → FileScope → Answer Expression → Answer (Thing × FileScope)
applied op count at s f r = with_file f r >>= λ x. with_file x.1 (on_value op count at s x.0)

pub on_its_value : (op : UnaryOp) (count from at : ℕ) (s : Scope) (th : Thing) (f : FileScope) (x : Expression) → (op ≡ U.Address → ⊥)
    → worth from th ≡ Ok x → unary_on op count from at s (Ok (th, f)) ≡ with_file f (on_value op count at s x)
on_its_value U.Address count from at s th f x n h = absurd (n refl)
on_its_value U.Deref count from at s th f x n h = ap (applied U.Deref count at s f) h
on_its_value U.Plus count from at s th f x n h = ap (applied U.Plus count at s f) h
on_its_value U.Minus count from at s th f x n h = ap (applied U.Minus count at s f) h
on_its_value U.Complement count from at s th f x n h = ap (applied U.Complement count at s f) h
on_its_value U.Not count from at s th f x n h = ap (applied U.Not count at s f) h
