-- What an answer says of the steps before it.
use Rattle.std.proofs.Common.{◌≡◌, Bool, true, false, refl, subst, cond}
use Rattle.std.specs.Prelude.{ℕ, Option, Some, None, Ok, Err}
use Rattle.lay_base.specs.declared.faults.Rule.{Rule}
use Rattle.c_erasure.specs.Scopes.{FileScope}
use Rattle.c_erasure.specs.Checking.Answers.{Answer, ◌>>=◌, refused, with_file}
use Rattle.c_erasure.specs.Checking.Nodes.{or_else}

pub bound_ok : {A B : Type 0} (r : Answer A) (f : A → Answer B) (y : B) → (r >>= f) ≡ Ok y → (x : A) × (r ≡ Ok x) × (f x ≡ Ok y)
bound_ok (Ok x) f y h = (x, refl, h)
bound_ok (Err e) f y h = cc

abbrev pub ok : {A : Type 0} → A → Answer A
ok x = Ok x

pub given : {A : Type 0} (P : A → Type 0) (y z : A) → ok y ≡ Ok z → P y → P z
given P y z h p = let e : y ≡ z = cc in subst P e p

-- an answer beside the file
pub with_file_ok : {A : Type 0} (f : FileScope) (r : Answer A) (z : A × FileScope) → with_file f r ≡ Ok z → (r ≡ Ok z.0) × (f ≡ z.1)
with_file_ok f (Ok x) z h = given (λ z. (ok x ≡ Ok z.0) × (f ≡ z.1)) (x, f) z h (refl, refl)
with_file_ok f (Err e) z h = cc

pub chosen : {A : Type 0} (b : Bool) (x z : Answer A) (y : A) (P : Type 0) → cond b x z ≡ Ok y → (b ≡ true → x ≡ Ok y → P) → (b ≡ false → z ≡ Ok y → P) → P
chosen true x z y P h p q = p refl h
chosen false x z y P h p q = q refl h

-- what is refused otherwise
pub only_if : {A : Type 0} (b : Bool) (x : Answer A) (rule : Rule) (at : ℕ) (y : A) → cond b x (refused rule at) ≡ Ok y → (b ≡ true) × (x ≡ Ok y)
only_if true x rule at y h = (refl, h)
only_if false x rule at y h = cc

-- what an option gives, or something else
pub by_option : {A B : Type 0} (o : Option A) (f : A → Answer B) (r : Answer B) (y : B) (P : Type 0) → or_else o f r ≡ Ok y
    → ((x : A) → o ≡ Some x → f x ≡ Ok y → P) → (o ≡ None → r ≡ Ok y → P) → P
by_option (Some x) f r y P h p q = p x refl h
by_option None f r y P h p q = q refl h

-- what follows an answer beside the file
pub bound_with : {A B : Type 0} (f : FileScope) (r : Answer A) (k : A × FileScope → Answer B) (z : B) → (with_file f r >>= k) ≡ Ok z
    → (y : A) × (r ≡ Ok y) × (k (y, f) ≡ Ok z)
bound_with f (Ok y) k z h = (y, refl, h)
bound_with f (Err e) k z h = cc
