-- What the tests of statements tell where they stop: jumps, results, and what a `switch` tests (C99 6.8.4.2, 6.8.6).
use Rattle.std.proofs.Common.{◌≡◌, ◌≢◌, ℕ, Bool, true, false, refl, ap, subst}
use Rattle.std.specs.Prelude.{Some, Ok, Err}
use Rattle.lay_base.specs.declared.faults.Rule.TheVariants as R
use Rattle.c_types.specs.declared.ty.IntKind.{IntKind}
use Rattle.c_types.specs.Types.{CType, void, integer, pointer, array, function, structure}
use Rattle.c_typed.specs.Conversions.{is_integer, promoted, promoted_kind}
use Rattle.c_typed.specs.Fits.{assigns, is_void}
use Rattle.c_typed.specs.Rules.{promoting}
use Rattle.c_erasure.specs.Broken.{Fault, ill_typed}
use Rattle.c_erasure.specs.Noted.{Expression, type_of}
use Rattle.c_erasure.specs.Specifiers.{Storage, no_storage, a_typedef, is_extern, is_static, is_auto, is_register, several}
use Rattle.c_erasure.specs.Statements.{Statement}
use Rattle.c_erasure.specs.Checking.Answers.{Answer}
use Rattle.c_erasure.specs.Checking.Nodes.{null, converted}
use Rattle.c_erasure.specs.Checking.Statements.{unless_static, switch_value, switched_in, jump, returned_in, returned_nothing, unless_void}
use Rattle.c_checking_laws.proofs.Results.{given}
use Rattle.c_checking_laws.proofs.FaultResults.{same_fault, chosen_err, unless_err}

pub jump_fault : (at : ℕ) (may : Bool) (st : Statement) (fault : Fault) → jump at may st ≡ Err fault → (fault ≡ ill_typed R.Jump at) × (may ≡ false)
jump_fault at may st fault h = let b = unless_err may st R.Jump at fault h in (b.1, b.0)

void_is : (t : CType) → is_void t ≡ true → t ≡ void
void_is void h = refl
void_is (integer kind) h = cc
void_is (pointer t) h = cc
void_is (array t n) h = cc
void_is (function t all) h = cc
void_is (structure r) h = cc

not_void : (t : CType) → is_void t ≡ false → t ≢ void
not_void void h = cc
not_void (integer kind) h = λ e. cc
not_void (pointer t) h = λ e. cc
not_void (array t n) h = λ e. cc
not_void (function t all) h = λ e. cc
not_void (structure r) h = λ e. cc

pub nothing_fault : (at : ℕ) (t : CType) (fault : Fault) → returned_nothing at t ≡ Err fault → (fault ≡ ill_typed R.Return at) × (t ≢ void)
nothing_fault at t fault h = let b = unless_err (is_void t) _ R.Return at fault h in (b.1, not_void t b.0)

pub void_fault : {A : Type 0} (at : ℕ) (t : CType) (r : Answer A) (fault : Fault) (P : Type 0) → unless_void at t r ≡ Err fault
    → ((fault ≡ ill_typed R.Return at) × (t ≡ void) → P) → (t ≢ void → r ≡ Err fault → P) → P
void_fault {A} at t r fault P h p q =
    chosen_err (is_void t) _ _ fault P h (λ b h. p (same_fault A (ill_typed R.Return at) fault h, void_is t b)) (λ b h. q (not_void t b) h)

pub returned_fault : (at : ℕ) (t : CType) (x : Expression) (fault : Fault) → returned_in at t x ≡ Err fault
    → (fault ≡ ill_typed R.Return at) × (assigns (type_of x) (null x) t ≡ false)
unfolding returned_in
returned_fault at t x fault h = let b = unless_err (assigns (type_of x) (null x) t) _ R.Return at fault h in (b.1, b.0)

pub static_fault : {A : Type 0} (at : ℕ) (words : Storage) (r : Answer A) (fault : Fault) (P : Type 0) → unless_static at words r ≡ Err fault
    → ((fault ≡ ill_typed R.Specifiers at) × (words ≡ is_static) → P) → (r ≡ Err fault → P) → P
static_fault {A} at is_static r fault P h p q = p (same_fault A (ill_typed R.Specifiers at) fault h, refl)
static_fault at no_storage r fault P h p q = q h
static_fault at a_typedef r fault P h p q = q h
static_fault at is_extern r fault P h p q = q h
static_fault at is_auto r fault P h p q = q h
static_fault at is_register r fault P h p q = q h
static_fault at several r fault P h p q = q h

-- ---- what a `switch` tests

no_integer : (t : CType) → ((kind : IntKind) → promoted t ≡ integer kind → ⊥) → is_integer t ≡ false
no_integer (integer kind) h = absurd (h (promoted_kind kind) refl)
no_integer void h = refl
no_integer (pointer t) h = refl
no_integer (array t n) h = refl
no_integer (function t all) h = refl
no_integer (structure r) h = refl

other_type : (t u : CType) → promoted t ≡ u → ((kind : IntKind) → u ≡ integer kind → ⊥) → is_integer t ≡ false
other_type t u e h = no_integer t (λ kind p. h kind (subst (λ v. v ≡ integer kind) e p))

pub switched_fault : (at : ℕ) (x : Expression) (fault : Fault) → switched_in at x ≡ Err fault
    → (fault ≡ ill_typed R.Condition at) × (is_integer (type_of x) ≡ false)
unfolding switched_in
switched_fault at x fault h = by_type (promoted (type_of x)) refl h
  where
    by_type : (t : CType) → promoted (type_of x) ≡ t → switch_value at x t ≡ Err fault
        → (fault ≡ ill_typed R.Condition at) × (is_integer (type_of x) ≡ false)
    by_type (integer kind) e h = cc
    by_type void e h = (same_fault (Expression × IntKind) (ill_typed R.Condition at) fault h, other_type (type_of x) void e (λ kind p. cc))
    by_type (pointer t) e h = (same_fault (Expression × IntKind) (ill_typed R.Condition at) fault h, other_type (type_of x) (pointer t) e (λ kind p. cc))
    by_type (array t n) e h = (same_fault (Expression × IntKind) (ill_typed R.Condition at) fault h, other_type (type_of x) (array t n) e (λ kind p. cc))
    by_type (function t all) e h =
        (same_fault (Expression × IntKind) (ill_typed R.Condition at) fault h, other_type (type_of x) (function t all) e (λ kind p. cc))
    by_type (structure r) e h = (same_fault (Expression × IntKind) (ill_typed R.Condition at) fault h, other_type (type_of x) (structure r) e (λ kind p. cc))

promotes : (t : CType) (kind : IntKind) → promoted t ≡ integer kind → promoting t ≡ Some (integer kind)
promotes (integer k) kind h = ap Some h
promotes void kind h = cc
promotes (pointer t) kind h = cc
promotes (array t n) kind h = cc
promotes (function t all) kind h = cc
promotes (structure r) kind h = cc

pub switched_promotes : (at : ℕ) (x : Expression) (y : Expression × IntKind) → switched_in at x ≡ Ok y → promoting (type_of x) ≡ Some (integer y.1)
unfolding switched_in
switched_promotes at x y h = by_type (promoted (type_of x)) refl h
  where
    by_type : (t : CType) → promoted (type_of x) ≡ t → switch_value at x t ≡ Ok y → promoting (type_of x) ≡ Some (integer y.1)
    by_type (integer kind) e h =
        given (λ (y : Expression × IntKind). promoting (type_of x) ≡ Some (integer y.1)) (converted (integer kind) x, kind) y h (promotes (type_of x) kind e)
    by_type void e h = cc
    by_type (pointer t) e h = cc
    by_type (array t n) e h = cc
    by_type (function t all) e h = cc
    by_type (structure r) e h = cc
