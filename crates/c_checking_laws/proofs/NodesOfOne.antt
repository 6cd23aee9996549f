-- Each node of one operand, and of none: it stands for its part of the text and is well typed (C99 6.5.1 to 6.5.4).
use Rattle.std.proofs.Common.{◌≡◌, ℕ, ◌≤◌, Bool, true, false, refl, sym, ap, ◌∙◌, inl, inr, List, arith}
use Rattle.std.specs.Prelude.{Some, Ok, nat_lt}
use Rattle.std.proofs.lemmas.Bool.Decides.{nat_tests}
use Rattle.lay_base.specs.declared.place.Place.{Place}
use Rattle.c_types.specs.declared.ty.IntKind.{IntKind}
use Rattle.c_types.specs.declared.ty.IntKind.TheVariants.{Int}
use Rattle.c_types.specs.Types.{CType, void, integer, pointer, array, function, structure}
use Rattle.c_types.specs.Objects.{is_object, parts}
use Rattle.c_typed.specs.declared.operators.UnaryOp.{UnaryOp}
use Rattle.c_typed.specs.declared.operators.StepOp.{StepOp}
use Rattle.c_typed.specs.Trees as Typed
use Rattle.c_typed.specs.Constants.{ty}
use Rattle.c_typed.specs.Conversions.{is_scalar, is_integer, is_function, promoted, as_kind, pointed}
use Rattle.c_typed.specs.Fits.{casts}
use Rattle.c_typed.specs.Rules.{points_to_object, promoting, is_stepped}
use Rattle.c_typed.specs.Typed.{bare_ty}
use Rattle.c_erasure.specs.Erasure.{typed, IsTypedThing, Values, place_in, unmade, IsNamed, IsAddress, IsPointed}
use Rattle.c_erasure.specs.Noted.{Expression, Path, Thing, an_object, a_value, a_function, a_function_at, a_library_function, value, type_of, type_of_path}
use Rattle.c_erasure.specs.Scopes.{Entity, typedef, enumerator, a_local, a_parameter, Scope, declared, ended}
use Rattle.c_erasure.specs.Scopes as Scopes
use Rattle.c_erasure.specs.Checking.Nodes.{null, promoted_value, named_in, step_in, address_in, pointed_to, deref_in, unary_in, not_in, cast_in}
use Rattle.c_erasure.specs.Checking.Finding.{complete}
use Rattle.c_checking_laws.proofs.Results.{given, only_if, chosen}
use Rattle.c_checking_laws.proofs.Agreement.{IsFit}
use Rattle.c_checking_laws.proofs.Values.{type_same, path_type_same, unconverted_same, IsValue, Stands, IsOperand, operand}

-- ---- names and constants

unmade_made : (s : Scope) (at : Place) (t : CType) → is_object (ended s.file.ends at.at) t ≡ true → IsTypedThing s (unmade at t)
unmade_made s at t h = (refl, refl, refl, h)

scalar_object : (count : ℕ) (t : CType) → is_scalar t ≡ true → is_object count t ≡ true
scalar_object count (integer kind) h = refl
scalar_object count (pointer t) h = refl
scalar_object count void h = cc
scalar_object count (array t n) h = cc
scalar_object count (function t all) h = cc
scalar_object count (structure r) h = cc

pub named_made : (s : Scope) (at : ℕ) (x : List ℕ) (e : Entity) → IsFit s.file s.locals e → (th : Thing) → named_in (place_in s at) x (Some e) ≡ Ok th
    → Stands (IsNamed (place_in s at) e) s th
unfolding named_in
named_made s at x (typedef t) f th h = cc
named_made s at x (enumerator v) f th h =
    given (Stands (IsNamed (place_in s at) (enumerator v)) s) _ th h (refl, (Int, refl, f), (refl, λ count p. cc))
named_made s at x (Scopes.an_object n t) f th h = given (Stands (IsNamed (place_in s at) (Scopes.an_object n t)) s) _ th h (refl, f, tt)
named_made s at x (Scopes.a_function n t) f th h = given (Stands (IsNamed (place_in s at) (Scopes.a_function n t)) s) _ th h (refl, f, tt)
named_made s at x (Scopes.a_library_function which) f th h =
    given (Stands (IsNamed (place_in s at) (Scopes.a_library_function which)) s) _ th h (refl, tt, tt)
named_made s at x (a_local n t) f th h = given (Stands (IsNamed (place_in s at) (a_local n t)) s) _ th h (refl, f, tt)
named_made s at x (a_parameter t) f th h =
    given (Stands (IsNamed (place_in s at) (a_parameter t)) s) _ th h (refl, unmade_made s (place_in s at) t (scalar_object (ended s.file.ends at) t f), tt)

pub constant_made : (s : Scope) (at : Place) (kind : IntKind) (n : ℕ) → as_kind kind n ≡ n
    → Stands (λ th. th ≡ a_value (value (integer kind) at (Typed.constant n))) s (a_value (value (integer kind) at (Typed.constant n)))
constant_made s at kind n h = (refl, (kind, refl, h), (refl, λ count p. cc))

-- ---- unary operators

promotes : (t : CType) → is_integer t ≡ true → promoting t ≡ Some (promoted t)
promotes (integer kind) h = refl
promotes void h = cc
promotes (pointer t) h = cc
promotes (array t n) h = cc
promotes (function t all) h = cc
promotes (structure r) h = cc

pub promoted_bare : (Is : Thing → Type 0) (s : Scope) (x : Expression) → IsOperand Is s (promoted (type_of x)) x (promoted_value x)
    → is_integer (type_of x) ≡ true
    → promoting (bare_ty (typed (promoted_value x))) ≡ Some (ty (typed (promoted_value x)))
promoted_bare Is s x o i = ap promoting o.bare_type_is ∙ promotes (type_of x) i ∙ ap Some (sym o.type_is)

pub promoted_is_integer : (t : CType) → is_integer t ≡ true → is_integer (promoted t) ≡ true
promoted_is_integer (integer kind) h = refl
promoted_is_integer void h = cc
promoted_is_integer (pointer t) h = cc
promoted_is_integer (array t n) h = cc
promoted_is_integer (function t all) h = cc
promoted_is_integer (structure r) h = cc

abbrev IsUnary : (Thing → Type 0) → Place → UnaryOp → Thing → Type 0
IsUnary Is at op th = (t : CType) × (x : Expression) × (th ≡ a_value (value t at (Typed.unary op x))) × Values Is x

pub unary_made : (Is : Thing → Type 0) (s : Scope) (at : Place) (op : UnaryOp) (x : Expression) → IsValue Is s x → (th : Thing) → unary_in at op x ≡ Ok th
    → Stands (IsUnary Is at op) s th
unfolding unary_in
unary_made Is s at op x v th h =
    let b = only_if (is_integer (type_of x)) _ _ _ th h in
    let o = operand Is s (promoted (type_of x)) x v in
    given (Stands (IsUnary Is at op) s) _ th b.1 (
      (promoted (type_of x), promoted_value x, refl, o.values),
      (o.is_typed, ap promoting o.bare_type_is ∙ promotes (type_of x) b.0, o.type_is),
      (refl, λ count p. refl),
    )

abbrev IsNot : (Thing → Type 0) → Place → Thing → Type 0
IsNot Is at th = (t : CType) × (x : Expression) × (th ≡ a_value (value t at (Typed.not x))) × Values Is x

pub not_made : (Is : Thing → Type 0) (s : Scope) (at : Place) (x : Expression) → IsValue Is s x → (th : Thing) → not_in at x ≡ Ok th → Stands (IsNot Is at) s th
unfolding not_in
not_made Is s at x v th h =
    let b = only_if (is_scalar (type_of x)) _ _ _ th h in
    given (Stands (IsNot Is at) s) _ th b.1
    ((integer Int, x, refl, v.0), (v.1, (v.2, ap is_scalar (type_same x) ∙ b.0), refl), (refl, λ count p. refl))

-- what a pointer points to
abbrev IsDeref : (Thing → Type 0) → Place → Thing → Type 0
IsDeref Is at th = (e : Expression) × IsPointed at e th × Values Is e

function_no_object : (count : ℕ) (t : CType) → is_function t ≡ true → is_object count t ≡ false
function_no_object count (function t all) h = refl
function_no_object count void h = cc
function_no_object count (integer kind) h = cc
function_no_object count (pointer t) h = cc
function_no_object count (array t n) h = cc
function_no_object count (structure r) h = cc

pub deref_made : (Is : Thing → Type 0) (s : Scope) (at : ℕ) (x : Expression) → IsValue Is s x → (th : Thing)
    → deref_in (complete s at) (place_in s at) x ≡ Ok th → Stands (IsDeref Is (place_in s at)) s th
unfolding deref_in
deref_made Is s at x v th h = by_type (type_of x) refl h
  where
    by_type : (u : CType) → type_of x ≡ u → pointed_to (complete s at) (place_in s at) x u ≡ Ok th → Stands (IsDeref Is (place_in s at)) s th
    by_type void e h = cc
    by_type (integer kind) e h = cc
    by_type (array t n) e h = cc
    by_type (function t all) e h = cc
    by_type (structure r) e h = cc
    by_type (pointer t) e h =
        chosen (is_function t) _ _ th (Stands (IsDeref Is (place_in s at)) s th) h
        (λ b h. given (Stands (IsDeref Is (place_in s at)) s) _ th h (
          (x, inr (t, e, b, unconverted_same x v.2, refl), v.0),
          (v.1, (t, e, b)),
          (v.2, λ count p. let f : is_object count t ≡ true = ap (points_to_object count) (sym e) ∙ p in let g = function_no_object count t b in cc),
        ))
        (λ b h. let o = only_if (is_object (complete s at) t) _ _ _ th h in
        given (Stands (IsDeref Is (place_in s at)) s) _ th o.1
        ((x, inl (t, b, refl), v.0), (v.1, v.2, ap pointed (type_same x ∙ e), o.0), tt))

abbrev IsAddressOf : (Thing → Type 0) → Place → Thing → Type 0
IsAddressOf Is at th = (operand : Thing) × IsAddress at operand th × Is operand

pub address_made : (Is : Thing → Type 0) (s : Scope) (from : ℕ) (at : Place) (operand : Thing) → Stands Is s operand → (th : Thing)
    → address_in from at operand ≡ Ok th
    → Stands (IsAddressOf Is at) s th
unfolding address_in
address_made Is s from at (an_object p) v th h =
    chosen (nat_lt (parts (type_of_path p)) 1024) _ _ th (Stands (IsAddressOf Is at) s th) h
    (λ b h. let few : parts (pointer (type_of_path p)) ≤ 1024 = grind (arith, nat_tests, b) in
    given (Stands (IsAddressOf Is at) s) _ th h
    ((an_object p, (pointer (type_of_path p), few, refl), v.0), (v.1, ap pointer (sym (path_type_same p))), (refl, λ count p. refl)))
    (λ b h. cc)
address_made Is s from at (a_function f_at f t) v th h =
    given (Stands (IsAddressOf Is at) s) _ th h ((a_function f_at f t, refl, v.0), (t, v.1, refl), (refl, λ count p. refl))
address_made Is s from at (a_function_at e) v th h =
    given (Stands (IsAddressOf Is at) s) _ th h ((a_function_at e, refl, v.0), v.1.0, v.2)
address_made Is s from at (a_value e) v th h = cc
address_made Is s from at (a_library_function f_at which) v th h = cc

-- ---- `++` and `--`

abbrev IsStep : (Thing → Type 0) → Place → StepOp → Bool → Thing → Type 0
IsStep Is at op before th = (t : CType) × (p : Path) × (th ≡ a_value (value t at (Typed.step op before p))) × Is (an_object p)

pub step_made : (Is : Thing → Type 0) (s : Scope) (from op_at at : ℕ) (op : StepOp) (before : Bool) (operand : Thing) → Stands Is s operand → (th : Thing)
    → step_in (complete s at) from op_at (place_in s at) op before operand ≡ Ok th → Stands (IsStep Is (place_in s at) op before) s th
unfolding step_in
step_made Is s from op_at at op before (an_object p) v th h =
    let b = only_if (is_stepped (complete s at) (type_of_path p)) _ _ _ th h in
    given (Stands (IsStep Is (place_in s at) op before) s) _ th b.1
    ((type_of_path p, p, refl, v.0), (v.1, sym (path_type_same p), b.0), (refl, λ count p. refl))
step_made Is s from op_at at op before (a_value e) v th h = cc
step_made Is s from op_at at op before (a_function f_at f t) v th h = cc
step_made Is s from op_at at op before (a_function_at e) v th h = cc
step_made Is s from op_at at op before (a_library_function f_at which) v th h = cc

-- ---- casts

abbrev IsCast : (Thing → Type 0) → Place → CType → Thing → Type 0
IsCast Is at t th = (x : Expression) × Values Is x × (th ≡ a_value (value t at (Typed.convert x true)))

pub cast_made : (Is : Thing → Type 0) (s : Scope) (at : Place) (t : CType) (x : Expression) → IsValue Is s x → (th : Thing) → cast_in at t x ≡ Ok th
    → Stands (IsCast Is at t) s th
unfolding cast_in
cast_made Is s at t x v th h =
    let b = only_if (casts (type_of x) (null x) t) _ _ _ th h in
    given (Stands (IsCast Is at t) s) _ th b.1
    ((x, v.0, refl), (v.1, v.2, rw (type_same x) b.0), (refl, λ count p. refl))
