-- Found things that stand for a part of the text, their values, and these values converted.
use Rattle.std.proofs.Common.{◌≡◌, ◌≢◌, ℕ, Bool, true, false, refl, sym, ap, ◌∙◌, subst, cond}
use Rattle.std.specs.Prelude.{Option, Some, None, Ok}
use Rattle.c_types.specs.Types.{CType, void, integer, pointer, array, function, structure}
use Rattle.c_types.specs.Sameness.{same_type}
use Rattle.c_types.proofs.SameTypes.{same_is, same_self}
use Rattle.c_typed.specs.Trees as Typed
use Rattle.c_typed.specs.Mapped.{of_types, mapped_path}
use Rattle.c_typed.specs.Constants.{ty, is_null}
use Rattle.c_typed.specs.Rules.{points_to_object}
use Rattle.c_typed.specs.Typed.{at_of, path_ty, path_at, bare, is_bare, bare_ty, is_decay, IsTyped, IsTypedPath}
use Rattle.c_erasure.specs.Erasure.{typed, IsTypedThing, Values}
use Rattle.c_erasure.specs.Noted.{Expression, Path, Thing, an_object, a_value, a_function, a_function_at, a_library_function, value, type_of, type_of_path}
use Rattle.c_erasure.specs.Noted.{place_of_path, object_value, value_of, unconverted}
use Rattle.c_erasure.specs.Scopes.{Scope, declared}
use Rattle.c_erasure.specs.Checking.Nodes.{place_of, null, converted, valued, worth, array_of, array_of_type}
use Rattle.c_checking_laws.proofs.Results.{given}

abbrev pub typed_path : Path → Typed.Path CType
typed_path p = mapped_path (of_types (λ t. t.ty)) p

-- ---- types and places are those of the tree with its notes

pub type_same : (x : Expression) → ty (typed x) ≡ type_of x
type_same (Typed.expression t at node) = refl

pub path_type_same : (p : Path) → path_ty (typed_path p) ≡ type_of_path p
path_type_same (Typed.path t at step) = refl

pub place_same : (x : Expression) → at_of (typed x) ≡ place_of x
place_same (Typed.expression t at node) = refl

pub path_place_same : (p : Path) → path_at (typed_path p) ≡ place_of_path p
path_place_same (Typed.path t at step) = refl

pub bare_same : (x : Expression) → is_bare (typed x) ≡ true → bare (typed x) ≡ typed x
bare_same (Typed.expression t at (Typed.convert e false)) h = cc
bare_same (Typed.expression t at (Typed.convert e true)) h = refl
bare_same (Typed.expression t at node) h = refl

pub unconverted_same : (x : Expression) → is_bare (typed x) ≡ true → unconverted x ≡ x
unconverted_same (Typed.expression t at (Typed.convert e false)) h = cc
unconverted_same (Typed.expression t at (Typed.convert e true)) h = refl
unconverted_same (Typed.expression t at node) h = refl

-- ---- values; `Is` says of which part of the text

abbrev pub IsValue : (Thing → Type 0) → Scope → Expression → Type 0
IsValue Is s x = Values Is x × IsTyped (declared s) (typed x) × (is_bare (typed x) ≡ true)

-- a pointer to an object is no array
abbrev pub IsNoArray : Expression → Type 0
IsNoArray x = (count : ℕ) → points_to_object count (type_of x) ≡ true → is_decay (typed x) ≡ false

-- only the value of an object is the first element of an array
abbrev pub IsNeat : Thing → Type 0
IsNeat (a_value e) = (is_bare (typed e) ≡ true) × IsNoArray e
IsNeat (a_function_at e) = (is_bare (typed e) ≡ true) × IsNoArray e
IsNeat th = Unit {0}

abbrev pub Stands : (Thing → Type 0) → Scope → Thing → Type 0
Stands Is s th = Is th × IsTypedThing s th × IsNeat th

pub no_array : (x : Expression) → is_decay (typed x) ≡ false → IsNoArray x
no_array x h count p = h

object_worth : (Is : Thing → Type 0) (s : Scope) (p : Path) → Is (an_object p) → IsTypedPath (declared s) (typed_path p) → (t : CType) → type_of_path p ≡ t
    → (x : Expression) → object_value p t ≡ Some x → IsValue Is s x × (array_of_type p t ≡ None → IsNoArray x)
object_worth Is s p i h void e x v = cc
object_worth Is s p i h (integer kind) e x v =
    let y : Expression = value (integer kind) (place_of_path p) (Typed.load p) in
    let q : y ≡ x = cc in
    let w : value_of (an_object p) ≡ Some y = ap (object_value p) e in
    let t : IsTyped (declared s) (typed y) = (h, refl, sym (path_type_same p ∙ e), sym (path_place_same p)) in
    subst (λ x. IsValue Is s x × (array_of_type p (integer kind) ≡ None → IsNoArray x)) q (((an_object p, w, i), t, refl), λ n. no_array y refl)
object_worth Is s p i h (pointer u) e x v =
    let y : Expression = value (pointer u) (place_of_path p) (Typed.load p) in
    let q : y ≡ x = cc in
    let w : value_of (an_object p) ≡ Some y = ap (object_value p) e in
    let t : IsTyped (declared s) (typed y) = (h, refl, sym (path_type_same p ∙ e), sym (path_place_same p)) in
    subst (λ x. IsValue Is s x × (array_of_type p (pointer u) ≡ None → IsNoArray x)) q (((an_object p, w, i), t, refl), λ n. no_array y refl)
object_worth Is s p i h (array u n) e x v =
    let y : Expression = value (pointer u) (place_of_path p) (Typed.decay p) in
    let q : y ≡ x = cc in
    let w : value_of (an_object p) ≡ Some y = ap (object_value p) e in
    let t : IsTyped (declared s) (typed y) = (h, rw (path_type_same p, e) refl, sym (path_place_same p)) in
    subst (λ x. IsValue Is s x × (array_of_type p (array u n) ≡ None → IsNoArray x)) q (((an_object p, w, i), t, refl), λ n. cc)
object_worth Is s p i h (function u all) e x v = cc
object_worth Is s p i h (structure r) e x v = cc

pub found_worth : (Is : Thing → Type 0) (s : Scope) (th : Thing) → Stands Is s th → (x : Expression) → value_of th ≡ Some x
    → IsValue Is s x × (array_of th ≡ None → IsNoArray x)
unfolding array_of
found_worth Is s (an_object p) h x v = object_worth Is s p h.0 h.1 (type_of_path p) refl x v
found_worth Is s (a_value e) h x v =
    let q : e ≡ x = cc in
    subst (λ x. IsValue Is s x × (array_of (a_value e) ≡ None → IsNoArray x)) q
    (((a_value e, ap Some (sym (unconverted_same e h.2.0)), h.0), h.1, h.2.0), λ n. h.2.1)
found_worth Is s (a_function at f t) h x v =
    let y : Expression = value (pointer t) at (Typed.function_name f) in
    let q : y ≡ x = cc in
    subst (λ x. IsValue Is s x × (array_of (a_function at f t) ≡ None → IsNoArray x)) q
    (((a_function at f t, refl, h.0), (t, h.1, refl), refl), λ n. no_array y refl)
found_worth Is s (a_function_at e) h x v =
    let q : e ≡ x = cc in
    subst (λ x. IsValue Is s x × (array_of (a_function_at e) ≡ None → IsNoArray x)) q
    (((a_function_at e, ap Some (sym (unconverted_same e h.2.0)), h.0), h.1.0, h.2.0), λ n. h.2.1)
found_worth Is s (a_library_function at which) h x v = cc

pub worth_is : (at : ℕ) (th : Thing) (x : Expression) → worth at th ≡ Ok x → value_of th ≡ Some x
unfolding worth
worth_is at th x h = by_value (value_of th) th h
  where
    by_value : (o : Option Expression) (th : Thing) → valued at th o ≡ Ok x → o ≡ Some x
    by_value (Some y) th h = given (λ z. Some y ≡ Some z) y x h refl
    by_value None (a_library_function from which) h = cc
    by_value None th h = cc

pub worth_made : (Is : Thing → Type 0) (s : Scope) (at : ℕ) (th : Thing) → Stands Is s th → (x : Expression) → worth at th ≡ Ok x
    → IsValue Is s x × (array_of th ≡ None → IsNoArray x)
worth_made Is s at th h x v = found_worth Is s th h x (worth_is at th x v)

-- ---- conversions

-- an operand, converted to a type
pub record IsOperand (Is : Thing → Type 0) (s : Scope) (t : CType) (x c : Expression) : Type 0 where
  pub values : Values Is c
  pub is_typed : IsTyped (declared s) (typed c)
  pub type_is : ty (typed c) ≡ t
  pub bare_type_is : bare_ty (typed c) ≡ type_of x
  pub null_is : is_null (bare (typed c)) ≡ null x

pub operand : (Is : Thing → Type 0) (s : Scope) (t : CType) (x : Expression) → IsValue Is s x → IsOperand Is s t x (converted t x)
operand Is s t x v = by_test (same_type (type_of x) t) refl
  where
    before : ty (bare (typed x)) ≡ type_of x
    before = ap ty (bare_same x v.2) ∙ type_same x

    differs : same_type (type_of x) t ≡ false → t ≢ ty (typed x)
    differs e f = let g = same_self (type_of x) t (sym (type_same x) ∙ sym f) in cc

    by_test : (b : Bool) → same_type (type_of x) t ≡ b → IsOperand Is s t x (cond b x (value t (place_of x) (Typed.convert x false)))
    by_test true e = record {
      values = v.0;
      is_typed = v.1;
      type_is = type_same x ∙ same_is (type_of x) t e;
      bare_type_is = before;
      null_is = ap is_null (bare_same x v.2);
    }
    by_test false e = record {
      values = (v.0.0, v.0.1 ∙ ap Some (unconverted_same x v.2), v.0.2);
      is_typed = (v.1, v.2, differs e, sym (place_same x));
      type_is = refl;
      bare_type_is = type_same x;
      null_is = refl;
    }
