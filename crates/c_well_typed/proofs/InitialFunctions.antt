-- What stands for a function in a well typed expression, where allocations are recognised: one that is there, by a pointer to a function (C99 6.6).
use Rattle.std.proofs.Common.{◌≡◌, ◌∙◌, ℕ, Bool, true, false, refl, sym, ap, subst, cond}
use Rattle.std.specs.Prelude.{◌||◌, Option, Some, None, slice_get}
use Rattle.lay_base.specs.declared.place.Place.{Place}
use Rattle.c_types.specs.Sameness.{same_type}
use Rattle.c_types.specs.Types.{CType, void, pointer, function, structure}
use Rattle.c_types.proofs.SameTypes.{same_is}
use Rattle.c_typed.specs.Trees as Trees
use Rattle.c_typed.specs.Conversions.{is_pointer, is_function}
use Rattle.c_typed.specs.Constants.{none, ty, constant_of, is_zero, is_null}
use Rattle.c_typed.specs.Fits.{assigns, casts, is_void_and_object}
use Rattle.c_typed.specs.InitialValues.{function_in, function_in_node}
use Rattle.c_typed.specs.Typed.{Declared, is_bare, IsTyped, IsConverted}
use Rattle.c_erasure.specs.Erasure.{typed}
use Rattle.c_erasure.specs.Noted.{Noted, Expression}
use Rattle.c_erasure.specs.Recognised.{allocation, or_converted, is_null_constant, converted, recognised}
use Rattle.c_well_typed.proofs.Nulls.{bare_node}

some_is : {A : Type 0} (x y : A) → Some x ≡ Some y → x ≡ y
some_is x y h = cc

if_some : {A : Type 0} (b : Bool) (o : Option A) (a : A) → cond b o None ≡ Some a → (b ≡ true) × (o ≡ Some a)
if_some true o a h = (refl, h)
if_some false o a h = cc

pointer_is : (t : CType) → is_pointer t ≡ true → (u : CType) × (t ≡ pointer u)
pointer_is (pointer u) h = (u, refl)
pointer_is t h = cc

abbrev pub IsFunctionPointer : CType → Type 0
IsFunctionPointer t = (u : CType) × (t ≡ pointer u) × (is_function u ≡ true)

-- a name, or a cast of one, is no null pointer constant
name_no_null : (t : CType) (at : Place) (f : ℕ) → is_null (Trees.expression t at (Trees.function_name f)) ≡ false
name_no_null (pointer void) at f = refl
name_no_null t at f = refl

cast_no_null : (t : CType) (at : Place) (e : Trees.Expression CType) → constant_of e ≡ none → is_null (Trees.expression (pointer t) at (Trees.convert e true)) ≡ false
cast_no_null void at e h = ap is_zero h
cast_no_null t at e h = refl

cast_keeps : (s t : CType) → is_function s ≡ true → casts (pointer s) false (pointer t) ≡ true → is_function t ≡ true
cast_keeps s t f h = subst (λ b. cond b (is_function t) (Rattle.std.specs.Prelude.not (is_function t)) ≡ true) f h

function_no_void : (s t : CType) → is_function s ≡ true → is_void_and_object s t ≡ false
function_no_void (function u all) void f = refl
function_no_void (function u all) t f = refl
function_no_void s t f = cc

assigned_keeps : (s t : CType) → is_function s ≡ true → assigns (pointer s) false t ≡ true → IsFunctionPointer t
assigned_keeps s (pointer t) f h = by_same (same_type s t) refl h
  where
    by_same : (b : Bool) → same_type s t ≡ b → (b || is_void_and_object s t) ≡ true → IsFunctionPointer (pointer t)
    by_same true e h = (t, refl, subst (λ t. is_function t ≡ true) (same_is s t e) f)
    by_same false e h = let no = sym h ∙ function_no_void s t f in cc
assigned_keeps s t f h = cc

module _ (d : Declared) (all_functions : (n : ℕ) (s : CType) → slice_get d.functions n ≡ Some s → is_function s ≡ true) where
  record IsNamed (e : Trees.Expression CType) (g : ℕ) : Type 0 where
    pub ty_there : CType
    pub there : slice_get d.functions g ≡ Some ty_there
    pub points : IsFunctionPointer (ty e)
    pub no_constant : constant_of e ≡ none
    pub no_null : is_null e ≡ false

  named_is : (e : Trees.Expression CType) (g : ℕ) → is_bare e ≡ true → IsTyped d e → function_in d e ≡ Some g → IsNamed e g
  named_is (Trees.expression t at (Trees.function_name f)) g b h e =
      let is = some_is f g e in
      record {
        ty_there = h.0;
        there = subst (λ f. slice_get d.functions f ≡ Some h.0) is h.1;
        points = (h.0, h.2, all_functions f h.0 h.1);
        no_constant = refl;
        no_null = name_no_null t at f;
      }
  named_is (Trees.expression t at (Trees.convert x false)) g b h e = cc
  named_is (Trees.expression t at (Trees.convert x true)) g b h e = by_type t h.2 (if_some (is_pointer t) (function_in d x) g e) (λ f. named_is x g h.1 h.0 f)
    where
      of_pointer : (t : CType) → casts (ty x) (is_null x) (pointer t) ≡ true → IsNamed x g → IsNamed (Trees.expression (pointer t) at (Trees.convert x true)) g
      of_pointer t c i =
          let u = i.points in
          let c = subst (λ s. casts s (is_null x) (pointer t) ≡ true) u.1 c in
          let c = subst (λ b. casts (pointer u.0) b (pointer t) ≡ true) i.no_null c in
          record {
            ty_there = i.ty_there;
            there = i.there;
            points = (t, refl, cast_keeps u.0 t u.2 c);
            no_constant = refl;
            no_null = cast_no_null t at x i.no_constant;
          }

      by_type : (t : CType) → casts (ty x) (is_null x) t ≡ true → (is_pointer t ≡ true) × (function_in d x ≡ Some g)
          → (function_in d x ≡ Some g → IsNamed x g) → IsNamed (Trees.expression t at (Trees.convert x true)) g
      by_type (pointer t) c i again = of_pointer t c (again i.1)
      by_type t c i again = let no = i.0 in cc
  named_is (Trees.expression t at node) g b h e = cc

  -- a conversion that is left is one of the same operand
  converted_function : (t : CType) (e : Expression) (written : Bool) (g : ℕ) → function_in_node d t (bare_node (converted t e written)) ≡ Some g
      → (is_pointer t ≡ true) × (function_in d (typed e) ≡ Some g)
  converted_function (pointer (structure r)) e written g h = by_null (is_null_constant e) h
    where
      by_count : (o : Option (Trees.OptionalExpression Noted × Bool))
          → function_in_node d (pointer (structure r)) (bare_node (or_converted r o e written)) ≡ Some g
          → (true ≡ true) × (function_in d (typed e) ≡ Some g)
      by_count None h = (refl, h)
      by_count (Some c) h = cc

      by_null : (b : Bool) → function_in_node d (pointer (structure r)) (bare_node (cond b Trees.null (or_converted r (allocation r e) e written))) ≡ Some g
          → (true ≡ true) × (function_in d (typed e) ≡ Some g)
      by_null true h = cc
      by_null false h = by_count (allocation r e) h
  converted_function (pointer t) e written g h = by_null (is_null_constant e) h
    where
      by_null : (b : Bool) → function_in_node d (pointer t) (bare_node (cond b Trees.null (Trees.convert e written))) ≡ Some g
          → (true ≡ true) × (function_in d (typed e) ≡ Some g)
      by_null true h = cc
      by_null false h = (refl, h)
  converted_function t e written g h = cc

  function_was : (e : Expression) (g : ℕ) → function_in d (typed (recognised e)) ≡ Some g → function_in d (typed e) ≡ Some g
  function_was (Trees.expression t at (Trees.function_name f)) g h = h
  function_was (Trees.expression t at (Trees.convert x written)) g h =
      let i = converted_function t.ty (recognised x) written g h in
      ap (λ b. cond b (function_in d (typed x)) None) i.0 ∙ function_was x g i.1
  function_was (Trees.expression t at node) g h = cc

  -- where it is converted as by assignment
  abbrev pub IsFunctionAt : CType → ℕ → Type 0
  IsFunctionAt t g = ((s : CType) × (slice_get d.functions g ≡ Some s)) × IsFunctionPointer t

  converted_is : (e : Trees.Expression CType) (t : CType) (g : ℕ) → IsTyped d e → IsConverted e t → function_in d e ≡ Some g → IsFunctionAt t g
  converted_is (Trees.expression s at (Trees.convert x false)) t g h c e =
      let i = named_is x g h.1 h.0 (if_some (is_pointer s) (function_in d x) g e).1 in
      let u = i.points in
      let a = subst (λ b. assigns (ty x) b t ≡ true) i.no_null c.0 in
      ((i.ty_there, i.there), assigned_keeps u.0 t u.2 (subst (λ s. assigns s false t ≡ true) u.1 a))
  converted_is (Trees.expression s at (Trees.function_name n)) t g h c f =
      let i = named_is (Trees.expression s at (Trees.function_name n)) g refl h f in
      ((i.ty_there, i.there), subst IsFunctionPointer c.1 i.points)
  converted_is (Trees.expression s at (Trees.convert x true)) t g h c f =
      let i = named_is (Trees.expression s at (Trees.convert x true)) g refl h f in
      ((i.ty_there, i.there), subst IsFunctionPointer c.1 i.points)
  converted_is (Trees.expression s at node) t g h c f = cc

  pub function_is : (e : Expression) (t : CType) (g : ℕ) → IsTyped d (typed e) → IsConverted (typed e) t → function_in d (typed (recognised e)) ≡ Some g
      → IsFunctionAt t g
  function_is e t g h c f = converted_is (typed e) t g h c (function_was e g f)
