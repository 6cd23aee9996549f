-- Where allocations are recognised, constants keep their values, and null pointer constants that are converted are null pointers (C99 6.3.2.3, 6.6).
use Rattle.std.proofs.Common.{◌≡◌, ◌∙◌, ℕ, zero, suc, Bool, true, false, refl, sym, ap, subst, cond, inl, inr}
use Rattle.std.specs.Prelude.{◌⊎◌, Option, Some, None}
use Rattle.lay_base.specs.declared.place.Place.{Place}
use Rattle.c_types.specs.Types.{CType, void, integer, pointer, structure}
use Rattle.c_typed.specs.Trees as Trees
use Rattle.c_typed.specs.Conversions.{is_integer, is_pointer}
use Rattle.c_typed.specs.Constants.{Constant, none, undefined, valued, ty, converted_constant, unary_constant, chosen, negated}
use Rattle.c_typed.specs.Constants.{constant_of, constant_in, is_zero, is_null}
use Rattle.c_typed.specs.Mapped.{of_types, mapped_node}
use Rattle.c_typed.specs.Typed.{Declared, IsTyped, IsTypedNode}
use Rattle.c_erasure.specs.Erasure.{typed}
use Rattle.c_erasure.specs.Noted.{Noted, Note, Expression, Node}
use Rattle.c_erasure.specs.Recognised.{allocation, or_converted, is_null_constant, converted, recognised, recognised_node}
use Rattle.c_well_typed.proofs.Fitting.{promoting_is, on_numbers_is}

abbrev pub bare_node : Node → Trees.Node CType
bare_node node = mapped_node (of_types (λ t. t.ty)) node

-- ---- constants stay

pub type_stays : (e : Expression) → ty (typed (recognised e)) ≡ ty (typed e)
type_stays (Trees.expression t at node) = refl

null_has_none : (b : Bool) (t : CType) (node : Node) → constant_in t (bare_node node) ≡ none → constant_in t (bare_node (cond b Trees.null node)) ≡ none
null_has_none true t node h = refl
null_has_none false t node h = h

or_converted_has_none : (r : ℕ) (a : Option (Trees.OptionalExpression Noted × Bool)) (e : Expression) (written : Bool)
    → constant_in (pointer (structure r)) (bare_node (or_converted r a e written)) ≡ none
or_converted_has_none r None e written = refl
or_converted_has_none r (Some a) e written = refl

converted_stays : (t : CType) (e : Expression) (written : Bool)
    → constant_in t (bare_node (converted t e written)) ≡ converted_constant t (constant_of (typed e))
converted_stays (pointer (structure r)) e written =
    null_has_none (is_null_constant e) (pointer (structure r)) (or_converted r (allocation r e) e written) (or_converted_has_none r (allocation r e) e written)
converted_stays (pointer t) e written = null_has_none (is_null_constant e) _ (Trees.convert e written) refl
converted_stays t e written = refl

mutual
  pub constant_stays : (e : Expression) → constant_of (typed (recognised e)) ≡ constant_of (typed e)
  constant_stays (Trees.expression t at node) = constant_in_stays t node

  constant_in_stays : (t : Noted) (node : Node) → constant_in t.ty (bare_node (recognised_node t node)) ≡ constant_in t.ty (bare_node node)
  constant_in_stays t (Trees.constant v) = refl
  constant_in_stays t Trees.null = refl
  constant_in_stays t (Trees.function_name f) = refl
  constant_in_stays t (Trees.load p) = refl
  constant_in_stays t (Trees.address_of p) = refl
  constant_in_stays t (Trees.decay p) = refl
  constant_in_stays t (Trees.convert e written) = converted_stays t.ty (recognised e) written ∙ ap (converted_constant t.ty) (constant_stays e)
  constant_in_stays t (Trees.unary op x) = ap (unary_constant op) (constant_stays x)
  constant_in_stays t (Trees.binary op x y) = rw (constant_stays x, constant_stays y, type_stays y) refl
  constant_in_stays t (Trees.compare op x y) = rw (constant_stays x, constant_stays y, type_stays x) refl
  constant_in_stays t (Trees.pointer_add op x y) = refl
  constant_in_stays t (Trees.pointer_difference x y) = refl
  constant_in_stays t (Trees.both x y) = rw (constant_stays x, constant_stays y) refl
  constant_in_stays t (Trees.either x y) = rw (constant_stays x, constant_stays y) refl
  constant_in_stays t (Trees.not x) = ap negated (constant_stays x)
  constant_in_stays t (Trees.choose x y z) = rw (constant_stays x, constant_stays y, constant_stays z) refl
  constant_in_stays t (Trees.comma x y) = refl
  constant_in_stays t (Trees.assign p x) = refl
  constant_in_stays t (Trees.assign_op op p x) = refl
  constant_in_stays t (Trees.step op before p) = refl
  constant_in_stays t (Trees.copy_record to from) = refl
  constant_in_stays t (Trees.call f all) = refl
  constant_in_stays t (Trees.call_through e all) = refl
  constant_in_stays t (Trees.library which all) = refl
  constant_in_stays t (Trees.allocate r n zeroed) = refl

-- ---- what has a value is an integer

of_converted : (t : CType) (c : Constant) (v : ℕ) → converted_constant t c ≡ valued v → is_integer t ≡ true
of_converted (integer kind) c v h = refl
of_converted t c v h = cc

chosen_one : (c d e : Constant) (v : ℕ) → chosen c d e ≡ valued v → (d ≡ valued v) ⊎ (e ≡ valued v)
chosen_one none d e v h = cc
chosen_one undefined none e v h = cc
chosen_one undefined d none v h = cc
chosen_one undefined undefined e v h = cc
chosen_one undefined (valued w) undefined v h = cc
chosen_one undefined (valued w) (valued x) v h = cc
chosen_one (valued n) none e v h = cc
chosen_one (valued n) undefined none v h = cc
chosen_one (valued n) (valued w) none v h = cc
chosen_one (valued zero) undefined undefined v h = inr h
chosen_one (valued zero) undefined (valued x) v h = inr h
chosen_one (valued zero) (valued w) undefined v h = inr h
chosen_one (valued zero) (valued w) (valued x) v h = inr h
chosen_one (valued (suc n)) undefined undefined v h = inl h
chosen_one (valued (suc n)) undefined (valued x) v h = inl h
chosen_one (valued (suc n)) (valued w) undefined v h = inl h
chosen_one (valued (suc n)) (valued w) (valued x) v h = inl h

integer_is : (s t : CType) → s ≡ t → is_integer s ≡ true → is_integer t ≡ true
integer_is s t e h = subst (λ t. is_integer t ≡ true) e h

module _ (d : Declared) where
  mutual
    pub valued_is_integer : (e : Trees.Expression CType) (v : ℕ) → IsTyped d e → constant_of e ≡ valued v → is_integer (ty e) ≡ true
    valued_is_integer (Trees.expression t at node) v h c = valued_node t at node v h c

    valued_node : (t : CType) (at : Place) (node : Trees.Node CType) (v : ℕ) → IsTypedNode d t at node → constant_in t node ≡ valued v
        → is_integer t ≡ true
    valued_node t at (Trees.constant w) v h c = integer_is _ t (sym h.1) refl
    valued_node t at (Trees.convert e written) v h c = of_converted t (constant_of e) v c
    valued_node t at (Trees.unary op x) v h c = (promoting_is _ t h.1).1
    valued_node t at (Trees.binary op x y) v h c = (on_numbers_is op _ _ t (ty y) h.2).2
    valued_node t at (Trees.compare op x y) v h c = integer_is _ t (sym h.4) refl
    valued_node t at (Trees.both x y) v h c = integer_is _ t (sym h.4) refl
    valued_node t at (Trees.either x y) v h c = integer_is _ t (sym h.4) refl
    valued_node t at (Trees.not x) v h c = integer_is _ t (sym h.2) refl
    valued_node t at (Trees.choose x y z) v h c =
        by_one (chosen_one (constant_of x) (constant_of y) (constant_of z) v c) (λ e. valued_is_integer y v h.1 e) (λ e. valued_is_integer z v h.2 e)
      where
        by_one : (constant_of y ≡ valued v) ⊎ (constant_of z ≡ valued v) → (constant_of y ≡ valued v → is_integer (ty y) ≡ true)
            → (constant_of z ≡ valued v → is_integer (ty z) ≡ true) → is_integer t ≡ true
        by_one (inl e) f g = integer_is (ty y) t h.5 (f e)
        by_one (inr e) f g = integer_is (ty z) t h.6 (g e)
    valued_node t at node v h c = cc

-- ---- null pointer constants

pub is_zero_is : (c : Constant) → is_zero c ≡ true → (v : ℕ) × (c ≡ valued v)
is_zero_is (valued v) h = (v, refl)
is_zero_is c h = cc

-- a cast to `void *`, or an integer
abbrev pub IsCast : Trees.Expression CType → Type 0
IsCast e = (at : Place) × (x : Trees.Expression CType) × (e ≡ Trees.expression (pointer void) at (Trees.convert x true)) × (is_zero (constant_of x) ≡ true)

pub null_or_cast : (e : Trees.Expression CType) → is_null e ≡ true → (is_zero (constant_of e) ≡ true) ⊎ IsCast e
null_or_cast (Trees.expression (pointer void) at (Trees.convert x true)) h = inr (at, x, refl, h)
null_or_cast e h = inl h

no_null : (s : CType) → is_pointer s ≡ true → is_integer s ≡ true → ⊥
no_null (pointer s) h i = cc
no_null s h i = cc

module _ (d : Declared) where
  -- an integer that is converted to a pointer
  integer_is_null : (s : CType) (note : Note) (at : Place) (node : Node) → IsTypedNode d s at (bare_node node) → is_integer s ≡ true
      → is_null_constant (recognised (Trees.expression (record { ty = s; note = note }) at node)) ≡ true
  integer_is_null s note at Trees.null h i = absurd (no_null s h i)
  integer_is_null (integer kind) note at (Trees.convert e written) h i = refl
  integer_is_null s note at (Trees.convert e written) h i = cc
  integer_is_null s note at node h i = i

  zero_is_null : (e : Expression) → IsTyped d (typed e) → is_zero (constant_of (typed e)) ≡ true → is_null_constant (recognised e) ≡ true
  zero_is_null (Trees.expression t at node) h z =
      let v = is_zero_is (constant_in t.ty (bare_node node)) z in
      integer_is_null t.ty t.note at node h (valued_is_integer d (typed (Trees.expression t at node)) v.0 h v.1)

  cast_is_null : (note : Note) (at : Place) (e : Expression) → is_null_constant (recognised e) ≡ true
      → is_null_constant (recognised (Trees.expression (record { ty = pointer void; note = note }) at (Trees.convert e true))) ≡ true
  cast_is_null note at e h = rw h refl

  pub null_is_null : (e : Expression) → IsTyped d (typed e) → is_null (typed e) ≡ true → is_null_constant (recognised e) ≡ true
  null_is_null (Trees.expression t at node) h n = by_type t.ty t.note node h n
    where
      by_type : (s : CType) (note : Note) (node : Node) → IsTypedNode d s at (bare_node node)
          → is_null (Trees.expression s at (bare_node node)) ≡ true
          → is_null_constant (recognised (Trees.expression (record { ty = s; note = note }) at node)) ≡ true
      by_type (pointer void) note (Trees.convert e true) h n = cast_is_null note at e (zero_is_null e h.0 n)
      by_type s note node h n =
          zero_is_null (Trees.expression (record { ty = s; note = note }) at node) h n

-- what is one after was one before
of_cast : (b : Bool) (at : Place) (e : Expression) → is_null (Trees.expression (pointer void) at (bare_node (cond b Trees.null (Trees.convert (recognised e) true)))) ≡ true
    → is_zero (constant_of (typed e)) ≡ true
of_cast true at e h = cc
of_cast false at e h = subst (λ c. is_zero c ≡ true) (constant_stays e) h

pub null_was_null : (e : Expression) → is_null (typed (recognised e)) ≡ true → is_null (typed e) ≡ true
null_was_null (Trees.expression t at node) h = by_type t.ty t.note node h
  where
    no_cast : (s : CType) (note : Note) (node : Node)
        → (is_zero (constant_in s (bare_node node)) ≡ true → is_null (Trees.expression s at (bare_node node)) ≡ true)
        → (is_null (Trees.expression s at (bare_node (recognised_node (record { ty = s; note = note }) node))) ≡ true
        → is_zero (constant_in s (bare_node (recognised_node (record { ty = s; note = note }) node))) ≡ true)
        → is_null (Trees.expression s at (bare_node (recognised_node (record { ty = s; note = note }) node))) ≡ true
        → is_null (Trees.expression s at (bare_node node)) ≡ true
    no_cast s note node f g h =
        f (subst (λ c. is_zero c ≡ true) (constant_stays (Trees.expression (record { ty = s; note = note }) at node)) (g h))

    or_null : (b : Bool) (e : Expression) → is_null (Trees.expression (pointer void) at (bare_node (cond b Trees.null (Trees.convert e false)))) ≡ true → ⊥
    or_null true e h = cc
    or_null false e h = cc

    or_other : (s : CType) (node : Node) (b : Bool) → is_null (Trees.expression s at (bare_node node)) ≡ false
        → is_null (Trees.expression s at Trees.null) ≡ false → is_null (Trees.expression s at (bare_node (cond b Trees.null node))) ≡ true → ⊥
    or_other s node true f g h = let true_is_false = sym h ∙ g in cc
    or_other s node false f g h = let true_is_false = sym h ∙ f in cc

    or_allocation : (r : ℕ) (a : Option (Trees.OptionalExpression Noted × Bool)) (e : Expression) (written : Bool)
        → is_null (Trees.expression (pointer (structure r)) at (bare_node (or_converted r a e written))) ≡ false
    or_allocation r None e written = refl
    or_allocation r (Some a) e written = refl

    by_type : (s : CType) (note : Note) (node : Node)
        → is_null (Trees.expression s at (bare_node (recognised_node (record { ty = s; note = note }) node))) ≡ true
        → is_null (Trees.expression s at (bare_node node)) ≡ true
    by_type (pointer void) note (Trees.convert e true) h = of_cast (is_null_constant (recognised e)) at e h
    by_type (pointer void) note (Trees.convert e false) h = absurd (or_null (is_null_constant (recognised e)) (recognised e) h)
    by_type (pointer (structure r)) note (Trees.convert e written) h =
        absurd (or_other (pointer (structure r)) (or_converted r (allocation r (recognised e)) (recognised e) written) (is_null_constant (recognised e))
        (or_allocation r (allocation r (recognised e)) (recognised e) written) refl h)
    by_type (pointer s) note (Trees.convert e written) h =
        absurd (or_other (pointer s) (Trees.convert (recognised e) written) (is_null_constant (recognised e)) refl refl h)
    by_type s note node h = no_cast s note node (λ z. z) (λ z. z) h
