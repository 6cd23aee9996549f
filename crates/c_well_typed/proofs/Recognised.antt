-- An expression is well typed where its allocations and null pointers are recognised, and where all records of the file are complete.
use Rattle.std.proofs.Common.{◌≡◌, ◌∙◌, ℕ, ◌≤◌, Bool, true, false, refl, sym, ap, subst, cond, inl, inr}
use Rattle.std.specs.Prelude.{◌⊎◌, Option, Some, None}
use Rattle.std.specs.Option.{option_map}
use Rattle.lay_base.specs.declared.place.Place.{Place}
use Rattle.c_types.specs.Types.{CType, CTypes, pointer, structure, no_types, and_type}
use Rattle.c_typed.specs.declared.operators.BinaryOp.{BinaryOp}
use Rattle.c_typed.specs.declared.operators.CompareOp.{CompareOp}
use Rattle.c_typed.specs.declared.operators.PointerOp.{PointerOp}
use Rattle.c_typed.specs.declared.operators.PointerOp.TheVariants as P
use Rattle.c_typed.specs.Trees as Trees
use Rattle.c_typed.specs.Conversions.{is_integer, is_pointer, is_scalar, element_of}
use Rattle.c_typed.specs.Constants.{ty, is_null}
use Rattle.c_typed.specs.Fits.{assigns, casts}
use Rattle.c_typed.specs.Mapped.{of_types, mapped_path, mapped_step, mapped_all}
use Rattle.c_typed.specs.Rules.{promoting, on_numbers, comparing, choosing}
use Rattle.c_typed.specs.Typed.{Declared, at_of, path_ty, path_at, bare, is_bare, bare_ty, is_decay, IsTested, IsConverted, IsMoved, IsMove}
use Rattle.c_typed.specs.Typed.{IsTyped, IsTypedNode, AreArguments, IsTypedPath, IsTypedStep}
use Rattle.c_erasure.specs.Erasure.{typed}
use Rattle.c_erasure.specs.Noted.{Noted, Note, Expression, Path, Node, PathNode}
use Rattle.c_erasure.specs.Recognised.{allocation, or_converted, is_null_constant, converted, recognised, recognised_node, recognised_path, recognised_step}
use Rattle.c_erasure.specs.Recognised.{recognised_all}
use Rattle.c_checking_laws.proofs.CompletePart.{complete_stays}
use Rattle.c_well_typed.proofs.Allocations.{AllocationIsTyped, allocation_typed, bare_itself}
use Rattle.c_well_typed.proofs.Fitting.{promoting_is, on_numbers_is, no_pointer, casts_null, casts_number, Under, unconverted, settled, number, address}
use Rattle.c_well_typed.proofs.Fitting.{under_number, assigns_stays, comparing_stays, choosing_stays}
use Rattle.c_well_typed.proofs.Monotone.{moving_more, differing_more, updating_more, stepped_more, moved_number, updated_number}
use Rattle.c_well_typed.proofs.Notes.{IsNoted, IsNotedNode, IsNotedPath, IsNotedStep, AreNoted, recognised_noted}
use Rattle.c_well_typed.proofs.Nulls.{bare_node, type_stays, null_is_null, null_was_null}

abbrev pub typed_path : Path → Trees.Path CType
typed_path = mapped_path (of_types (λ t. t.ty))

abbrev pub typed_step : PathNode → Trees.PathNode CType
typed_step = mapped_step (of_types (λ t. t.ty))

abbrev pub typed_all : Trees.Expressions Noted → Trees.Expressions CType
typed_all = mapped_all (of_types (λ t. t.ty))

-- where so many records are complete everywhere
abbrev pub with_complete : ℕ → Declared → Declared
with_complete count d = record { records = d.records; complete = λ at. count; locals = d.locals; objects = d.objects; functions = d.functions }

-- ---- what stays of a node

pub place_stays : (e : Expression) → at_of (typed (recognised e)) ≡ at_of (typed e)
place_stays (Trees.expression t at node) = refl

pub path_type_stays : (p : Path) → path_ty (typed_path (recognised_path p)) ≡ path_ty (typed_path p)
path_type_stays (Trees.path t at step) = refl

path_place_stays : (p : Path) → path_at (typed_path (recognised_path p)) ≡ path_at (typed_path p)
path_place_stays (Trees.path t at step) = refl

null_or : (t : CType) (at : Place) (b : Bool) (node : Node) → is_bare (Trees.expression t at (bare_node node)) ≡ true
    → is_bare (Trees.expression t at (bare_node (cond b Trees.null node))) ≡ true
null_or t at true node h = refl
null_or t at false node h = h

allocation_or : (t : CType) (at : Place) (r : ℕ) (a : Option (Trees.OptionalExpression Noted × Bool)) (e : Expression)
    → is_bare (Trees.expression t at (bare_node (or_converted r a e true))) ≡ true
allocation_or t at r None e = refl
allocation_or t at r (Some a) e = refl

cast_is_bare : (t : CType) (at : Place) (e : Expression) → is_bare (Trees.expression t at (bare_node (converted t e true))) ≡ true
cast_is_bare (pointer (structure r)) at e =
    null_or (pointer (structure r)) at (is_null_constant e) (or_converted r (allocation r e) e true)
    (allocation_or (pointer (structure r)) at r (allocation r e) e)
cast_is_bare (pointer t) at e = null_or (pointer t) at (is_null_constant e) (Trees.convert e true) refl
cast_is_bare t at e = refl

pub bare_stays : (e : Expression) → is_bare (typed e) ≡ true → is_bare (typed (recognised e)) ≡ true
bare_stays (Trees.expression t at (Trees.convert e false)) h = cc
bare_stays (Trees.expression t at (Trees.convert e true)) h = cast_is_bare t.ty at (recognised e)
bare_stays (Trees.expression t at node) h = refl

no_decay_or : (t : CType) (at : Place) (b : Bool) (node : Node) → is_decay (Trees.expression t at (bare_node node)) ≡ false
    → is_decay (Trees.expression t at (bare_node (cond b Trees.null node))) ≡ false
no_decay_or t at true node h = refl
no_decay_or t at false node h = h

no_decay_allocation : (t : CType) (at : Place) (r : ℕ) (a : Option (Trees.OptionalExpression Noted × Bool)) (e : Expression) (written : Bool)
    → is_decay (Trees.expression t at (bare_node (or_converted r a e written))) ≡ false
no_decay_allocation t at r None e written = refl
no_decay_allocation t at r (Some a) e written = refl

conversion_is_no_decay : (t : CType) (at : Place) (e : Expression) (written : Bool)
    → is_decay (Trees.expression t at (bare_node (converted t e written))) ≡ false
conversion_is_no_decay (pointer (structure r)) at e written =
    no_decay_or (pointer (structure r)) at (is_null_constant e) (or_converted r (allocation r e) e written)
    (no_decay_allocation (pointer (structure r)) at r (allocation r e) e written)
conversion_is_no_decay (pointer t) at e written = no_decay_or (pointer t) at (is_null_constant e) (Trees.convert e written) refl
conversion_is_no_decay t at e written = refl

decay_stays : (e : Expression) → is_decay (typed e) ≡ false → is_decay (typed (recognised e)) ≡ false
decay_stays (Trees.expression t at (Trees.convert e written)) h = conversion_is_no_decay t.ty at (recognised e) written
decay_stays (Trees.expression t at (Trees.decay p)) h = h
decay_stays (Trees.expression t at node) h = refl

module _ (d : Declared) where
  -- ---- an operand before and after

  no_null : (e : Expression) → IsTyped d (typed e) → is_null_constant (recognised e) ≡ false → (is_null (typed e) ≡ false) × (is_null (typed (recognised e)) ≡ false)
  no_null e h f = (before (is_null (typed e)) refl, after (is_null (typed (recognised e))) refl)
    where
      contradiction : is_null (typed e) ≡ true → ⊥
      contradiction n = let true_is_false = sym (null_is_null d e h n) ∙ f in cc

      before : (b : Bool) → is_null (typed e) ≡ b → b ≡ false
      before true n = absurd (contradiction n)
      before false n = refl

      after : (b : Bool) → is_null (typed (recognised e)) ≡ b → b ≡ false
      after true n = absurd (contradiction (null_was_null e n))
      after false n = refl

  abbrev IsUnder : Expression → Expression → Type 0
  IsUnder e f = Under (ty (typed e)) (bare_ty (typed e)) (is_null (bare (typed e))) (bare_ty (typed f)) (is_null (bare (typed f)))

  of_bare : (e : Expression) → is_bare (typed e) ≡ true → IsUnder e (recognised e)
  of_bare e h =
      let a = bare_itself (typed e) h in
      let b = bare_itself (typed (recognised e)) (bare_stays e h) in
      rw (a, b) (unconverted refl (type_stays e) (null_was_null e))

  of_conversion : (s : CType) (note : Note) (at : Place) (e : Expression) → IsTyped d (typed e)
      → IsUnder (Trees.expression (record { ty = s; note = note }) at (Trees.convert e false))
      (Trees.expression (record { ty = s; note = note }) at (converted s (recognised e) false))
  of_conversion (pointer (structure r)) note at e h = by_null (is_null_constant (recognised e)) refl
    where
      t : Noted
      t = record { ty = pointer (structure r); note = note }

      by_allocation : (a : Option (Trees.OptionalExpression Noted × Bool)) → is_null_constant (recognised e) ≡ false
          → IsUnder (Trees.expression (record { ty = pointer (structure r); note = note }) at (Trees.convert e false))
          (Trees.expression (record { ty = pointer (structure r); note = note }) at (or_converted r a (recognised e) false))
      by_allocation None f = let n = no_null e h f in address (type_stays e) n.0 n.1
      by_allocation (Some a) f = settled refl refl refl

      by_null : (b : Bool) → is_null_constant (recognised e) ≡ b
          → IsUnder (Trees.expression (record { ty = pointer (structure r); note = note }) at (Trees.convert e false))
          (Trees.expression (record { ty = pointer (structure r); note = note }) at
          (cond b Trees.null (or_converted r (allocation r (recognised e)) (recognised e) false)))
      by_null true f = settled refl refl refl
      by_null false f = by_allocation (allocation r (recognised e)) f
  of_conversion (pointer s) note at e h = by_null (is_null_constant (recognised e)) refl
    where
      by_null : (b : Bool) → is_null_constant (recognised e) ≡ b
          → IsUnder (Trees.expression (record { ty = pointer s; note = note }) at (Trees.convert e false))
          (Trees.expression (record { ty = pointer s; note = note }) at (cond b Trees.null (Trees.convert (recognised e) false)))
      by_null true f = settled refl refl refl
      by_null false f = let n = no_null e h f in address (type_stays e) n.0 n.1
  of_conversion s note at e h = number refl (type_stays e)

  under : (e : Expression) → IsTyped d (typed e) → IsUnder e (recognised e)
  under (Trees.expression t at (Trees.convert e false)) h = of_conversion t.ty t.note at e h.0
  under (Trees.expression t at (Trees.convert e true)) h = of_bare (Trees.expression t at (Trees.convert e true)) refl
  under (Trees.expression t at node) h = of_bare (Trees.expression t at node) refl

  -- what is a number, or is converted to one, has the same type without its conversion
  number_stays : (e : Expression) → IsTyped d (typed e) → is_integer (ty (typed e)) ≡ true → bare_ty (typed (recognised e)) ≡ bare_ty (typed e)
  number_stays e h i =
      under_number (ty (typed e)) (bare_ty (typed e)) (is_null (bare (typed e))) (bare_ty (typed (recognised e))) (is_null (bare (typed (recognised e))))
      (under e h) (no_pointer (ty (typed e)) i)

  pub tested_stays : (e : Expression) → IsTested (typed e) → IsTested (typed (recognised e))
  tested_stays e h = (bare_stays e h.0, subst (λ t. is_scalar t ≡ true) (sym (type_stays e)) h.1)

  pub converted_stays : (e : Expression) (t : CType) → IsTyped d (typed e) → IsConverted (typed e) t → IsConverted (typed (recognised e)) t
  converted_stays e t h c =
      let is = type_stays e ∙ c.1 in
      let stays = assigns_stays (ty (typed e)) (bare_ty (typed e)) (is_null (bare (typed e))) (bare_ty (typed (recognised e)))
      (is_null (bare (typed (recognised e)))) (under e h)
      (subst (λ t. assigns (bare_ty (typed e)) (is_null (bare (typed e))) t ≡ true) (sym c.1) c.0) in
      (subst (λ t. assigns (bare_ty (typed (recognised e))) (is_null (bare (typed (recognised e)))) t ≡ true) c.1 stays, is)

  pub promoted_stays : (e : Expression) → IsTyped d (typed e) → promoting (bare_ty (typed e)) ≡ Some (ty (typed e))
      → promoting (bare_ty (typed (recognised e))) ≡ Some (ty (typed (recognised e)))
  promoted_stays e h p =
      rw (number_stays e h (promoting_is (bare_ty (typed e)) (ty (typed e)) p).1, type_stays e) p

  moved_stays : (few many : ℕ) → few ≤ many → (x y : Expression) (t : CType) → IsTyped d (typed y) → IsMoved few (typed x) (typed y) t
      → IsMoved many (typed (recognised x)) (typed (recognised y)) t
  moved_stays few many less x y t h m =
      let i = moved_number few (ty (typed x)) (bare_ty (typed y)) (ty (typed y)) m.1 in (
        bare_stays x m.0,
        rw (type_stays x, type_stays y, number_stays y h i) (moving_more few many less (ty (typed x)) (bare_ty (typed y)) (ty (typed y)) m.1),
        m.2 ∙ sym (type_stays x),
      )

  move_stays : (op : PointerOp) (few many : ℕ) → few ≤ many → (x y : Expression) (t : CType) → IsTyped d (typed x) → IsTyped d (typed y)
      → IsMove op few (typed x) (typed y) t → IsMove op many (typed (recognised x)) (typed (recognised y)) t
  move_stays P.Add few many less x y t h k (inl m) = inl (moved_stays few many less x y t k m)
  move_stays P.Add few many less x y t h k (inr m) = inr (moved_stays few many less y x t h m)
  move_stays P.Subtract few many less x y t h k m = moved_stays few many less x y t k m

  module _ (count : ℕ) (less : (at : ℕ) → d.complete at ≤ count) where
    abbrev D : Declared
    D = with_complete count d

    -- ---- conversions

    conversion_typed : (t : CType) (at : Place) (e : Expression) (written : Bool) → IsTyped D (typed e) → IsNoted count (Unit {0}) e
        → ((is_null_constant e ≡ false) ⊎ (is_pointer t ≡ false) → IsTypedNode D t at (Trees.convert (typed e) written))
        → IsTypedNode D t at (bare_node (converted t e written))
    conversion_typed (pointer (structure r)) at e written h n k = by_null (is_null_constant e) refl
      where
        by_allocation : (a : Option (Trees.OptionalExpression Noted × Bool)) → AllocationIsTyped D count r a
            → (is_null_constant e ≡ false) → IsTypedNode D (pointer (structure r)) at (bare_node (or_converted r a e written))
        by_allocation None i f = k (inl f)
        by_allocation (Some a) i f = (refl, i.1, i.0)

        by_null : (b : Bool) → is_null_constant e ≡ b
            → IsTypedNode D (pointer (structure r)) at (bare_node (cond b Trees.null (or_converted r (allocation r e) e written)))
        by_null true f = refl
        by_null false f = by_allocation (allocation r e) (allocation_typed D count r e h n) f
    conversion_typed (pointer t) at e written h n k = by_null (is_null_constant e) refl
      where
        by_null : (b : Bool) → is_null_constant e ≡ b → IsTypedNode D (pointer t) at (bare_node (cond b Trees.null (Trees.convert e written)))
        by_null true f = refl
        by_null false f = k (inl f)
    conversion_typed t at e written h n k = k (inr refl)

    cast_stays : (e : Expression) (t : CType) → IsTyped d (typed e) → casts (ty (typed e)) (is_null (typed e)) t ≡ true
        → (is_null_constant (recognised e) ≡ false) ⊎ (is_pointer t ≡ false)
        → casts (ty (typed (recognised e))) (is_null (typed (recognised e))) t ≡ true
    cast_stays e t h c (inl f) =
        let n = no_null e h f in
        rw (type_stays e) (casts_null (ty (typed e)) t (is_null (typed (recognised e))) (subst (λ b. casts (ty (typed e)) b t ≡ true) n.0 c))
    cast_stays e t h c (inr f) = rw (type_stays e) (casts_number (ty (typed e)) t (is_null (typed e)) (is_null (typed (recognised e))) f c)

    conversion_stays : (t : CType) (at : Place) (e : Expression) (written : Bool) → IsTypedNode d t at (Trees.convert (typed e) written)
        → IsTyped D (typed (recognised e)) → (is_null_constant (recognised e) ≡ false) ⊎ (is_pointer t ≡ false)
        → IsTypedNode D t at (Trees.convert (typed (recognised e)) written)
    conversion_stays t at e false h k f =
        (k, bare_stays e h.1, (λ same. h.2 (same ∙ type_stays e)), h.3 ∙ sym (place_stays e))
    conversion_stays t at e true h k f = (k, bare_stays e h.1, cast_stays e t h.0 h.2 f)

    conversion : (t : CType) (at : Place) (e : Expression) (written : Bool) → IsNoted count ⊥ e → IsTypedNode d t at (Trees.convert (typed e) written)
        → IsTyped D (typed (recognised e)) → IsTypedNode D t at (bare_node (converted t (recognised e) written))
    conversion t at e written n h k =
        conversion_typed t at (recognised e) written k (recognised_noted count e n) (conversion_stays t at e written h k)

    operand : (t : CType) (at : Place) (e : Expression) (written : Bool) → IsTypedNode d t at (Trees.convert (typed e) written) → IsTyped d (typed e)
    operand t at e false h = h.0
    operand t at e true h = h.0

    -- ---- comparisons and choices

    same_under : (x : Expression) (u : CType) → ty (typed x) ≡ u → IsTyped d (typed x)
        → Under u (bare_ty (typed x)) (is_null (bare (typed x))) (bare_ty (typed (recognised x))) (is_null (bare (typed (recognised x))))
    same_under x u e h =
        subst (λ u. Under u (bare_ty (typed x)) (is_null (bare (typed x))) (bare_ty (typed (recognised x))) (is_null (bare (typed (recognised x))))) e (under x h)

    comparison : (op : CompareOp) (x y : Expression) → IsTyped d (typed x) → IsTyped d (typed y)
        → comparing op (bare_ty (typed x)) (is_null (bare (typed x))) (bare_ty (typed y)) (is_null (bare (typed y))) ≡ Some (ty (typed x))
        → ty (typed y) ≡ ty (typed x)
        → comparing op (bare_ty (typed (recognised x))) (is_null (bare (typed (recognised x)))) (bare_ty (typed (recognised y)))
        (is_null (bare (typed (recognised y)))) ≡ Some (ty (typed (recognised x)))
    comparison op x y h k c e =
        comparing_stays (ty (typed x)) (bare_ty (typed x)) (is_null (bare (typed x))) (bare_ty (typed (recognised x))) (is_null (bare (typed (recognised x))))
        (bare_ty (typed y)) (is_null (bare (typed y))) (bare_ty (typed (recognised y))) (is_null (bare (typed (recognised y))))
        (under x h) (same_under y (ty (typed x)) e k) op c ∙ ap Some (sym (type_stays x))

    choice : (x y : Expression) (t : CType) → IsTyped d (typed x) → IsTyped d (typed y)
        → choosing (bare_ty (typed x)) (is_null (bare (typed x))) (bare_ty (typed y)) (is_null (bare (typed y))) ≡ Some t
        → ty (typed x) ≡ t → ty (typed y) ≡ t
        → choosing (bare_ty (typed (recognised x))) (is_null (bare (typed (recognised x)))) (bare_ty (typed (recognised y)))
        (is_null (bare (typed (recognised y)))) ≡ Some t
    choice x y t h k c e f =
        choosing_stays t (bare_ty (typed x)) (is_null (bare (typed x))) (bare_ty (typed (recognised x))) (is_null (bare (typed (recognised x))))
        (bare_ty (typed y)) (is_null (bare (typed y))) (bare_ty (typed (recognised y))) (is_null (bare (typed (recognised y))))
        (same_under x t e h) (same_under y t f k) c

    computed : (op : BinaryOp) (x y : Expression) (t : CType) → IsTyped d (typed x) → IsTyped d (typed y)
        → on_numbers op (bare_ty (typed x)) (bare_ty (typed y)) ≡ Some (t, ty (typed y)) → ty (typed x) ≡ t
        → on_numbers op (bare_ty (typed (recognised x))) (bare_ty (typed (recognised y))) ≡ Some (t, ty (typed (recognised y)))
    computed op x y t h k c e =
        let i = on_numbers_is op (bare_ty (typed x)) (bare_ty (typed y)) t (ty (typed y)) c in
        rw (number_stays x h (subst (λ t. is_integer t ≡ true) (sym e) i.2), number_stays y k i.3, type_stays y) c

    -- ---- expressions

    mutual
      pub keeps : (e : Expression) → IsNoted count ⊥ e → IsTyped d (typed e) → IsTyped D (typed (recognised e))
      keeps (Trees.expression t at node) n h = keeps_node t at node n.1 h

      keeps_node : (t : Noted) (at : Place) (node : Node) → IsNotedNode count ⊥ node → IsTypedNode d t.ty at (bare_node node)
          → IsTypedNode D t.ty at (bare_node (recognised_node t node))
      keeps_node t at (Trees.constant v) n h = h
      keeps_node t at Trees.null n h = h
      keeps_node t at (Trees.function_name f) n h = h
      keeps_node t at (Trees.load p) n h = (keeps_path p n h.0, h.1, h.2 ∙ sym (path_type_stays p), h.3 ∙ sym (path_place_stays p))
      keeps_node t at (Trees.address_of p) n h = (keeps_path p n h.0, h.1 ∙ ap pointer (sym (path_type_stays p)))
      keeps_node t at (Trees.decay p) n h =
          (keeps_path p n h.0, ap (λ t. option_map pointer (element_of t)) (path_type_stays p) ∙ h.1, h.2 ∙ sym (path_place_stays p))
      keeps_node t at (Trees.convert e written) n h = conversion t.ty at e written n h (keeps e n (operand t.ty at e written h))
      keeps_node t at (Trees.unary op x) n h = (
        keeps x n h.0,
        rw (number_stays x h.0 (subst (λ t. is_integer t ≡ true) (sym h.2) (promoting_is (bare_ty (typed x)) t.ty h.1).1)) h.1,
        type_stays x ∙ h.2,
      )
      keeps_node t at (Trees.binary op x y) n h =
          (keeps x n.0 h.0, keeps y n.1 h.1, computed op x y t.ty h.0 h.1 h.2 h.3, type_stays x ∙ h.3)
      keeps_node t at (Trees.compare op x y) n h = (
        keeps x n.0 h.0,
        keeps y n.1 h.1,
        comparison op x y h.0 h.1 h.2 h.3,
        type_stays y ∙ h.3 ∙ sym (type_stays x),
        h.4,
      )
      keeps_node t at (Trees.pointer_add op x y) n h =
          (keeps x n.0 h.0, keeps y n.1 h.1, move_stays op (d.complete at.at) count (less at.at) x y t.ty h.0 h.1 h.2)
      keeps_node t at (Trees.pointer_difference x y) n h = (
        keeps x n.0 h.0,
        keeps y n.1 h.1,
        bare_stays x h.2,
        bare_stays y h.3,
        rw (type_stays x, type_stays y) (differing_more (d.complete at.at) count (less at.at) (ty (typed x)) (ty (typed y)) h.4),
        h.5,
      )
      keeps_node t at (Trees.both x y) n h = (keeps x n.0 h.0, keeps y n.1 h.1, tested_stays x h.2, tested_stays y h.3, h.4)
      keeps_node t at (Trees.either x y) n h = (keeps x n.0 h.0, keeps y n.1 h.1, tested_stays x h.2, tested_stays y h.3, h.4)
      keeps_node t at (Trees.not x) n h = (keeps x n h.0, tested_stays x h.1, h.2)
      keeps_node t at (Trees.choose x y z) n h = (
        keeps x n.0 h.0,
        keeps y n.1 h.1,
        keeps z n.2 h.2,
        tested_stays x h.3,
        choice y z t.ty h.1 h.2 h.4 h.5 h.6,
        type_stays y ∙ h.5,
        type_stays z ∙ h.6,
      )
      keeps_node t at (Trees.comma x y) n h =
          (keeps x n.0 h.0, keeps y n.1 h.1, bare_stays x h.2, bare_stays y h.3, h.4 ∙ sym (type_stays y))
      keeps_node t at (Trees.assign p x) n h =
          (keeps_path p n.0 h.0, keeps x n.1 h.1, h.2, h.3 ∙ sym (path_type_stays p), converted_stays x t.ty h.1 h.4)
      keeps_node t at (Trees.assign_op op p x) n h =
          let i = updated_number (d.complete at.at) op t.ty (bare_ty (typed x)) (ty (typed x)) h.3 in (
            keeps_path p n.0 h.0,
            keeps x n.1 h.1,
            h.2 ∙ sym (path_type_stays p),
            rw (number_stays x h.1 i, type_stays x) (updating_more (d.complete at.at) count (less at.at) op t.ty (bare_ty (typed x)) (ty (typed x)) h.3),
          )
      keeps_node t at (Trees.step op before p) n h =
          (keeps_path p n h.0, h.1 ∙ sym (path_type_stays p), stepped_more (d.complete at.at) count (less at.at) t.ty h.2)
      keeps_node t at (Trees.copy_record to from) n h = (
        keeps_path to n.0 h.0,
        keeps_path from n.1 h.1,
        h.2,
        path_type_stays from ∙ h.3 ∙ sym (path_type_stays to),
        (h.4.0, path_type_stays to ∙ h.4.1),
      )
      keeps_node t at (Trees.call f all) n h = (h.0, h.1, keeps_all all n h.0 h.2)
      keeps_node t at (Trees.call_through e all) n h =
          (h.0, keeps e n.0 h.1, bare_stays e h.2, type_stays e ∙ h.3, keeps_all all n.1 h.0 h.4)
      keeps_node t at (Trees.library which all) n h = (h.0, h.1, keeps_all all n h.0 h.2)
      keeps_node t at (Trees.allocate r k zeroed) n h = absurd n.0

      keeps_all : (all : Trees.Expressions Noted) → AreNoted count ⊥ all → (parameters : CTypes) → AreArguments d parameters (typed_all all)
          → AreArguments D parameters (typed_all (recognised_all all))
      keeps_all Trees.no_expressions n no_types h = h
      keeps_all Trees.no_expressions n (and_type t more) h = absurd h
      keeps_all (Trees.and_expression e rest) n no_types h = absurd h
      keeps_all (Trees.and_expression e rest) n (and_type t more) h =
          (keeps e n.0 h.0, converted_stays e t h.0 h.1, keeps_all rest n.1 more h.2)

      pub keeps_path : (p : Path) → IsNotedPath count ⊥ p → IsTypedPath d (typed_path p) → IsTypedPath D (typed_path (recognised_path p))
      keeps_path (Trees.path t at step) n h = keeps_step t at step n h

      keeps_step : (t : Noted) (at : Place) (step : PathNode) → IsNotedStep count ⊥ step → IsTypedStep d t.ty at (typed_step step)
          → IsTypedStep D t.ty at (typed_step (recognised_step step))
      keeps_step t at (Trees.local k) n h = h
      keeps_step t at (Trees.object k) n h = h
      keeps_step t at (Trees.deref e) n h = (
        keeps e n h.0,
        bare_stays e h.1,
        rw (type_stays e) h.2,
        complete_stays (d.complete at.at) count t.ty (less at.at) h.3,
      )
      keeps_step t at (Trees.index e i) n h = (
        keeps e n.0 h.0,
        keeps i n.1 h.1,
        bare_stays e h.2,
        decay_stays e h.3,
        promoted_stays i h.1 h.4,
        rw (type_stays e) h.5,
        complete_stays (d.complete at.at) count t.ty (less at.at) h.6,
      )
      keeps_step t at (Trees.member p r field) n h = (keeps_path p n h.0, path_type_stays p ∙ h.1, h.2)
      keeps_step t at (Trees.element p i) n h =
          (keeps_path p n.0 h.0, keeps i n.1 h.1, promoted_stays i h.1 h.2, rw (path_type_stays p) h.3)
