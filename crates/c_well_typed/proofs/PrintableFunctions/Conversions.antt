-- Conversions, null pointers and allocations that are recognised in an annotated tree are printable, with other numbers too (C99 6.3.2.3).
use Rattle.std.proofs.Common.{◌≡◌, ◌≢◌, ◌∙◌, ℕ, Bool, true, false, refl, cond, Some, None}
use Rattle.std.specs.Prelude.{Option}
use Rattle.lay_base.specs.declared.place.Place.{Place}
use Rattle.c_types.specs.declared.ty.IntKind.TheVariants.{UInt}
use Rattle.c_types.specs.Types.{CType, void, integer, pointer, structure}
use Rattle.c_types.specs.Sameness.{same_type}
use Rattle.c_numbers.specs.TypeNumbers.Renumbered.{renumbered}
use Rattle.c_typed.specs.declared.operators.BinaryOp.TheVariants.{Multiply}
use Rattle.c_typed.specs.declared.operators.LibraryFunction.TheVariants.{Malloc, Calloc}
use Rattle.c_typed.specs.Trees as Trees
use Rattle.c_typed.specs.Constants.{ty}
use Rattle.c_typed.specs.Conversions.{is_integer}
use Rattle.c_typed.specs.Mapped.{Renaming, mapped, mapped_node, mapped_if_any}
use Rattle.c_erasure.specs.Noted.{Noted, Note, nothing, size_of, Expression, Node, value, unless_noted, unconverted}
use Rattle.c_erasure.specs.Recognised.{as_unsigned, as_unsigned_from, counted, is_size, is_note_of, allocated, allocation, or_converted, is_null_constant}
use Rattle.c_erasure.specs.Recognised.{converted}
use Rattle.c_well_typed.proofs.RenumberedTypes.{integer_same}
use Rattle.c_well_typed.specs.Printable.Expressions.{is_void_null, IsAllocation, IsPrintable, IsPrintableNode, IsPrintableCount}

-- what stands in the program for an annotated tree: records, objects and functions have other numbers
abbrev pub renamed : (n object callee : ℕ → ℕ) → Renaming Noted CType
renamed n object callee = record { ty = λ t. renumbered n t.ty; object = object; function = callee; structure = n }

-- a null pointer has the type of one
abbrev pub HasPointerType : Expression → Type 0
HasPointerType (Trees.expression t at Trees.null) = is_integer t.ty ≡ false
HasPointerType e = Unit {0}

module _ (n object callee : ℕ → ℕ) where
  abbrev K : Renaming Noted CType
  K = renamed n object callee

  abbrev R : CType → CType
  R t = renumbered n t

  abbrev Is : Expression → Type 0
  Is e = IsPrintable (mapped K e)

  -- ---- operands without their conversions

  bare : (t : Noted) (note : Note) (at : Place) (e : Expression) → Is (Trees.expression t at (Trees.convert e false))
      → Is (unless_noted note e (Trees.expression t at (Trees.convert e false)))
  bare t nothing at e h = h.1
  bare t (size_of u by) at e h = h

  without : (e : Expression) → Is e → Is (unconverted e)
  without (Trees.expression t at (Trees.convert e false)) h = bare t t.note at e h
  without (Trees.expression t at (Trees.convert e true)) h = h
  without (Trees.expression t at node) h = h

  unsigned_from : (e : Expression) → Is e → Is (as_unsigned_from e)
  unsigned_from (Trees.expression t at node) h = by_type (same_type t.ty (integer UInt))
    where
      by_type : (b : Bool) → Is (cond b (Trees.expression t at node) (value (integer UInt) at (Trees.convert (Trees.expression t at node) false)))
      by_type true = h
      by_type false = (tt, h)

  unsigned : (e : Expression) → Is e → Is (as_unsigned e)
  unsigned e h = unsigned_from (unconverted e) (without e h)

  -- ---- how many records are allocated

  abbrev IsCount : Option (Trees.OptionalExpression Noted) → Type 0
  IsCount None = Unit {0}
  IsCount (Some count) = IsPrintableCount (mapped_if_any K count)

  count : (r : ℕ) (e : Expression) → Is e → IsCount (counted r e)
  count r (Trees.expression t at (Trees.constant v)) h = by_note (is_note_of r t.note)
    where
      by_note : (b : Bool) → IsCount (cond b (Some Trees.no_expression) None)
      by_note true = tt
      by_note false = tt
  count r (Trees.expression t at (Trees.binary Multiply x y)) h = by_sizes (is_size r y) (is_size r x)
    where
      by_sizes : (b c : Bool) → IsCount (cond b (Some (Trees.some_expression (as_unsigned x))) (cond c (Some (Trees.some_expression (as_unsigned y))) None))
      by_sizes true c = unsigned x h.0
      by_sizes false true = unsigned y h.1
      by_sizes false false = tt
  count r e h = tt

  abbrev IsAllocated : Option (Trees.OptionalExpression Noted × Bool) → Type 0
  IsAllocated None = Unit {0}
  IsAllocated (Some a) = IsAllocation (mapped_if_any K a.0) a.1 × IsPrintableCount (mapped_if_any K a.0)

  not_zeroed : (c : Option (Trees.OptionalExpression Noted)) → IsCount c → IsAllocated (allocated c false)
  not_zeroed None h = tt
  not_zeroed (Some c) h = (tt, h)

  is_some : (e : Trees.Expression CType) → Trees.some_expression e ≢ Trees.no_expression
  is_some e h = cc

  allocates : (r : ℕ) (e : Expression) → Is e → IsAllocated (allocation r e)
  allocates r (Trees.expression t at (Trees.library Malloc (Trees.and_expression x Trees.no_expressions))) h =
      not_zeroed (counted r (unconverted x)) (count r (unconverted x) (without x h.0))
  allocates r (Trees.expression t at (Trees.library Calloc (Trees.and_expression x (Trees.and_expression y Trees.no_expressions)))) h =
      by_size (is_size r y)
    where
      by_size : (b : Bool) → IsAllocated (cond b (Some (Trees.some_expression (as_unsigned x), true)) None)
      by_size true = (is_some (mapped K (as_unsigned x)), unsigned x h.0)
      by_size false = tt
  allocates r e h = tt

  -- ---- conversions to pointers

  no_number : (e : Expression) → HasPointerType e → is_null_constant e ≡ false → is_integer (ty (mapped K e)) ≡ false
  no_number (Trees.expression t at Trees.null) p h = integer_same n t.ty ∙ p
  no_number (Trees.expression t at node) p h = integer_same n t.ty ∙ h

  no_null_type : (t : CType) (at : Place) → same_type t (pointer void) ≡ false → is_void_null (Trees.expression (R t) at Trees.null) ≡ false
  no_null_type (pointer void) at h = cc
  no_null_type (pointer t) at h = refl
  no_null_type void at h = refl
  no_null_type t at h = refl

  abbrev IsNoNull : Trees.Node CType → Type 0
  IsNoNull Trees.null = ⊥
  IsNoNull node = Unit {0}

  no_null_node : (t : CType) (at : Place) (node : Trees.Node CType) → IsNoNull node → is_void_null (Trees.expression t at node) ≡ false
  no_null_node (pointer void) at Trees.null h = absurd h
  no_null_node (pointer void) at node h = refl
  no_null_node (pointer t) at node h = refl
  no_null_node t at node h = refl

  no_null : (e : Expression) → is_null_constant e ≡ false → is_void_null (mapped K e) ≡ false
  no_null (Trees.expression t at Trees.null) h = no_null_type t.ty at h
  no_null (Trees.expression t at node) h = no_null_node (R t.ty) at (mapped_node K node) tt

  -- what a conversion to that type becomes
  abbrev IsNode : CType → Node → Type 0
  IsNode t node = IsPrintableNode (R t) (mapped_node K node) × ((note : Note) (at : Place) → HasPointerType (Trees.expression (record { ty = t; note = note }) at node))

  to_pointer : (t : CType) (e : Expression) (written : Bool) → Is e → HasPointerType e → is_null_constant e ≡ false → IsNode (pointer t) (Trees.convert e written)
  to_pointer t e written h p z = (((no_number e p z, no_null e z), h), λ note at. tt)

  to_record : (r : ℕ) (a : Option (Trees.OptionalExpression Noted × Bool)) (e : Expression) (written : Bool) → Is e → HasPointerType e
      → is_null_constant e ≡ false → IsAllocated a → IsNode (pointer (structure r)) (or_converted r a e written)
  to_record r None e written h p z k = to_pointer (structure r) e written h p z
  to_record r (Some a) e written h p z k = (k, λ note at. tt)

  null_or : (t : CType) (b : Bool) (node : Node) → (b ≡ false → IsNode (pointer t) node) → IsNode (pointer t) (cond b Trees.null node)
  null_or t true node f = (tt, λ note at. refl)
  null_or t false node f = f refl

  pub conversion : (t : CType) (e : Expression) (written : Bool) → Is e → HasPointerType e → IsNode t (converted t e written)
  conversion (pointer (structure r)) e written h p =
      null_or (structure r) (is_null_constant e) (or_converted r (allocation r e) e written)
      (λ z. to_record r (allocation r e) e written h p z (allocates r e h))
  conversion (pointer t) e written h p = null_or t (is_null_constant e) (Trees.convert e written) (λ z. to_pointer t e written h p z)
  conversion void e written h p = ((tt, h), λ note at. tt)
  conversion t e written h p = ((tt, h), λ note at. tt)
