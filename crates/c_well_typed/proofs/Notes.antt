-- Notes stand at constants alone, and the type whose size one tells is complete where so many records are; before allocations are recognised
-- there are none.
use Rattle.std.proofs.Common.{◌≡◌, ℕ, Bool, true, false, refl, cond, Some, None}
use Rattle.std.specs.Prelude.{Option}
use Rattle.c_types.specs.declared.ty.IntKind.TheVariants.{UInt}
use Rattle.c_types.specs.Types.{CType, integer, pointer, structure}
use Rattle.c_types.specs.Objects.{is_object}
use Rattle.c_types.specs.Sameness.{same_type}
use Rattle.c_typed.specs.declared.operators.BinaryOp.TheVariants.{Multiply}
use Rattle.c_typed.specs.declared.operators.LibraryFunction.TheVariants.{Malloc, Calloc}
use Rattle.c_typed.specs.Trees as Trees
use Rattle.c_erasure.specs.Noted.{Noted, Note, nothing, size_of, Expression, Path, Node, PathNode, value, unconverted}
use Rattle.c_erasure.specs.Recognised.{as_unsigned, as_unsigned_from, counted, is_size, is_note_of, allocated, allocation, or_converted, is_null_constant}
use Rattle.c_erasure.specs.Recognised.{converted, recognised, recognised_node, recognised_path, recognised_step, recognised_all}

module _ (count : ℕ) (MayAllocate : Type 0) where
  -- the note of a constant
  abbrev pub IsSizeNote : Note → Type 0
  IsSizeNote nothing = Unit {0}
  IsSizeNote (size_of t at) = is_object count t ≡ true

  abbrev pub IsNote : Note → Node → Type 0
  IsNote note (Trees.constant v) = IsSizeNote note
  IsNote note node = note ≡ nothing

  abbrev mutual
    pub IsNoted : Expression → Type 0
    IsNoted (Trees.expression t at node) = IsNote t.note node × IsNotedNode node

    pub IsNotedNode : Node → Type 0
    IsNotedNode (Trees.constant v) = Unit {0}
    IsNotedNode Trees.null = Unit {0}
    IsNotedNode (Trees.function_name f) = Unit {0}
    IsNotedNode (Trees.load p) = IsNotedPath p
    IsNotedNode (Trees.address_of p) = IsNotedPath p
    IsNotedNode (Trees.decay p) = IsNotedPath p
    IsNotedNode (Trees.convert e written) = IsNoted e
    IsNotedNode (Trees.unary op x) = IsNoted x
    IsNotedNode (Trees.binary op x y) = IsNoted x × IsNoted y
    IsNotedNode (Trees.compare op x y) = IsNoted x × IsNoted y
    IsNotedNode (Trees.pointer_add op x y) = IsNoted x × IsNoted y
    IsNotedNode (Trees.pointer_difference x y) = IsNoted x × IsNoted y
    IsNotedNode (Trees.both x y) = IsNoted x × IsNoted y
    IsNotedNode (Trees.either x y) = IsNoted x × IsNoted y
    IsNotedNode (Trees.not x) = IsNoted x
    IsNotedNode (Trees.choose x y z) = IsNoted x × IsNoted y × IsNoted z
    IsNotedNode (Trees.comma x y) = IsNoted x × IsNoted y
    IsNotedNode (Trees.assign p x) = IsNotedPath p × IsNoted x
    IsNotedNode (Trees.assign_op op p x) = IsNotedPath p × IsNoted x
    IsNotedNode (Trees.step op before p) = IsNotedPath p
    IsNotedNode (Trees.copy_record to from) = IsNotedPath to × IsNotedPath from
    IsNotedNode (Trees.call f all) = AreNoted all
    IsNotedNode (Trees.call_through e all) = IsNoted e × AreNoted all
    IsNotedNode (Trees.library which all) = AreNoted all
    IsNotedNode (Trees.allocate r n zeroed) = MayAllocate × IsNotedCount n

    pub IsNotedPath : Path → Type 0
    IsNotedPath (Trees.path t at step) = IsNotedStep step

    pub IsNotedStep : PathNode → Type 0
    IsNotedStep (Trees.local n) = Unit {0}
    IsNotedStep (Trees.object n) = Unit {0}
    IsNotedStep (Trees.deref e) = IsNoted e
    IsNotedStep (Trees.index e i) = IsNoted e × IsNoted i
    IsNotedStep (Trees.member p r field) = IsNotedPath p
    IsNotedStep (Trees.element p i) = IsNotedPath p × IsNoted i

    pub AreNoted : Trees.Expressions Noted → Type 0
    AreNoted Trees.no_expressions = Unit {0}
    AreNoted (Trees.and_expression e more) = IsNoted e × AreNoted more

    pub IsNotedCount : Trees.OptionalExpression Noted → Type 0
    IsNotedCount Trees.no_expression = Unit {0}
    IsNotedCount (Trees.some_expression e) = IsNoted e

  -- ---- without the conversion at the top

  plain_bare : (t : CType) (note : Note) → note ≡ nothing → (at : Rattle.lay_base.specs.declared.place.Place.Place) (e : Expression)
      → IsNoted e → IsNoted (unconverted (Trees.expression (record { ty = t; note = note }) at (Trees.convert e false)))
  plain_bare t nothing p at e h = h
  plain_bare t (size_of u by) p at e h = cc

  pub bare_noted : (e : Expression) → IsNoted e → IsNoted (unconverted e)
  bare_noted (Trees.expression t at (Trees.convert e false)) h = plain_bare t.ty t.note h.0 at e h.1
  bare_noted (Trees.expression t at (Trees.convert e true)) h = h
  bare_noted (Trees.expression t at node) h = h

  -- and with it
  converted_noted : (t : CType) (note : Note) (at : Rattle.lay_base.specs.declared.place.Place.Place) (e : Expression)
      → IsNoted (unconverted (Trees.expression (record { ty = t; note = note }) at (Trees.convert e false)))
      → IsNoted (Trees.expression (record { ty = t; note = note }) at (Trees.convert e false))
  converted_noted t nothing at e h = (refl, h)
  converted_noted t (size_of u by) at e h = h

  pub whole_noted : (e : Expression) → IsNoted (unconverted e) → IsNoted e
  whole_noted (Trees.expression t at (Trees.convert e false)) h = converted_noted t.ty t.note at e h
  whole_noted (Trees.expression t at (Trees.convert e true)) h = h
  whole_noted (Trees.expression t at node) h = h

-- ---- where allocations are recognised

module _ (count : ℕ) where
  abbrev IsNotedAfter : Expression → Type 0
  IsNotedAfter = IsNoted count (Unit {0})

  abbrev IsNotedBefore : Expression → Type 0
  IsNotedBefore = IsNoted count ⊥

  unsigned_from_noted : (e : Expression) → IsNotedAfter e → IsNotedAfter (as_unsigned_from e)
  unsigned_from_noted (Trees.expression t at node) h = by_type (same_type t.ty (integer UInt))
    where
      by_type : (b : Bool) → IsNotedAfter (cond b (Trees.expression t at node) (value (integer UInt) at (Trees.convert (Trees.expression t at node) false)))
      by_type true = h
      by_type false = (refl, h)

  unsigned_noted : (e : Expression) → IsNotedAfter e → IsNotedAfter (as_unsigned e)
  unsigned_noted e h = unsigned_from_noted (unconverted e) (bare_noted count (Unit {0}) e h)

  abbrev CountIsNoted : Option (Trees.OptionalExpression Noted) → Type 0
  CountIsNoted None = Unit {0}
  CountIsNoted (Some n) = IsNotedCount count (Unit {0}) n

  counted_noted : (r : ℕ) (e : Expression) → IsNotedAfter e → CountIsNoted (counted r e)
  counted_noted r (Trees.expression t at (Trees.constant v)) h = by_note (is_note_of r t.note)
    where
      by_note : (b : Bool) → CountIsNoted (cond b (Some Trees.no_expression) None)
      by_note true = tt
      by_note false = tt
  counted_noted r (Trees.expression t at (Trees.binary Multiply x y)) h = by_sizes (is_size r y) (is_size r x)
    where
      by_sizes : (b c : Bool) → CountIsNoted (cond b (Some (Trees.some_expression (as_unsigned x))) (cond c (Some (Trees.some_expression (as_unsigned y))) None))
      by_sizes true c = unsigned_noted x h.1.0
      by_sizes false true = unsigned_noted y h.1.1
      by_sizes false false = tt
  counted_noted r e h = tt

  abbrev AllocationIsNoted : Option (Trees.OptionalExpression Noted × Bool) → Type 0
  AllocationIsNoted None = Unit {0}
  AllocationIsNoted (Some a) = IsNotedCount count (Unit {0}) a.0

  allocated_noted : (n : Option (Trees.OptionalExpression Noted)) (zeroed : Bool) → CountIsNoted n → AllocationIsNoted (allocated n zeroed)
  allocated_noted None zeroed h = tt
  allocated_noted (Some n) zeroed h = h

  allocation_noted : (r : ℕ) (e : Expression) → IsNotedAfter e → AllocationIsNoted (allocation r e)
  allocation_noted r (Trees.expression t at (Trees.library Malloc (Trees.and_expression x Trees.no_expressions))) h =
      allocated_noted (counted r (unconverted x)) false (counted_noted r (unconverted x) (bare_noted count (Unit {0}) x h.1.0))
  allocation_noted r (Trees.expression t at (Trees.library Calloc (Trees.and_expression x (Trees.and_expression y Trees.no_expressions)))) h =
      by_size (is_size r y)
    where
      by_size : (b : Bool) → AllocationIsNoted (cond b (Some (Trees.some_expression (as_unsigned x), true)) None)
      by_size true = unsigned_noted x h.1.0
      by_size false = tt
  allocation_noted r e h = tt

  -- a conversion that is a null pointer, an allocation, or as it was
  abbrev IsPlainNode : Node → Type 0
  IsPlainNode node = ((note : Note) → note ≡ nothing → IsNote count (Unit {0}) note node) × IsNotedNode count (Unit {0}) node

  or_converted_noted : (r : ℕ) (a : Option (Trees.OptionalExpression Noted × Bool)) (e : Expression) (written : Bool) → IsNotedAfter e → AllocationIsNoted a
      → IsPlainNode (or_converted r a e written)
  or_converted_noted r None e written h a = (λ note p. p, h)
  or_converted_noted r (Some a) e written h k = (λ note p. p, (tt, k))

  null_or : (b : Bool) (node : Node) → IsPlainNode node → IsPlainNode (cond b Trees.null node)
  null_or true node h = (λ note p. p, tt)
  null_or false node h = h

  converted_node_noted : (t : CType) (e : Expression) (written : Bool) → IsNotedAfter e → IsPlainNode (converted t e written)
  converted_node_noted (pointer (structure r)) e written h =
      null_or (is_null_constant e) (or_converted r (allocation r e) e written) (or_converted_noted r (allocation r e) e written h (allocation_noted r e h))
  converted_node_noted (pointer t) e written h = null_or (is_null_constant e) (Trees.convert e written) (λ note p. p, h)
  converted_node_noted t e written h = (λ note p. p, h)

  of_node : (t : Noted) (node : Node) → t.note ≡ nothing → IsPlainNode node → IsNote count (Unit {0}) t.note node × IsNotedNode count (Unit {0}) node
  of_node t node p h = (h.0 t.note p, h.1)

  mutual
    pub recognised_noted : (e : Expression) → IsNotedBefore e → IsNotedAfter (recognised e)
    recognised_noted (Trees.expression t at node) h = node_noted t node h

    node_noted : (t : Noted) (node : Node) → IsNote count ⊥ t.note node × IsNotedNode count ⊥ node
        → IsNote count (Unit {0}) t.note (recognised_node t node) × IsNotedNode count (Unit {0}) (recognised_node t node)
    node_noted t (Trees.constant v) h = h
    node_noted t Trees.null h = h
    node_noted t (Trees.function_name f) h = h
    node_noted t (Trees.load p) h = (h.0, path_noted p h.1)
    node_noted t (Trees.address_of p) h = (h.0, path_noted p h.1)
    node_noted t (Trees.decay p) h = (h.0, path_noted p h.1)
    node_noted t (Trees.convert e written) h =
        of_node t (converted t.ty (recognised e) written) h.0 (converted_node_noted t.ty (recognised e) written (recognised_noted e h.1))
    node_noted t (Trees.unary op x) h = (h.0, recognised_noted x h.1)
    node_noted t (Trees.binary op x y) h = (h.0, (recognised_noted x h.1.0, recognised_noted y h.1.1))
    node_noted t (Trees.compare op x y) h = (h.0, (recognised_noted x h.1.0, recognised_noted y h.1.1))
    node_noted t (Trees.pointer_add op x y) h = (h.0, (recognised_noted x h.1.0, recognised_noted y h.1.1))
    node_noted t (Trees.pointer_difference x y) h = (h.0, (recognised_noted x h.1.0, recognised_noted y h.1.1))
    node_noted t (Trees.both x y) h = (h.0, (recognised_noted x h.1.0, recognised_noted y h.1.1))
    node_noted t (Trees.either x y) h = (h.0, (recognised_noted x h.1.0, recognised_noted y h.1.1))
    node_noted t (Trees.not x) h = (h.0, recognised_noted x h.1)
    node_noted t (Trees.choose x y z) h = (h.0, (recognised_noted x h.1.0, recognised_noted y h.1.1, recognised_noted z h.1.2))
    node_noted t (Trees.comma x y) h = (h.0, (recognised_noted x h.1.0, recognised_noted y h.1.1))
    node_noted t (Trees.assign p x) h = (h.0, (path_noted p h.1.0, recognised_noted x h.1.1))
    node_noted t (Trees.assign_op op p x) h = (h.0, (path_noted p h.1.0, recognised_noted x h.1.1))
    node_noted t (Trees.step op before p) h = (h.0, path_noted p h.1)
    node_noted t (Trees.copy_record to from) h = (h.0, (path_noted to h.1.0, path_noted from h.1.1))
    node_noted t (Trees.call f all) h = (h.0, all_noted all h.1)
    node_noted t (Trees.call_through e all) h = (h.0, (recognised_noted e h.1.0, all_noted all h.1.1))
    node_noted t (Trees.library which all) h = (h.0, all_noted all h.1)
    node_noted t (Trees.allocate r n zeroed) h = absurd h.1.0

    path_noted : (p : Path) → IsNotedPath count ⊥ p → IsNotedPath count (Unit {0}) (recognised_path p)
    path_noted (Trees.path t at step) h = step_noted step h

    step_noted : (step : PathNode) → IsNotedStep count ⊥ step → IsNotedStep count (Unit {0}) (recognised_step step)
    step_noted (Trees.local n) h = h
    step_noted (Trees.object n) h = h
    step_noted (Trees.deref e) h = recognised_noted e h
    step_noted (Trees.index e i) h = (recognised_noted e h.0, recognised_noted i h.1)
    step_noted (Trees.member p r field) h = path_noted p h
    step_noted (Trees.element p i) h = (path_noted p h.0, recognised_noted i h.1)

    all_noted : (all : Trees.Expressions Noted) → AreNoted count ⊥ all → AreNoted count (Unit {0}) (recognised_all all)
    all_noted Trees.no_expressions h = h
    all_noted (Trees.and_expression e more) h = (recognised_noted e h.0, all_noted more h.1)
