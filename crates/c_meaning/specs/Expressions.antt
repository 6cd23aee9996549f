-- What an expression does, and its value (C99 6.5). Evaluation goes from left to right (own).
use Rattle.std.specs.Prelude.{ℕ, not, Bool, true, false, nat_lt, if◌then◌else◌, ℤ, pos, negsuc, ◌+ℤ◌, ◌*ℤ◌, List, [], ◌∷◌, Option}
use Rattle.std.specs.Prelude.{Some, None, Ok, Err, slice_get}
use Rattle.lay_base.specs.declared.faults.UndefinedKind.TheVariants as K
use Rattle.lay_base.specs.declared.place.Place.{Place}
use Rattle.c_types.specs.declared.ty.IntKind.{IntKind}
use Rattle.c_types.specs.Layouts.{offset_of}
use Rattle.c_types.specs.Sameness.{same_type}
use Rattle.c_types.specs.Types.{CType, void, pointer as pointer_to}
use Rattle.c_typed.specs.declared.operators.PointerOp.TheVariants.{Add}
use Rattle.c_typed.specs.Trees as T
use Rattle.c_typed.specs.Trees.{Expression, expression, Node, Path, path, PathNode, Expressions, OptionalExpression}
use Rattle.c_typed.specs.Constants.{ty, kind_of}
use Rattle.c_typed.specs.Conversions.{is_pointer, number_of}
use Rattle.c_typed.specs.Programs.{ProgramData, FunctionData}
pub use Rattle.c_typed.specs.Subscripts.{is_subscript}
use Rattle.c_typed.specs.Typed.{at_of, path_ty}
use Rattle.memory_words.specs.declared.cell_words.pointer.Ptr.{Ptr}
use Rattle.memory_words.specs.declared.cell_words.pointer.Ptr.TheVariants as P
use Rattle.block_memory.specs.Blocks.{Memory, is_live, size}
use Rattle.block_memory.specs.Pointers.{stepped}
use Rattle.block_memory.specs.Tested.{Tested}
use Rattle.block_memory.specs.RunWorlds.Doing.{Doing, ◌>>=◌, ◌>>◌, pure, is_undefined, tested, memory_now}
use Rattle.block_memory.specs.RunWorlds.Events.{reached}
use Rattle.block_memory.specs.RunWorlds.Scalars.{as_word, pointer_of, note_in}
use Rattle.block_memory.specs.declared.run_worlds.value.Value.{Value}
use Rattle.block_memory.specs.declared.run_worlds.value.Value.TheVariants.{Word as word, Pointer as pointer}
use Rattle.block_memory.specs.RunWorlds.LibraryCalls.{the, given, library, allocated, assign_record}
use Rattle.block_memory.specs.RunWorlds.Operators.{converted, is_true, flag, unary, binary, moved, moved_from, distance, compared, updated, next}
use Rattle.c_meaning.specs.Frames.{Frame, local_spot, fetch, put}
use Rattle.c_meaning.specs.declared.frame.Spot.{Spot}
use Rattle.c_meaning.specs.declared.frame.Spot.TheVariants.{Kept as kept, Placed as placed}
use Rattle.c_meaning.specs.Program.{type_at, size_at, element_size, length_of}

-- ---- parts

-- the value of a call that ended without one is used (6.9.1)
abbrev pub or_no_value : Place → Option Value → Doing Frame Value
or_no_value place None = is_undefined K.NoValue place
or_no_value place (Some v) = pure v

-- a field or an element so many bytes on: where a sum would point (6.5.6), but that null has none (own)
abbrev pub part_in : Memory → Ptr → (by : ℤ) → Tested Ptr
part_in m P.Null by = Err K.Null
part_in m q by = stepped m q by

-- of what a path leads to; a local that is kept by its name has none
abbrev pub part_of : Place → (by : ℤ) → Spot → Doing Frame Spot
part_of place by (placed q) = do
  m ← memory_now
  r ← tested place (part_in m q by)
  pure (placed r)
part_of place by (kept x) = is_undefined K.Dead place

abbrev pub element_of : Place → (length size : ℕ) → (addressed : Bool) → Spot → ℤ → Doing Frame Spot
element_of place n size addressed s i = if is_subscript n addressed i then part_of place (i *ℤ pos size) s else is_undefined K.Subscript place

-- the way to a field through a pointer is an access: its first byte lies in a live block (own)
abbrev pub inside : Memory → (b : ℕ) → ℤ → Tested Ptr
inside m b (negsuc n) = Err K.Outside
inside m b (pos at) = if nat_lt at (size m b) then Ok (P.Block b at) else Err K.Outside

abbrev pub field_in : Memory → Ptr → (by : ℤ) → Tested Ptr
field_in m P.Null by = Err K.Null
field_in m (P.Function f) by = Err K.Dead
field_in m (P.Block b at) by = if is_live m b then inside m b (pos at +ℤ by) else Err K.Dead

abbrev pub field_through : Place → Ptr → (by : ℤ) → Doing Frame Spot
field_through place q by = do
  m ← memory_now
  r ← tested place (field_in m q by)
  a ← note_in m r (λ b at. reached b at)
  pure (placed r)

-- where an object lies whose address is taken or that becomes a pointer
abbrev pub address_of : Place → Spot → Doing Frame Ptr
address_of place (placed q) = pure q
address_of place (kept x) = is_undefined K.Dead place

-- a whole record is assigned
abbrev pub copy_record : Place → (size : ℕ) → (to from : Spot) → Doing Frame (Unit {0})
copy_record place size (placed q) (placed r) = assign_record place size q r
copy_record place size to from = is_undefined K.Dead place

-- the kind of the number that is added to a pointer: it stands on the right of a pointer, or else on the left
abbrev pub count_kind : (left right : CType) → IntKind
count_kind left right = kind_of (if is_pointer left then right else left)

-- ---- with the program, and what a call of a function does

module _ (p : ProgramData) (call : Place → (f : ℕ) → List Value → Doing Frame (Option Value)) where
  -- a call through a pointer to a function of that type (6.5.2.2)
  abbrev pub by_type : Place → CType → (f : ℕ) → List Value → Option FunctionData → Doing Frame (Option Value)
  by_type place t f all None = is_undefined K.Call place
  by_type place t f all (Some g) = if same_type t (pointer_to (type_at p g.ty)) then call place f all else is_undefined K.Call place

  abbrev pub through : Place → CType → Ptr → List Value → Doing Frame (Option Value)
  through place t (P.Function f) all = by_type place t f all (slice_get p.functions f)
  through place t q all = is_undefined K.Call place

  -- converted to a type; to `void` it has no value
  abbrev pub as_type : CType → Place → Option Value → Doing Frame (Option Value)
  as_type void place v = pure None
  as_type t place v = or_no_value place v >>= λ v. given (tested place (converted t v))

  abbrev mutual
    pub value : Expression ℕ → Doing Frame (Option Value)
    value (expression t at node) = value_of t at node

    -- the value, which is used
    pub used : Expression ℕ → Doing Frame Value
    used (expression t at node) = value_of t at node >>= or_no_value at

    pub value_of : (t : ℕ) → Place → Node ℕ → Doing Frame (Option Value)
    value_of t at (T.constant v) = pure (Some (word v))
    value_of t at T.null = pure (Some (pointer P.Null))
    value_of t at (T.function_name f) = pure (Some (pointer (P.Function f)))
    value_of t at (T.load q) = do
      s ← spot false q
      v ← fetch p at s t
      pure (Some v)
    -- `&*e` is e (6.5.3.2), and so is an array `*e` that becomes a pointer
    value_of t at (T.address_of (path u b (T.deref e))) = value e
    value_of t at (T.decay (path u b (T.deref e))) = value e
    value_of t at (T.address_of q) = spot true q >>= λ s. the (address_of at s) pointer
    value_of t at (T.decay q) = spot false q >>= λ s. the (address_of at s) pointer
    value_of t at (T.convert e written) = value e >>= as_type (type_at p t) (at_of e)
    value_of t at (T.unary op x) = used x >>= λ v. given (tested at (unary op v))
    value_of t at (T.binary op x y) = do
      v ← used x
      w ← used y
      given (tested at (binary op (kind_of (type_at p t)) v (kind_of (type_at p (ty y))) w))
    value_of t at (T.compare op x y) = do
      v ← used x
      w ← used y
      m ← memory_now
      given (tested at (compared op m (kind_of (type_at p (ty x))) v w))
    value_of t at (T.pointer_add op x y) = do
      v ← used x
      w ← used y
      m ← memory_now
      given (tested at (moved_from (is_pointer (type_at p (ty x))) m op (element_size p (type_at p t)) (count_kind (type_at p (ty x)) (type_at p (ty y))) v w))
    value_of t at (T.pointer_difference x y) = do
      v ← used x
      w ← used y
      given (tested at (distance (element_size p (type_at p (ty x))) v w))
    value_of t at (T.both x y) = used x >>= λ v. if is_true v then the (used y) (λ w. flag (is_true w)) else pure (Some (flag false))
    value_of t at (T.either x y) = used x >>= λ v. if is_true v then pure (Some (flag true)) else the (used y) (λ w. flag (is_true w))
    value_of t at (T.not x) = the (used x) (λ v. flag (not (is_true v)))
    value_of t at (T.choose x y z) = used x >>= λ v. if is_true v then value y else value z
    value_of t at (T.comma x y) = value x >> value y
    value_of t at (T.assign q x) = do
      s ← spot false q
      v ← used x
      a ← put p at s t v
      pure (Some v)
    -- the left side is loaded once the right operand is evaluated
    value_of t at (T.assign_op op q x) = do
      s ← spot false q
      w ← used x
      v ← fetch p at s t
      m ← memory_now
      new ← tested at (updated m op (element_size p (type_at p t)) (type_at p t) v (type_at p (ty x)) w)
      a ← put p at s t new
      pure (Some new)
    value_of t at (T.step op before q) = do
      s ← spot false q
      v ← fetch p at s t
      m ← memory_now
      new ← tested at (next m op (element_size p (type_at p t)) (type_at p t) v)
      a ← put p at s t new
      pure (Some (if before then new else v))
    value_of t at (T.copy_record to from) = do
      s ← spot false to
      r ← spot false from
      a ← copy_record at (size_at p (path_ty to)) s r
      pure None
    value_of t at (T.call f all) = arguments all >>= λ vs. call at f vs
    value_of t at (T.call_through e all) = do
      v ← used e
      vs ← arguments all
      through at (type_at p (ty e)) (pointer_of v) vs
    value_of t at (T.library which all) = arguments all >>= λ vs. library at which vs
    value_of t at (T.allocate r count zeroed) = do
      v ← how_many count
      given (allocated at r (element_size p (type_at p t)) v zeroed)

    pub how_many : OptionalExpression ℕ → Doing Frame Value
    how_many T.no_expression = pure (word 1)
    how_many (T.some_expression e) = used e

    pub arguments : Expressions ℕ → Doing Frame (List Value)
    arguments T.no_expressions = pure []
    arguments (T.and_expression e more) = do
      v ← used e
      vs ← arguments more
      pure (v ∷ vs)

    -- where a path leads; it may be the operand of `&`
    pub spot : (addressed : Bool) → Path ℕ → Doing Frame Spot
    spot addressed (path t at step) = spot_of t addressed at step

    pub spot_of : (t : ℕ) → (addressed : Bool) → Place → PathNode ℕ → Doing Frame Spot
    spot_of t addressed at (T.local x) = local_spot at x
    spot_of t addressed at (T.object n) = pure (placed (P.Block n 0))
    spot_of t addressed at (T.deref e) = used e >>= λ v. pure (placed (pointer_of v))
    -- e[i] on a pointer is *(e + i) (6.5.2.1)
    spot_of t addressed at (T.index e i) = do
      v ← used e
      w ← used i
      m ← memory_now
      q ← tested at (moved m Add (size_at p t) (kind_of (type_at p (ty i))) v w)
      pure (placed (pointer_of q))
    spot_of t addressed at (T.member (path u b (T.deref e)) r field) = used e >>= λ v. field_through at (pointer_of v) (pos (offset_of p.records r field))
    spot_of t addressed at (T.member (path u b (T.index e i)) r field) = do
      v ← used e
      w ← used i
      n ← tested at (as_word w)
      field_through at (pointer_of v) (number_of (kind_of (type_at p (ty i))) n *ℤ pos (size_at p u) +ℤ pos (offset_of p.records r field))
    spot_of t addressed at (T.member q r field) = spot false q >>= part_of at (pos (offset_of p.records r field))
    spot_of t addressed at (T.element q i) = do
      s ← spot false q
      v ← used i
      n ← tested at (as_word v)
      element_of at (length_of (type_at p (path_ty q))) (size_at p t) addressed s (number_of (kind_of (type_at p (ty i))) n)
