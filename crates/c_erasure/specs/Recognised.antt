-- The typed tree of the program from that of the checker: allocations of records are recognised, a converted zero is a null pointer, and
-- notes are left out.
use Rattle.std.specs.Prelude.{ℕ, Bool, true, false, if◌then◌else◌, Option, Some, None}
use Rattle.c_types.specs.declared.ty.IntKind.TheVariants.{UInt}
use Rattle.c_types.specs.Types.{CType, void, integer, pointer, structure}
use Rattle.c_types.specs.Sameness.{same_type}
use Rattle.c_typed.specs.declared.operators.BinaryOp.TheVariants.{Multiply}
use Rattle.c_typed.specs.declared.operators.LibraryFunction.TheVariants.{Malloc, Calloc}
use Rattle.c_typed.specs.Changed.{Change, changed, changed_all, changed_if_any, changed_parts, changed_path, changed_step}
use Rattle.c_typed.specs.Trees as Trees
use Rattle.c_typed.specs.Conversions.{is_integer}
use Rattle.c_erasure.specs.Noted.{Noted, Note, size_of, Expression, Path, Node, PathNode, value, type_of, unconverted}

-- ---- what is an allocation of records with that number: `malloc(sizeof(T))`, `malloc(e * sizeof(T))`, `malloc(sizeof(T) * e)` or
-- `calloc(e, sizeof(T))` (own)

abbrev pub is_note_of : ℕ → Note → Bool
is_note_of r (size_of t at) = same_type t (structure r)
is_note_of r note = false

abbrev pub is_constant_of : ℕ → Expression → Bool
is_constant_of r (Trees.expression t at (Trees.constant v)) = is_note_of r t.note
is_constant_of r e = false

-- the size of one record, converted or not
abbrev pub is_size : ℕ → Expression → Bool
is_size r e = is_constant_of r (unconverted e)

-- a value as an unsigned
abbrev pub as_unsigned_from : Expression → Expression
as_unsigned_from (Trees.expression t at node) =
    if same_type t.ty (integer UInt) then Trees.expression t at node
    else value (integer UInt) at (Trees.convert (Trees.expression t at node) false)

abbrev pub as_unsigned : Expression → Expression
as_unsigned e = as_unsigned_from (unconverted e)

-- how many records so many bytes are: the right one of two sizes is the size, and the left one the number
abbrev pub counted : ℕ → Expression → Option (Trees.OptionalExpression Noted)
counted r (Trees.expression t at (Trees.constant v)) = if is_note_of r t.note then Some Trees.no_expression else None
counted r (Trees.expression t at (Trees.binary Multiply x y)) =
    if is_size r y then Some (Trees.some_expression (as_unsigned x))
    else (if is_size r x then Some (Trees.some_expression (as_unsigned y)) else None)
counted r e = None

abbrev pub allocated : Option (Trees.OptionalExpression Noted) → Bool → Option (Trees.OptionalExpression Noted × Bool)
allocated None zeroed = None
allocated (Some count) zeroed = Some (count, zeroed)

-- how many records an expression allocates, and whether they are zero
abbrev pub allocation : ℕ → Expression → Option (Trees.OptionalExpression Noted × Bool)
allocation r (Trees.expression t at (Trees.library Malloc (Trees.and_expression x Trees.no_expressions))) = allocated (counted r (unconverted x)) false
allocation r (Trees.expression t at (Trees.library Calloc (Trees.and_expression x (Trees.and_expression y Trees.no_expressions)))) =
    if is_size r y then Some (Trees.some_expression (as_unsigned x), true) else None
allocation r e = None

-- ---- a conversion, written or not

abbrev pub or_converted : ℕ → Option (Trees.OptionalExpression Noted × Bool) → Expression → Bool → Node
or_converted r None e written = Trees.convert e written
or_converted r (Some a) e written = Trees.allocate r a.0 a.1

-- a null pointer constant: an integer that is converted to a pointer, or `(void *)0`
abbrev pub is_null_constant : Expression → Bool
is_null_constant (Trees.expression t at Trees.null) = same_type t.ty (pointer void)
is_null_constant e = is_integer (type_of e)

abbrev pub converted : CType → Expression → Bool → Node
converted (pointer (structure r)) e written = if is_null_constant e then Trees.null else or_converted r (allocation r e) e written
converted (pointer t) e written = if is_null_constant e then Trees.null else Trees.convert e written
converted t e written = Trees.convert e written

-- a node of a type, of which the parts are done
abbrev pub reconverted : CType → Node → Node
reconverted t (Trees.convert e written) = converted t e written
reconverted t node = node

-- ---- trees: each conversion in them

abbrev pub recognising : Change Noted Noted
recognising = record {
  expression = λ t at node. Trees.expression t at (reconverted t.ty node);
  path = λ t at step. Trees.path t at step;
}

abbrev pub recognised : Expression → Expression
recognised = changed recognising

abbrev pub recognised_node : Noted → Node → Node
recognised_node t node = reconverted t.ty (changed_parts recognising node)

abbrev pub recognised_path : Path → Path
recognised_path = changed_path recognising

abbrev pub recognised_step : PathNode → PathNode
recognised_step = changed_step recognising

abbrev pub recognised_all : Trees.Expressions Noted → Trees.Expressions Noted
recognised_all = changed_all recognising

abbrev pub recognised_optional : Trees.OptionalExpression Noted → Trees.OptionalExpression Noted
recognised_optional = changed_if_any recognising
