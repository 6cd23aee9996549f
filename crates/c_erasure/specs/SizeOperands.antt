-- Which `sizeof`s are size operands of allocations: their places, that of an allocation before those in it (own).
use Rattle.std.specs.Prelude.{ℕ, if◌then◌else◌, List, [], ◌∷◌}
use Rattle.c_types.specs.Types.{CType, pointer, structure}
use Rattle.c_typed.specs.declared.operators.BinaryOp.TheVariants.{Multiply}
use Rattle.c_typed.specs.declared.operators.LibraryFunction.TheVariants.{Malloc, Calloc}
use Rattle.c_typed.specs.Gathered.{gathered_from_statement}
use Rattle.c_typed.specs.Trees as Trees
use Rattle.c_erasure.specs.Noted.{Noted, Note, nothing, size_of, Expression, Path, Node, PathNode, unconverted}
use Rattle.c_erasure.specs.Recognised.{is_constant_of, is_size}

-- ---- of one allocation: in `malloc(sizeof(T))`, `malloc(e * sizeof(T))`, `malloc(sizeof(T) * e)` and `calloc(e, sizeof(T))` that one

abbrev pub place_of_size : Note → List ℕ
place_of_size nothing = []
place_of_size (size_of t at) = at ∷ []

abbrev pub noted_place : Expression → List ℕ
noted_place (Trees.expression t at node) = place_of_size t.note

-- the size of one record with that number, and one that may be converted
abbrev pub constant_place : ℕ → Expression → List ℕ
constant_place r e = if is_constant_of r e then noted_place e else []

abbrev pub size_place : ℕ → Expression → List ℕ
size_place r e = constant_place r (unconverted e)

-- so many bytes: the right one of two sizes is the size
abbrev pub bytes_place : ℕ → Expression → List ℕ
bytes_place r (Trees.expression t at (Trees.binary Multiply x y)) = if is_size r y then size_place r y else size_place r x
bytes_place r e = constant_place r e

abbrev pub call_place : ℕ → Expression → List ℕ
call_place r (Trees.expression t at (Trees.library Malloc (Trees.and_expression x Trees.no_expressions))) = bytes_place r (unconverted x)
call_place r (Trees.expression t at (Trees.library Calloc (Trees.and_expression x (Trees.and_expression y Trees.no_expressions)))) = size_place r y
call_place r e = []

-- of a node of a type: an allocation is a call that is converted to a pointer to such records
abbrev pub size_operand : CType → Node → List ℕ
size_operand (pointer (structure r)) (Trees.convert e written) = call_place r e
size_operand t node = []

-- ---- of all

abbrev pub own_operand : Expression → List ℕ
own_operand (Trees.expression t at node) = size_operand t.ty node

abbrev pub operands_in_statement : Trees.Statement Noted → List ℕ
operands_in_statement = gathered_from_statement own_operand
