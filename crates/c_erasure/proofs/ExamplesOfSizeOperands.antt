-- In `struct S {int x; int y;}; void f(void) {struct S *p = malloc(sizeof(struct S)); struct S *r = sizeof(struct S) - 8;}` the first `sizeof` is the
-- size operand of an allocation. The second stands in a null pointer constant, and is a mention of the structure's size.
use Rattle.std.proofs.Common.{refl}
use Rattle.std.specs.Prelude.{◌≡◌, ℕ, [], ◌∷◌, Some, false, true, codes}
use Rattle.c_types.specs.declared.ty.IntKind.TheVariants.{UInt}
use Rattle.c_types.specs.Types.{CType, void, integer, pointer, structure, function, no_types, Field, Record}
use Rattle.c_typed.specs.declared.operators.BinaryOp.TheVariants.{Subtract}
use Rattle.c_typed.specs.declared.operators.LibraryFunction.TheVariants.{Malloc}
use Rattle.c_typed.specs.declared.program.MentionKind.TheVariants.{Sizeof}
use Rattle.c_typed.specs.Trees as Typed
use Rattle.c_erasure.specs.Noted.{Noted, Expression, size_of, value}
use Rattle.c_erasure.specs.Scopes.{AFunction, FileScope}
use Rattle.c_erasure.specs.Units.{mentions, size_operands}
use Rattle.c_erasure.proofs.ExampleParts.{place, int, mention, number}

abbrev field : ℕ → Field
field at = record { name = []; ty = int; place = place at }

abbrev the_record : Record
the_record = record { tag = codes "S"; place = place 0; fields = field 14 ∷ field 21 ∷ [] }

abbrev to_record : CType
to_record = pointer (structure 0)

-- `sizeof(struct S)` at a place
abbrev the_size : ℕ → Expression
the_size at = Typed.expression (record { ty = integer UInt; note = size_of (structure 0) at }) (place at) (Typed.constant 8)

abbrev allocated : Expression
allocated = value (pointer void) (place 54) (Typed.library Malloc (Typed.and_expression (the_size 61) Typed.no_expressions))

abbrev eight : Expression
eight = value (integer UInt) (place 113) (Typed.convert (number 113 8) false)

abbrev zero : Expression
zero = value (integer UInt) (place 94) (Typed.binary Subtract (the_size 94) eight)

-- the declaration of a local by its number, with a value that is converted to its type
abbrev declared : (n at : ℕ) → Expression → Typed.Statement Noted
declared n at e = Typed.declare n (Some (Typed.whole (value to_record (place at) (Typed.convert e false))))

abbrev the_body : Typed.Statement Noted
the_body = Typed.block (0 ∷ 1 ∷ [])
    (Typed.and_statement (declared 0 54 allocated) (Typed.and_statement (declared 1 94 zero) Typed.no_statements))

abbrev the_function : AFunction
the_function = record {
  name = codes "f";
  place = place 31;
  first = 31;
  ty = function void no_types;
  is_linked = true;
  parameters = [];
  locals = record { name = codes "p"; ty = to_record } ∷ record { name = codes "r"; ty = to_record } ∷ [];
  body = Some the_body;
  nodes = 1;
}

abbrev file : FileScope
file = record {
  file = 0;
  names = [];
  tags = [];
  records = the_record ∷ [];
  ends = 27 ∷ [];
  numbered = codes "S" ∷ [];
  objects = [];
  functions = the_function ∷ [];
  mentions = mention Sizeof (structure 0) 61 ∷ mention Sizeof (structure 0) 94 ∷ [];
  untagged = λ at. [];
}

used : size_operands file ≡ 61 ∷ []
used = refl

left : mentions file ≡ mention Sizeof (structure 0) 94 ∷ []
left = refl
