-- Small programs, built by hand.
use Rattle.std.specs.Prelude.{ℕ, Bool, true, false, List, [], ◌∷◌, Option, Some, None, codes}
use Rattle.lay_base.specs.declared.place.Place.{Place}
use Rattle.c_types.specs.declared.ty.IntKind.TheVariants as I
use Rattle.c_types.specs.Types.{CType, void, integer, pointer, array, function, structure, no_types, and_type, Record}
use Rattle.c_typed.specs.declared.operators.BinaryOp.{BinaryOp}
use Rattle.c_typed.specs.declared.operators.CompareOp.{CompareOp}
use Rattle.c_typed.specs.declared.operators.LibraryFunction.{LibraryFunction}
use Rattle.c_typed.specs.declared.operators.LibraryFunction.TheVariants as L
use Rattle.c_typed.specs.declared.program.Local.{Local}
use Rattle.c_typed.specs.declared.program.Object.{Object}
use Rattle.c_typed.specs.Trees as T
use Rattle.c_typed.specs.Trees.{Expression, expression, Node, Path, path, PathNode, Expressions, Initializer, Statement, Statements, Arms}
use Rattle.c_typed.specs.Programs.{ProgramData, FunctionData}

-- ---- types by their numbers

abbrev pub int : ℕ
int = 0

abbrev pub unsigned : ℕ
unsigned = 1

abbrev pub char : ℕ
char = 2

abbrev pub to_int : ℕ
to_int = 3

abbrev pub to_char : ℕ
to_char = 4

abbrev pub to_void : ℕ
to_void = 5

abbrev pub nothing : ℕ
nothing = 6

abbrev pub of_nothing : ℕ
of_nothing = 7

abbrev pub to_function : ℕ
to_function = 8

abbrev pub two_ints : ℕ
two_ints = 9

abbrev pub a_record : ℕ
a_record = 10

abbrev pub to_record : ℕ
to_record = 11

abbrev pub to_pointer : ℕ
to_pointer = 12

abbrev pub of_int : ℕ
of_int = 13

abbrev pub to_char_pointer : ℕ
to_char_pointer = 14

abbrev pub to_two_ints : ℕ
to_two_ints = 15

abbrev pub two_records : ℕ
two_records = 16

abbrev pub to_two_records : ℕ
to_two_records = 17

abbrev pub int_type : CType
int_type = integer I.Int

abbrev pub types : List CType
types = int_type ∷ integer I.UInt ∷ integer I.Char ∷ pointer int_type ∷ pointer (integer I.Char) ∷ pointer void ∷ void ∷ function int_type no_types ∷
    pointer (function int_type no_types) ∷ array int_type 2 ∷ structure 0 ∷ pointer (structure 0) ∷ pointer (pointer int_type) ∷
    function int_type (and_type int_type no_types) ∷ pointer (pointer (integer I.Char)) ∷
    pointer (array int_type 2) ∷ array (structure 0) 2 ∷ pointer (array (structure 0) 2) ∷ []

-- struct S { int x; int y; };
abbrev pub records : List Record
records = record {
  tag = codes "S";
  place = record { file = 0; at = 0 };
  fields = record { name = codes "x"; ty = int_type; place = record { file = 0; at = 0 } } ∷
      record { name = codes "y"; ty = int_type; place = record { file = 0; at = 0 } } ∷ [];
} ∷ []

-- ---- expressions; all stand at one place, but for those that are given another one

abbrev pub here : Place
here = record { file = 0; at = 1 }

abbrev pub there : ℕ → Place
there at = record { file = 0; at = at }

abbrev pub of : (type : ℕ) → Node ℕ → Expression ℕ
of t node = expression t here node

abbrev pub of_at : (at type : ℕ) → Node ℕ → Expression ℕ
of_at at t node = expression t (there at) node

abbrev pub number : ℕ → Expression ℕ
number v = of int (T.constant v)

abbrev pub local : (type x : ℕ) → Path ℕ
local t x = path t here (T.local x)

abbrev pub get : (type x : ℕ) → Expression ℕ
get t x = of t (T.load (local t x))

abbrev pub load : (type : ℕ) → Path ℕ → Expression ℕ
load t q = of t (T.load q)

abbrev pub deref : (type : ℕ) → Expression ℕ → Path ℕ
deref t e = path t here (T.deref e)

abbrev pub element : Path ℕ → Expression ℕ → Path ℕ
element q i = path int here (T.element q i)

abbrev pub set : Path ℕ → (type : ℕ) → Expression ℕ → Expression ℕ
set q t e = of t (T.assign q e)

abbrev pub binary : BinaryOp → Expression ℕ → Expression ℕ → Expression ℕ
binary op a b = of int (T.binary op a b)

abbrev pub compare : CompareOp → Expression ℕ → Expression ℕ → Expression ℕ
compare op a b = of int (T.compare op a b)

abbrev pub cast : (type : ℕ) → Expression ℕ → Expression ℕ
cast t e = of t (T.convert e true)

abbrev pub arguments : List (Expression ℕ) → Expressions ℕ
arguments [] = T.no_expressions
arguments (e ∷ more) = T.and_expression e (arguments more)

abbrev pub library : (type : ℕ) → LibraryFunction → List (Expression ℕ) → Expression ℕ
library t which all = of t (T.library which (arguments all))

abbrev pub call : (f : ℕ) → List (Expression ℕ) → Expression ℕ
call f all = of int (T.call f (arguments all))

abbrev pub malloc : (type size : ℕ) → Expression ℕ
malloc t size = cast t (library to_void L.Malloc (of unsigned (T.constant size) ∷ []))

abbrev pub putchar : Expression ℕ → Expression ℕ
putchar e = library int L.Putchar (e ∷ [])

-- ---- statements

abbrev pub does : Expression ℕ → Statement ℕ
does e = T.evaluate e

abbrev pub gives : Expression ℕ → Statement ℕ
gives e = T.return (Some e)

abbrev pub all : List (Statement ℕ) → Statements ℕ
all [] = T.no_statements
all (s ∷ more) = T.and_statement s (all more)

abbrev pub declares : (x : ℕ) → Statement ℕ
declares x = T.declare x None

abbrev pub declares_as : (x : ℕ) → Expression ℕ → Statement ℕ
declares_as x e = T.declare x (Some (T.whole e))

-- ---- programs

abbrev pub named : (type : ℕ) → Local
named t = record { name = []; ty = t; block = false }

abbrev pub in_memory : (type : ℕ) → Local
in_memory t = record { name = []; ty = t; block = true }

abbrev pub a_function : (type : ℕ) → (parameters locals : List Local) → Statement ℕ → FunctionData
a_function t parameters locals body = record {
  name = [];
  place = here;
  ty = t;
  is_linked = true;
  parameters = parameters;
  locals = locals;
  body = Some body;
  nodes = 0;
}

abbrev pub program : List Object → List FunctionData → ProgramData
program objects functions = record { records = records; types = types; objects = objects; functions = functions; mentions = []; main = 0; nodes = 0 }

-- int main(void) with these locals, declared by its body
abbrev pub main : List Local → (numbers : List ℕ) → List (Statement ℕ) → ProgramData
main locals numbers body = program [] (a_function of_nothing [] locals (T.block numbers (all body)) ∷ [])
