-- What small expressions and functions say, with
--     struct S { int x; int y[2]; };
--     struct T { int z; struct S s; };
--     struct S *v;
-- where v is object 0, p is the local 0 of type `struct S *`, and q is the local 1 of type `struct T *`.
use Rattle.std.specs.Prelude.{◌≡◌, refl, ℕ, true, false, List, [], ◌∷◌, codes, Option, Some, None}
use Rattle.lay_base.specs.declared.place.Place.{Place}
use Rattle.c_typed.specs.declared.operators.BinaryOp.TheVariants.{Add}
use Rattle.c_typed.specs.declared.operators.CompareOp.TheVariants.{Equal, Less}
use Rattle.c_typed.specs.declared.operators.LibraryFunction.TheVariants.{Free, Memset}
use Rattle.c_typed.specs.declared.operators.StepOp.TheVariants.{Increment}
use Rattle.c_typed.specs.Programs.{FunctionData, ProgramData}
use Rattle.c_typed.specs.Trees as T
use Rattle.c_facts.specs.declared.contexts.Context.TheVariants.{Plain}
use Rattle.c_facts.specs.declared.fact.Fact.{Fact}
use Rattle.c_facts.specs.declared.fact.Fact.TheVariants as F
use Rattle.c_facts.specs.Facts.{effect, facts_by_expression, facts_by_statement}
use Rattle.c_facts.specs.Groups.{StartsPlainly, groups_in}
use Rattle.c_facts.specs.Programs.{facts_of}

-- ---- types by their numbers

abbrev int : ℕ
int = 0

abbrev a_record : ℕ
a_record = 1

abbrev to_record : ℕ
to_record = 2

abbrev to_void : ℕ
to_void = 3

abbrev to_char : ℕ
to_char = 4

abbrev to_int : ℕ
to_int = 5

abbrev two_ints : ℕ
two_ints = 6

abbrev to_pointer : ℕ
to_pointer = 7

abbrev to_function : ℕ
to_function = 8

abbrev nothing : ℕ
nothing = 9

abbrev outer_record : ℕ
outer_record = 10

abbrev to_outer_record : ℕ
to_outer_record = 11

-- ---- trees, by the byte at which they begin

abbrev at : ℕ → Place
at n = record { file = 0; at = n }

abbrev value : ℕ → ℕ → T.Node ℕ → T.Expression ℕ
value t n node = T.expression t (at n) node

abbrev way : ℕ → ℕ → T.PathNode ℕ → T.Path ℕ
way t n step = T.path t (at n) step

abbrev number : ℕ → ℕ → T.Expression ℕ
number n v = value int n (T.constant v)

abbrev null : ℕ → T.Expression ℕ
null n = value to_record n T.null

abbrev p : ℕ → T.Expression ℕ
p n = value to_record n (T.load (way to_record n (T.local 0)))

abbrev object_v : ℕ → T.Path ℕ
object_v n = way to_record n (T.object 0)

abbrev v : ℕ → T.Expression ℕ
v n = value to_record n (T.load (object_v n))

-- `p->x`, `p->y` and `q->s`
abbrev p_x : ℕ → T.Path ℕ
p_x n = way int n (T.member (way a_record n (T.deref (p n))) 0 0)

abbrev p_y : ℕ → T.Path ℕ
p_y n = way two_ints n (T.member (way a_record n (T.deref (p n))) 0 1)

abbrev q_s : ℕ → T.Path ℕ
q_s n = way a_record n (T.member (way outer_record n (T.deref (value to_outer_record n (T.load (way to_outer_record n (T.local 1)))))) 1 1)

-- `memset(e, 0, 4)`, with e as it is converted
abbrev memset : T.Expression ℕ → T.Expression ℕ
memset e = value to_void 0 (T.library Memset (T.and_expression e (T.and_expression (number 20 0) (T.and_expression (number 23 4) T.no_expressions))))

abbrev says : T.Expression ℕ → List Fact → Type 0
says e all = facts_by_expression Plain e ≡ all

-- ---- accesses

-- p->x
example_read : says (value int 0 (T.load (p_x 0))) (F.Value int ∷ F.Site 0 0 true ∷ F.Value to_record ∷ [])
example_read = refl

-- p->x = 1
example_write : says (value int 0 (T.assign (p_x 0) (number 7 1))) (F.Value int ∷ F.Site 0 0 false ∷ F.Value to_record ∷ F.Value int ∷ [])
example_write = refl

-- p->x += 1
example_update : says (value int 0 (T.assign_op Add (p_x 0) (number 8 1))) (F.Value int ∷ F.Site 0 0 true ∷ F.Value to_record ∷ F.Value int ∷ [])
example_update = refl

-- p->y[1]: one access to y, with its subscript
example_subscript : says (value int 0 (T.load (way int 0 (T.element (p_y 0) (number 5 1)))))
    (F.Value int ∷ F.Site 0 1 true ∷ F.Value to_record ∷ F.Value int ∷ [])
example_subscript = refl

-- q->s.x: an access to x alone
example_inner : says (value int 0 (T.load (way int 0 (T.member (q_s 0) 0 0)))) (F.Value int ∷ F.Site 0 0 true ∷ F.Value to_outer_record ∷ [])
example_inner = refl

-- &p->x: the field's path stands behind the `&`
example_address : says (value to_int 0 (T.address_of (p_x 1)))
    (F.Value to_int ∷ F.Value int ∷ F.Taken 0 (at 1) ∷ F.Site 0 0 false ∷ F.Value to_record ∷ [])
example_address = refl

-- &(q->s).x: the address of x is that of a part of s too
example_inner_address : says (value to_int 0 (T.address_of (way int 1 (T.member (q_s 2) 0 0))))
    (F.Value to_int ∷ F.Value int ∷ F.Taken 0 (at 1) ∷ F.Taken 1 (at 2) ∷ F.Site 0 0 false ∷ F.Value to_outer_record ∷ [])
example_inner_address = refl

-- p->y
example_decay : says (value to_int 0 (T.decay (p_y 0))) (F.Value to_int ∷ F.Taken 0 (at 0) ∷ F.Site 0 1 false ∷ F.Value to_record ∷ [])
example_decay = refl

-- struct S s = q->s;
example_initialized : facts_by_statement (T.declare 2 (Some (T.whole_record (q_s 13)))) ≡ F.Site 1 1 true ∷ F.Value to_outer_record ∷ []
example_initialized = refl

-- *p = *v
example_copy : says (value nothing 0 (T.copy_record (way a_record 0 (T.deref (p 1))) (way a_record 5 (T.deref (v 6)))))
    (F.Value nothing ∷ F.Copied a_record (at 0) ∷ F.Value to_record ∷ F.Value to_record ∷ [])
example_copy = refl

-- ---- conversions and arguments

-- (char *)p
example_cast : says (value to_char 0 (T.convert (p 8) true)) (F.Value to_char ∷ F.Converted to_record to_char (at 8) ∷ F.Value to_record ∷ [])
example_cast = refl

-- (char *)(struct S *)0
example_null : says (value to_char 0 (T.convert (null 8) true)) (F.Value to_char ∷ F.Value to_record ∷ [])
example_null = refl

-- memset(p, 0, 4)
example_argument : says (memset (value to_void 7 (T.convert (p 7) false)))
    (F.Value to_void ∷ F.Value to_void ∷ F.Passed Memset to_record (at 7) ∷ F.Value to_record ∷ F.Value int ∷ F.Value int ∷ [])
example_argument = refl

-- memset((void *)p, 0, 4)
example_cast_argument : says (memset (value to_void 7 (T.convert (p 15) true)))
    (F.Value to_void ∷ F.Value to_void ∷ F.Converted to_record to_void (at 15) ∷ F.Value to_record ∷ F.Value int ∷ F.Value int ∷ [])
example_cast_argument = refl

-- f
example_function : says (value to_function 0 (T.function_name 1)) (F.Value to_function ∷ F.Function to_function (at 0) ∷ [])
example_function = refl

-- ---- where v may stand

-- v[1].x
example_element : says (value int 0 (T.load (way int 0 (T.member (way a_record 0 (T.index (v 0) (number 2 1))) 0 0))))
    (F.Value int ∷ F.Site 0 0 true ∷ F.Value int ∷ [])
example_element = refl

-- v->x, which is no `v[e].x`
example_arrow : says (value int 0 (T.load (way int 0 (T.member (way a_record 0 (T.deref (v 0))) 0 0))))
    (F.Value int ∷ F.Site 0 0 true ∷ F.Value to_record ∷ [])
example_arrow = refl

-- free(v)
example_free : says (value nothing 0 (T.library Free (T.and_expression (value to_void 5 (T.convert (v 5) false)) T.no_expressions)))
    (F.Value nothing ∷ F.Value to_void ∷ F.Passed Free to_record (at 5) ∷ [])
example_free = refl

-- v == 0, and v < (struct S *)0
example_test : says (value int 0 (T.compare Equal (v 0) (null 5))) (F.Value int ∷ [])
example_test = refl

example_order : says (value int 0 (T.compare Less (v 0) (null 4))) (F.Value int ∷ F.Value to_record ∷ F.Value to_record ∷ [])
example_order = refl

-- v = 0, as a statement and as a value
example_assigned : effect (value to_record 0 (T.assign (object_v 0) (null 4))) ≡ []
example_assigned = refl

example_assigned_value : says (value to_record 0 (T.assign (object_v 0) (null 4))) (F.Value to_record ∷ [])
example_assigned_value = refl

-- v = malloc(n * sizeof *v), with 3 for n
example_allocated : effect (value to_record 0 (T.assign (object_v 0)
    (value to_record 4 (T.allocate 0 (T.some_expression (number 11 3)) false)))) ≡ F.Value int ∷ []
example_allocated = refl

-- &v: v stands there, although it has no value there
example_address_of_variable : says (value to_pointer 0 (T.address_of (object_v 1))) (F.Value to_pointer ∷ F.Value to_record ∷ [])
example_address_of_variable = refl

-- ---- loops and functions

abbrev alone : T.Statement ℕ → T.Statements ℕ
alone s = T.and_statement s T.no_statements

-- for (p->x = 0; p->x; p->x++) { while (v) p->x; }
abbrev loops : T.Statement ℕ
loops = T.for [] (alone (T.evaluate (value int 5 (T.assign (p_x 5) (number 12 0)))))
    (Some (value int 15 (T.load (p_x 15)))) (Some (value int 21 (T.step Increment false (p_x 21))))
    (T.block [] (alone (T.while (v 38) (T.evaluate (value int 48 (T.load (p_x 48)))))))

example_loops : facts_by_statement loops ≡
    F.Value int ∷ F.Site 0 0 false ∷ F.Value to_record ∷ F.Value int
    ∷ F.LoopBegins ∷ F.Value int ∷ F.Site 0 0 true ∷ F.Value to_record ∷ F.Value int ∷ F.Site 0 0 true ∷ F.Value to_record
    ∷ F.LoopBegins ∷ F.Value int ∷ F.Site 0 0 true ∷ F.Value to_record ∷ F.LoopEnds
    ∷ F.LoopEnds ∷ []
example_loops = refl

abbrev function : List ℕ → Place → Option (T.Statement ℕ) → FunctionData
function name place body =
    record { name = name; place = place; ty = to_function; is_linked = true; parameters = []; locals = []; body = body; nodes = 0 }

-- h() { return p->x; }, which stands last, f();, which is only declared, and g() { do v; while (1); }
abbrev program : ProgramData
program = record {
  records = [];
  types = [];
  objects = [];
  functions = function (codes "h") (at 90) (Some (T.return (Some (value int 100 (T.load (p_x 100))))))
      ∷ function (codes "f") (at 10) None
      ∷ function (codes "g") (at 50) (Some (T.do_while (T.evaluate (v 60)) (number 70 1)))
      ∷ [];
  mentions = [];
  main = 0;
  nodes = 0;
}

example_program : facts_of program ≡
    F.FunctionBegins ∷ F.LoopBegins ∷ F.Value to_record ∷ F.Value int ∷ F.LoopEnds
    ∷ F.FunctionBegins ∷ F.Value int ∷ F.Site 0 0 true ∷ F.Value to_record ∷ []
example_program = refl

-- a profile of the program has a count for g, one for its loop and one for h
example_groups : groups_in (facts_of program) ≡ 3
example_groups = refl

plain : Unit {0}
plain = tt

example_plain : StartsPlainly loops
example_plain = (plain, (plain, plain))
