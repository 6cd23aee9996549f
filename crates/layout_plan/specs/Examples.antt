-- Plans of small programs, by what c_facts says of them.
use Rattle.std.specs.Prelude.{◌≡◌, refl, ℕ, true, false, List, [], ◌∷◌, ◌++◌, codes, Option, Some, None}
use Rattle.lay_base.specs.declared.place.Place.{Place}
use Rattle.c_types.specs.declared.ty.IntKind.TheVariants.{Char, Int, Short}
use Rattle.c_types.specs.Types.{CType, integer, pointer, array, structure, Field, Record}
use Rattle.c_typed.specs.declared.program.InitialValue.TheVariants.{Address}
use Rattle.c_typed.specs.declared.program.Local.{Local}
use Rattle.c_typed.specs.declared.program.Object.{Object}
use Rattle.c_typed.specs.declared.run_counts.counts.Counts.{Counts}
use Rattle.c_typed.specs.Programs.{ProgramData}
use Rattle.c_facts.specs.declared.fact.Fact.{Fact}
use Rattle.c_facts.specs.declared.fact.Fact.TheVariants.{FunctionBegins, LoopBegins, LoopEnds, Site, Value}
use Rattle.legality.specs.declared.violation.Test.TheVariants.{Size}
use Rattle.legality.specs.declared.violation.Violation.{Violation}
use Rattle.affinity.specs.declared.weights.Weights.{Weights}
use Rattle.affinity.specs.Accesses.{accesses_in}
use Rattle.affinity.specs.GroupWeights.{weights}
use Rattle.affinity.specs.Weighing.{is_given}
use Rattle.layout_plan.specs.declared.plans.Decision.{Decision}
use Rattle.layout_plan.specs.declared.plans.Decision.TheVariants.{Refused, Reordered, Split, Peeled}
use Rattle.layout_plan.specs.declared.plans.PartField.{PartField}
use Rattle.layout_plan.specs.declared.plans.RecordPlan.{RecordPlan}
use Rattle.layout_plan.specs.Plans.{plan_of}

abbrev start : Place
start = record { file = 0; at = 0 }

abbrev of_type : CType → (name : List ℕ) → Field
of_type t name = record { name = name; ty = t; place = start }

abbrev int : (name : List ℕ) → Field
int = of_type (integer Int)

abbrev a_record : (tag : List ℕ) → List Field → Record
a_record tag fields = record { tag = tag; place = start; fields = fields }

abbrev local : (ty : ℕ) → Local
local ty = record { name = codes "p"; ty = ty; block = false }

abbrev object : (ty : ℕ) → Object
object ty = record { name = codes "v"; place = start; ty = ty; linked = true; text = false; initial = Some [] }

-- these records; type 0 is a pointer to the first one, and type 1 an `int`
abbrev program : List Record → List Object → List Local → ProgramData
program records objects locals = record {
  records = records;
  types = pointer (structure 0) ∷ integer Int ∷ pointer (pointer (structure 0)) ∷ [];
  objects = objects;
  functions = record {
    name = codes "main";
    place = start;
    ty = 1;
    is_linked = true;
    parameters = [];
    locals = locals;
    body = None;
    nodes = 0;
  } ∷ [];
  mentions = [];
  main = 0;
  nodes = 0;
}

abbrev weighed : Option Counts → List Fact → Weights
weighed counts facts = record { accesses = accesses_in facts; groups = weights counts facts; by_profile = is_given counts }

-- of a legal record, a pointer to which is kept in a local
abbrev plans : Option Counts → Record → List Fact → List RecordPlan
plans counts r facts = plan_of (program (r ∷ []) [] (local 0 ∷ [])) facts (None ∷ []) (weighed counts facts)

abbrev a_plan : Decision → List (Option PartField) → (sizes : List ℕ) → RecordPlan
a_plan decision fields sizes = record { decision = decision; fields = fields; sizes = sizes }

abbrev at : (part offset : ℕ) → Option PartField
at part offset = Some (record { part = part; offset = offset })

abbrev dead : Option PartField
dead = None

-- ---- accesses to fields of the first record

abbrev reads : List ℕ → List Fact
reads [] = []
reads (f ∷ more) = Site 0 f true ∷ reads more

abbrev writes : List ℕ → List Fact
writes [] = []
writes (f ∷ more) = Site 0 f false ∷ writes more

abbrev looped : List Fact → List Fact
looped body = LoopBegins ∷ body ++ LoopEnds ∷ []

-- ---- a field that is only written:
--     p->live = 3; p->d = f(); return p->live;

abbrev D : Record
D = a_record (codes "D") (int (codes "d") ∷ int (codes "live") ∷ [])

example_dead : plans None D (FunctionBegins ∷ writes (1 ∷ 0 ∷ []) ++ reads (1 ∷ [])) ≡ a_plan Reordered (dead ∷ at 0 0 ∷ []) (4 ∷ []) ∷ []
example_dead = refl

-- where none is read the first one stays
example_all_dead : plans None D (FunctionBegins ∷ writes (1 ∷ [])) ≡ a_plan Reordered (at 0 0 ∷ dead ∷ []) (4 ∷ []) ∷ []
example_all_dead = refl

-- ---- a linked list with two hot and four cold fields:
--     for (..) { p->a = i; p->next = head; p->c0 = 1; .. }  for (..) for (..; p = p->next) s += p->a;  .. head->c0 + ..

abbrev N : Record
N = a_record (codes "N") (int (codes "a") ∷ of_type (pointer (structure 0)) (codes "next") ∷ int (codes "c0") ∷ int (codes "c1") ∷ int (codes "c2")
    ∷ int (codes "c3") ∷ [])

abbrev of_list : List Fact
of_list = FunctionBegins ∷ looped (writes (0 ∷ 1 ∷ 2 ∷ 3 ∷ 4 ∷ 5 ∷ [])) ++ looped (looped (reads (1 ∷ 0 ∷ []))) ++ reads (2 ∷ 3 ∷ 4 ∷ 5 ∷ [])

abbrev counted : Counts
counted = record { functions = record { name = codes "main"; entries = 1; loops = 1000 ∷ 100 ∷ 100000 ∷ [] } ∷ [] }

example_list : plans (Some counted) N of_list
    ≡ a_plan Split (at 0 4 ∷ at 0 8 ∷ at 1 0 ∷ at 1 4 ∷ at 1 8 ∷ at 1 12 ∷ []) (12 ∷ 16 ∷ []) ∷ []
example_list = refl

-- without a profile none is cold
example_list_by_depth : plans None N of_list
    ≡ a_plan Reordered (at 0 0 ∷ at 0 4 ∷ at 0 8 ∷ at 0 12 ∷ at 0 16 ∷ at 0 20 ∷ []) (24 ∷ []) ∷ []
example_list_by_depth = refl

-- ---- two cold fields behind a link, and one that is not worth it

abbrev Z : Record
Z = a_record (codes "Z") (int (codes "h") ∷ int (codes "c0") ∷ int (codes "c1") ∷ [])

example_link : plans None Z (FunctionBegins ∷ writes (0 ∷ 1 ∷ 2 ∷ []) ++ looped (looped (reads (0 ∷ []))) ++ reads (1 ∷ 2 ∷ []))
    ≡ a_plan Split (at 0 4 ∷ at 1 0 ∷ at 1 4 ∷ []) (8 ∷ 8 ∷ []) ∷ []
example_link = refl

-- c0 is as cold, and c1 is hot
example_one_cold : plans None Z (FunctionBegins ∷ writes (0 ∷ 1 ∷ 2 ∷ []) ++ looped (looped (reads (0 ∷ 2 ∷ []))) ++ reads (1 ∷ []))
    ≡ a_plan Reordered (at 0 0 ∷ at 0 8 ∷ at 0 4 ∷ []) (12 ∷ []) ∷ []
example_one_cold = refl

-- two cold fields that together are no larger than a link
abbrev Y : Record
Y = a_record (codes "Y") (int (codes "h") ∷ of_type (integer Char) (codes "c0") ∷ of_type (integer Short) (codes "c1") ∷ [])

example_no_larger : plans None Y (FunctionBegins ∷ looped (looped (reads (0 ∷ []))) ++ reads (1 ∷ 2 ∷ []))
    ≡ a_plan Reordered (at 0 0 ∷ at 0 4 ∷ at 0 6 ∷ []) (8 ∷ []) ∷ []
example_no_larger = refl

-- ---- the hottest first, then the nearest, of two equal ones the first:
--     p->a = 1; p->b = 2; p->c = 3; p->d = 4;  for (..) s += p->d + p->b;  s += p->a + p->c;

abbrev R : Record
R = a_record (codes "R") (of_type (integer Char) (codes "a") ∷ int (codes "b") ∷ of_type (integer Char) (codes "c") ∷ of_type (integer Short) (codes "d") ∷ [])

example_order : plans None R (FunctionBegins ∷ writes (0 ∷ 1 ∷ 2 ∷ 3 ∷ []) ++ looped (reads (3 ∷ 1 ∷ [])) ++ reads (0 ∷ 2 ∷ []))
    ≡ a_plan Reordered (at 0 6 ∷ at 0 0 ∷ at 0 7 ∷ at 0 4 ∷ []) (8 ∷ []) ∷ []
example_order = refl

-- ---- peeled into two parts:
--     for (..) v[i].x = i;  for (..) v[i].y = 10 * i;  for (..) s += v[i].x;  .. v[3].y

abbrev P : Record
P = a_record (codes "P") (int (codes "x") ∷ int (codes "y") ∷ [])

abbrev of_arrays : List Fact
of_arrays = FunctionBegins ∷ looped (writes (0 ∷ [])) ++ looped (writes (1 ∷ [])) ++ looped (reads (0 ∷ [])) ++ reads (1 ∷ [])

-- with one object of type `struct P *`
abbrev peels : List Object → List Local → List Fact → List RecordPlan
peels objects locals facts = plan_of (program (P ∷ []) (object 0 ∷ objects) locals) facts (None ∷ []) (weighed None facts)

example_peeled : peels [] [] of_arrays ≡ a_plan Peeled (at 0 0 ∷ at 1 0 ∷ []) (4 ∷ 4 ∷ []) ∷ []
example_peeled = refl

-- fields that are accessed together are one group
example_one_group : peels [] [] (FunctionBegins ∷ looped (reads (1 ∷ 0 ∷ []))) ≡ a_plan Reordered (at 0 0 ∷ at 0 4 ∷ []) (8 ∷ []) ∷ []
example_one_group = refl

-- what holds it back: a local, an expression in no permitted way, an object of another type, and the address of the object in what another holds at first
abbrev one_part : List RecordPlan
one_part = a_plan Reordered (at 0 0 ∷ at 0 4 ∷ []) (8 ∷ []) ∷ []

example_local : peels [] (local 0 ∷ []) of_arrays ≡ one_part
example_local = refl

example_value : peels [] [] (of_arrays ++ Value 0 ∷ []) ≡ one_part
example_value = refl

example_object : peels (object 2 ∷ []) [] of_arrays ≡ one_part
example_object = refl

abbrev holds_address : Object
holds_address = record {
  name = codes "w";
  place = start;
  ty = 1;
  linked = true;
  text = false;
  initial = Some (record { offset = 0; value = Address 1 0 0 } ∷ []);
}

example_address : peels (holds_address ∷ []) [] of_arrays ≡ one_part
example_address = refl

-- an expression of another type does not
example_other_value : peels [] [] (of_arrays ++ Value 1 ∷ []) ≡ a_plan Peeled (at 0 0 ∷ at 1 0 ∷ []) (4 ∷ 4 ∷ []) ∷ []
example_other_value = refl

-- ---- a part, or all of them together, that passes 16,777,216 bytes: the fields stay as they are declared

abbrev B : Record
B = a_record (codes "B") (int (codes "h") ∷ of_type (array (integer Char) 16777210) (codes "c0") ∷ of_type (integer Char) (codes "c1") ∷ [])

-- with the link the first part has 8 bytes; together all fields have 16,777,216, and with padding behind `c1`, the hottest, they would have more
example_as_large : plans None B (FunctionBegins ∷ looped (looped (reads (0 ∷ []))) ++ reads (1 ∷ 2 ∷ []))
    ≡ a_plan Split (at 0 4 ∷ at 1 0 ∷ at 1 16777210 ∷ []) (8 ∷ 16777211 ∷ []) ∷ []
example_as_large = refl

example_too_large : plans None B (FunctionBegins ∷ looped (looped (reads (2 ∷ []))) ++ reads (0 ∷ 1 ∷ 0 ∷ []))
    ≡ a_plan Reordered (at 0 0 ∷ at 0 4 ∷ at 0 16777214 ∷ []) (16777216 ∷ []) ∷ []
example_too_large = refl

-- ---- a record that violates a test keeps its layout

abbrev violates : Violation
violates = record { test = Size; place = start }

example_refused : plan_of (program (R ∷ []) [] []) [] (Some violates ∷ []) (weighed None [])
    ≡ a_plan (Refused violates) (at 0 0 ∷ at 0 4 ∷ at 0 8 ∷ at 0 10 ∷ []) (12 ∷ []) ∷ []
example_refused = refl
