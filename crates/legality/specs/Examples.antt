-- What lines of C violate, by what c_facts and the mentions say of them, behind
--     struct S { int x; int y[2]; };
--     int g(struct S *a) { return a->x; }
--     struct S *p = malloc(sizeof(struct S)), *q = p; char *c = 0;
-- Three more records stand in some: T, whose field at byte 67 is a `struct S`, U, whose field at byte 85 is a `struct T [3]`, and V, whose field at byte 110 is
-- a `struct S (*)[2]`.
use Rattle.std.specs.Prelude.{◌≡◌, refl, ℕ, false, List, [], ◌∷◌, codes, fold, length, replicate, Option, Some, None}
use Rattle.lay_base.specs.declared.place.Place.{Place}
use Rattle.c_types.specs.declared.ty.IntKind.TheVariants.{Int, Char}
use Rattle.c_types.specs.Types.{CType, void, integer, pointer, array, function, structure, no_types, and_type, Field, Record}
use Rattle.c_typed.specs.declared.operators.LibraryFunction.TheVariants.{Free, Memcmp, Memset}
use Rattle.c_typed.specs.declared.program.Mention.{Mention}
use Rattle.c_typed.specs.declared.program.MentionKind.{MentionKind}
use Rattle.c_typed.specs.declared.program.MentionKind.TheVariants as M
use Rattle.c_typed.specs.Programs.{ProgramData}
use Rattle.c_facts.specs.declared.fact.Fact.{Fact}
use Rattle.c_facts.specs.declared.fact.Fact.TheVariants as F
use Rattle.legality.specs.declared.violation.Test.{Test}
use Rattle.legality.specs.declared.violation.Test.TheVariants.{Cstt, Cstf, Atkn, Libc, Ind, Mset, Nest, Size, Objt, Copy}
use Rattle.legality.specs.declared.violation.Violation.{Violation}
use Rattle.legality.specs.Breaches.{breaches_by}
use Rattle.legality.specs.Firsts.{marked}
use Rattle.legality.specs.Holdings.{holdings_of}
use Rattle.legality.specs.Verdicts.{verdict_of}

abbrev at : ℕ → Place
at n = record { file = 0; at = n }

-- ---- records and types by their numbers

abbrev field : CType → ℕ → Field
field t n = record { name = codes "f"; ty = t; place = at n }

abbrev S : Record
S = record { tag = codes "S"; place = at 0; fields = field (integer Int) 10 ∷ field (array (integer Int) 2) 20 ∷ [] }

abbrev T : Record
T = record { tag = codes "T"; place = at 50; fields = field (structure 0) 67 ∷ [] }

abbrev U : Record
U = record { tag = codes "U"; place = at 70; fields = field (array (structure 1) 3) 85 ∷ [] }

abbrev V : Record
V = record { tag = codes "V"; place = at 90; fields = field (pointer (array (structure 0) 2)) 110 ∷ [] }

abbrev a_record : ℕ
a_record = 0

abbrev to_record : ℕ
to_record = 1

abbrev to_void : ℕ
to_void = 2

abbrev to_char : ℕ
to_char = 3

abbrev to_function : ℕ
to_function = 4

abbrev to_two_records : ℕ
to_two_records = 5

abbrev two_records : ℕ
two_records = 6

abbrev to_outer : ℕ
to_outer = 7

abbrev outer_record : ℕ
outer_record = 8

-- of a joined program: a record that no file completes
abbrev to_incomplete : ℕ
to_incomplete = 9

abbrev types : List CType
types = structure 0 ∷ pointer (structure 0) ∷ pointer void ∷ pointer (integer Char)
    ∷ pointer (function (integer Int) (and_type (pointer (structure 0)) no_types)) ∷ pointer (array (structure 0) 2) ∷ array (structure 0) 2
    ∷ pointer (structure 1) ∷ structure 2 ∷ pointer (structure 3) ∷ []

-- ---- verdicts

abbrev program : List Record → List Mention → ProgramData
program records mentions = record { records = records; types = types; objects = []; functions = []; mentions = mentions; main = 0; nodes = 0 }

abbrev verdicts : List Record → List Mention → List Fact → List (Option Violation)
verdicts records mentions facts = fold marked (replicate (length records) None) (breaches_by (program records mentions) facts)

-- on S, where functions say this
abbrev on : List Fact → Option Violation
on facts = verdict_of (verdicts (S ∷ []) [] facts) 0

-- on S, where that is said at byte 150
abbrev where_said : MentionKind → ℕ → Option Violation
where_said kind t = verdict_of (verdicts (S ∷ []) (record { kind = kind; ty = t; place = at 150 } ∷ []) []) 0

abbrev first : Test → ℕ → Option Violation
first test n = Some (record { test = test; place = at n })

-- ---- the table

-- q = (struct S *)c;
example_cstt : on (F.Converted to_char to_record (at 114) ∷ []) ≡ first Cstt 114
example_cstt = refl

-- c = (char *)p;
example_cstf : on (F.Converted to_record to_char (at 110) ∷ []) ≡ first Cstf 110
example_cstf = refl

-- &p->x;
example_atkn : on (F.Taken 0 (at 101) ∷ F.Site 0 0 false ∷ []) ≡ first Atkn 101
example_atkn = refl

-- memcmp(p, p, 4);
example_libc : on (F.Passed Memcmp to_record (at 107) ∷ F.Passed Memcmp to_record (at 109) ∷ []) ≡ first Libc 107
example_libc = refl

-- int (*h)(struct S *) = g;
example_ind : on (F.Function to_function (at 124) ∷ []) ≡ first Ind 124
example_ind = refl

-- nothing
example_legal : on [] ≡ None
example_legal = refl

-- memset((void *)p, 0, 4);
example_cast_argument : on (F.Converted to_record to_void (at 115) ∷ F.Passed Memset to_void (at 107) ∷ []) ≡ first Cstf 115
example_cast_argument = refl

-- memset(p, 0, 4);
example_mset : on (F.Passed Memset to_record (at 107) ∷ []) ≡ first Mset 107
example_mset = refl

-- struct T { struct S s; };
example_nest : verdicts (S ∷ T ∷ []) [] [] ≡ first Nest 67 ∷ first Nest 67 ∷ []
example_nest = refl

-- sizeof(*p);
example_size : where_said M.Sizeof a_record ≡ first Size 150
example_size = refl

-- struct S o;
example_objt : where_said M.Object a_record ≡ first Objt 150
example_objt = refl

-- *q = *p;
example_copy : on (F.Copied a_record (at 100) ∷ []) ≡ first Copy 100
example_copy = refl

-- struct S (*o)[2] = 0;
example_objt_behind : where_said M.Object to_two_records ≡ first Objt 150
example_objt_behind = refl

-- struct S o[2];
example_objt_array : where_said M.Object two_records ≡ first Objt 150
example_objt_array = refl

-- int n = sizeof((struct V { struct S (*f)[2]; } *)0);
example_objt_field : verdicts (S ∷ V ∷ []) [] [] ≡ first Objt 110 ∷ None ∷ []
example_objt_field = refl

-- ---- more

-- struct S *o;
example_pointer : where_said M.Object to_record ≡ None
example_pointer = refl

-- free(p);
example_free : on (F.Passed Free to_record (at 105) ∷ []) ≡ None
example_free = refl

-- (struct T *)p; one is left, the other is come to
example_two : verdicts (S ∷ T ∷ []) [] (F.Converted to_record to_outer (at 30) ∷ []) ≡ first Cstf 30 ∷ first Cstt 30 ∷ []
example_two = refl

-- U holds S through an array of T
example_nest_through : verdicts (S ∷ T ∷ U ∷ []) [] [] ≡ first Nest 67 ∷ first Nest 67 ∷ first Nest 85 ∷ []
example_nest_through = refl

example_holdings : holdings_of (S ∷ T ∷ U ∷ []) ≡ (0 ∷ []) ∷ (1 ∷ 0 ∷ []) ∷ (2 ∷ 1 ∷ 0 ∷ []) ∷ []
example_holdings = refl

-- sizeof(struct U), before the fields by which it holds them
example_size_through : verdicts (S ∷ T ∷ U ∷ []) (record { kind = M.Sizeof; ty = outer_record; place = at 40 } ∷ []) []
    ≡ first Size 40 ∷ first Size 40 ∷ first Size 40 ∷ []
example_size_through = refl

-- of what stands at one byte the test of the former row, and else the former byte, in whatever order it is said
example_row : on (F.Passed Memset to_record (at 107) ∷ F.Passed Memcmp to_record (at 107) ∷ F.Taken 0 (at 120) ∷ []) ≡ first Libc 107
example_row = refl

example_byte : on (F.Passed Memset to_record (at 107) ∷ F.Copied a_record (at 90) ∷ []) ≡ first Copy 90
example_byte = refl

-- a static initializer converts a pointer to a record that no file completes: that is no record of the program
example_incomplete : where_said M.From to_incomplete ≡ None
example_incomplete = refl
