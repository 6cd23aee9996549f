-- Runs by computation: objects, records, initializers and the library's functions on memory (C99 6.5.16.1, 6.7.8, 7.20.3, 7.21).
use Rattle.std.specs.Prelude.{◌≡◌, ℕ, ◌-◌, ◌^◌, true, false, List, [], ◌∷◌, Option, Some, None, refl}
use Rattle.lay_base.specs.declared.faults.UndefinedKind.TheVariants as K
use Rattle.c_types.specs.declared.ty.IntKind.TheVariants as I
use Rattle.c_typed.specs.declared.operators.BinaryOp.TheVariants as B
use Rattle.c_typed.specs.declared.operators.CompareOp.TheVariants as C
use Rattle.c_typed.specs.declared.operators.LibraryFunction.{LibraryFunction}
use Rattle.c_typed.specs.declared.operators.LibraryFunction.TheVariants as L
use Rattle.c_typed.specs.declared.operators.PointerOp.TheVariants as O
use Rattle.c_typed.specs.declared.program.InitialValue.TheVariants as V
use Rattle.c_typed.specs.declared.program.Initial.{Initial}
use Rattle.c_typed.specs.declared.program.Object.{Object}
use Rattle.c_typed.specs.Trees as T
use Rattle.c_meaning.specs.ExampleParts.{int, unsigned, char, to_int, to_char, to_void, nothing, of_nothing, to_function, two_ints, a_record, to_record}
use Rattle.c_meaning.specs.ExampleParts.{to_two_ints, two_records, to_two_records, to_pointer, of_int, here, there, of, of_at, number, local, get, load, deref}
use Rattle.c_meaning.specs.ExampleParts.{element, set, binary, compare, cast}
use Rattle.c_meaning.specs.ExampleParts.{library, call, malloc, putchar, does, gives, declares, declares_as, named, in_memory, a_function, program, main, all}
use Rattle.c_meaning.specs.Run.{RunEnd, ended, went_on, was_undefined, no_room, run, kept}

abbrev object : (type : ℕ) → T.Path ℕ
object t = T.path t here (T.object 0)

abbrev global : (type : ℕ) → Option (List Initial) → Object
global t initial = record { name = []; place = here; ty = t; linked = true; text = false; initial = initial }

abbrev with_global : Object → List (T.Statement ℕ) → RunEnd
with_global o body = run (program (o ∷ []) (a_function of_nothing [] [] (T.block [] (all body)) ∷ [])) [] 1

-- ---- objects of the file

-- int a[2] = {0, 7}; return a[1];
initialized : with_global (global two_ints (Some (record { offset = 4; value = V.Number I.Int 7 } ∷ [])))
    (gives (load int (element (object two_ints) (number 1))) ∷ []) ≡ ended [] 7 []
initialized = refl

all_else_is_zero : with_global (global two_ints (Some (record { offset = 4; value = V.Number I.Int 7 } ∷ [])))
    (gives (load int (element (object two_ints) (number 0))) ∷ []) ≡ ended [] 0 []
all_else_is_zero = refl

-- int *p; return p == 0; four zero bytes are a null pointer of any type
zero_pointer : with_global (global to_int (Some [])) (gives (compare C.Equal (load to_int (object to_int)) (of to_int T.null)) ∷ []) ≡ ended [] 1 []
zero_pointer = refl

-- "ab"[0] = 1;
abbrev text : Object
text = record { name = []; place = here; ty = char; linked = false; text = true; initial = Some (record { offset = 0; value = V.Number I.Char 97 } ∷ []) }

read_only : with_global text (does (of char (T.assign (object char) (of char (T.constant 1)))) ∷ []) ≡ was_undefined K.ReadOnly here [] []
read_only = refl

-- ---- initializers of locals

-- int a[2] = {5}; return a[1];
parts_and_zero : run (main (in_memory two_ints ∷ []) (0 ∷ []) (
    T.declare 0 (Some (T.parts (record { offset = 0; value = T.value (number 5) } ∷ []))) ∷ gives (load int (element (local two_ints 0) (number 1))) ∷ [])) [] 1
    ≡ ended [] 0 []
parts_and_zero = refl

-- int a[2] = {putchar(1), putchar(2)}; in the order of the text
parts_in_order : run (main (in_memory two_ints ∷ []) (0 ∷ []) (
    T.declare 0 (Some (T.parts (record { offset = 0; value = T.value (putchar (number 1)) } ∷ record { offset = 4; value = T.value (putchar (number 2)) } ∷ []))) ∷
    gives (load int (element (local two_ints 0) (number 1))) ∷ [])) [] 1 ≡ ended (1 ∷ 2 ∷ []) 2 []
parts_in_order = refl

-- ---- records

abbrev field : T.Path ℕ → ℕ → T.Path ℕ
field q k = T.path int here (T.member q 0 k)

-- struct S a, b; a.y = 4; b = a; return b.y; the empty field x is copied too
copied : run (main (in_memory a_record ∷ in_memory a_record ∷ []) (0 ∷ 1 ∷ []) (declares 0 ∷ declares 1 ∷
    does (set (field (local a_record 0) 1) int (number 4)) ∷ does (of nothing (T.copy_record (local a_record 1) (local a_record 0))) ∷
    gives (load int (field (local a_record 1) 1)) ∷ [])) [] 1 ≡ ended [] 4 []
copied = refl

empty_is_copied : run (main (in_memory a_record ∷ in_memory a_record ∷ []) (0 ∷ 1 ∷ []) (declares 0 ∷ declares 1 ∷
    does (set (field (local a_record 0) 1) int (number 4)) ∷ does (of nothing (T.copy_record (local a_record 1) (local a_record 0))) ∷
    gives (load int (field (local a_record 1) 0)) ∷ [])) [] 1 ≡ was_undefined K.Empty here [] []
empty_is_copied = refl

-- a = a
to_itself : run (main (in_memory a_record ∷ []) (0 ∷ []) (declares 0 ∷ does (of nothing (T.copy_record (local a_record 0) (local a_record 0))) ∷ [])) [] 1
    ≡ ended [] 0 []
to_itself = refl

abbrev through : (x : ℕ) → T.Path ℕ
through x = T.path a_record here (T.deref (get to_record x))

-- char *c = malloc(12); struct S *p = (struct S *)c, *q = (struct S *)(c + 4); *p = *q; they overlap by four bytes
overlaps : run (main (named to_char ∷ named to_record ∷ named to_record ∷ []) (0 ∷ 1 ∷ 2 ∷ []) (declares_as 0 (malloc to_char 12) ∷
    declares_as 1 (cast to_record (get to_char 0)) ∷ declares_as 2 (cast to_record (of to_char (T.pointer_add O.Add (get to_char 0) (number 4)))) ∷
    does (of nothing (T.copy_record (through 1) (through 2))) ∷ [])) [] 1 ≡ was_undefined K.Overlap here [] []
overlaps = refl

-- struct S *p = 0; &p->y; the way to a field is an access
way_through_null : run (main (named to_record ∷ []) (0 ∷ []) (declares_as 0 (of to_record T.null) ∷
    does (of to_int (T.address_of (field (through 0) 1))) ∷ [])) [] 1 ≡ was_undefined K.Null here [] []
way_through_null = refl

-- struct S *p = malloc(4); p->x = 1; p->y = 1; the second field is outside
field_outside : run (main (named to_record ∷ []) (0 ∷ []) (declares_as 0 (malloc to_record 4) ∷ does (set (field (through 0) 0) int (number 1)) ∷
    does (set (field (through 0) 1) int (number 1)) ∷ [])) [] 1 ≡ was_undefined K.Outside here [] []
field_outside = refl

-- struct S *p = malloc(8); p[-1].y; a negative subscript
before_the_block : run (main (named to_record ∷ []) (0 ∷ []) (declares_as 0 (malloc to_record 8) ∷
    does (load int (field (T.path a_record here (T.index (get to_record 0) (number 4294967295))) 1)) ∷ [])) [] 1 ≡ was_undefined K.Outside here [] []
before_the_block = refl

-- ---- subscripts

-- int a[2]; int *p = &a[2]; return p - a;
one_past : run (main (in_memory two_ints ∷ named to_int ∷ []) (0 ∷ 1 ∷ []) (declares 0 ∷
    declares_as 1 (of to_int (T.address_of (element (local two_ints 0) (number 2)))) ∷
    gives (of int (T.pointer_difference (get to_int 1) (of to_int (T.decay (local two_ints 0))))) ∷ [])) [] 1 ≡ ended [] 2 []
one_past = refl

two_past : run (main (in_memory two_ints ∷ []) (0 ∷ []) (declares 0 ∷
    does (of to_int (T.address_of (element (local two_ints 0) (number 3)))) ∷ [])) [] 1 ≡ was_undefined K.Subscript here [] []
two_past = refl

negative : run (main (in_memory two_ints ∷ []) (0 ∷ []) (declares 0 ∷
    does (load int (element (local two_ints 0) (number 4294967295))) ∷ [])) [] 1 ≡ was_undefined K.Subscript here [] []
negative = refl

-- int (*p)[2] = 0; &(*p)[0]; an array to which null points has no elements
of_null_array : run (main (named to_two_ints ∷ []) (0 ∷ []) (declares_as 0 (of to_two_ints T.null) ∷
    does (of to_int (T.address_of (element (deref two_ints (get to_two_ints 0)) (number 0)))) ∷ [])) [] 1 ≡ was_undefined K.Null here [] []
of_null_array = refl

-- with int (*p)[2] = malloc(4), a block of one int
abbrev with_short_array : T.Expression ℕ → RunEnd
with_short_array e = run (main (named to_two_ints ∷ []) (0 ∷ []) (declares_as 0 (malloc to_two_ints 4) ∷ gives e ∷ [])) [] 1

abbrev short_element : ℕ → T.Expression ℕ
short_element i = of to_int (T.address_of (element (deref two_ints (get to_two_ints 0)) (number i)))

-- &(*p)[1] - *p; one past the block
at_short_end : with_short_array (of int (T.pointer_difference (short_element 1) (of to_int (T.decay (deref two_ints (get to_two_ints 0)))))) ≡ ended [] 1 []
at_short_end = refl

-- &(*p)[2] == 0
past_short_end : with_short_array (compare C.Equal (short_element 2) (of to_int T.null)) ≡ was_undefined K.Range here [] []
past_short_end = refl

-- struct S (*p)[2] = malloc(8); &(*p)[1].x, one past the block, and &(*p)[1].y
abbrev short_field : ℕ → RunEnd
short_field k = run (main (named to_two_records ∷ []) (0 ∷ []) (declares_as 0 (malloc to_two_records 8) ∷ gives (compare C.Equal
    (of to_int (T.address_of (field (T.path a_record here (T.element (deref two_records (get to_two_records 0)) (number 1))) k))) (of to_int T.null)) ∷ [])) [] 1

field_at_short_end : short_field 0 ≡ ended [] 0 []
field_at_short_end = refl

field_past_short_end : short_field 1 ≡ was_undefined K.Range here [] []
field_past_short_end = refl

-- ---- pointers

-- int *p = malloc(8); p + 3
out_of_range : run (main (named to_int ∷ []) (0 ∷ []) (declares_as 0 (malloc to_int 8) ∷
    does (of to_int (T.pointer_add O.Add (get to_int 0) (number 3))) ∷ [])) [] 1 ≡ was_undefined K.Range here [] []
out_of_range = refl

-- int *p = malloc(8), *q = malloc(8); p < q
two_blocks : run (main (named to_int ∷ named to_int ∷ []) (0 ∷ 1 ∷ []) (declares_as 0 (malloc to_int 8) ∷ declares_as 1 (malloc to_int 8) ∷
    gives (compare C.Less (get to_int 0) (get to_int 1)) ∷ [])) [] 1 ≡ was_undefined K.TwoBlocks here [] []
two_blocks = refl

-- p + 2 == q
edge : run (main (named to_int ∷ named to_int ∷ []) (0 ∷ 1 ∷ []) (declares_as 0 (malloc to_int 8) ∷ declares_as 1 (malloc to_int 8) ∷
    gives (compare C.Equal (of to_int (T.pointer_add O.Add (get to_int 0) (number 2))) (get to_int 1)) ∷ [])) [] 1 ≡ was_undefined K.Edge here [] []
edge = refl

-- p == q
different : run (main (named to_int ∷ named to_int ∷ []) (0 ∷ 1 ∷ []) (declares_as 0 (malloc to_int 8) ∷ declares_as 1 (malloc to_int 8) ∷
    gives (compare C.Equal (get to_int 0) (get to_int 1)) ∷ [])) [] 1 ≡ ended [] 0 []
different = refl

-- ---- the library

abbrev bytes : ℕ → T.Expression ℕ
bytes n = of unsigned (T.constant n)

abbrev with_two : List (T.Statement ℕ) → RunEnd
with_two body = run (main (named to_void ∷ named to_void ∷ []) (0 ∷ 1 ∷ []) (declares_as 0 (library to_void L.Malloc (bytes 4 ∷ [])) ∷
    declares_as 1 (library to_void L.Calloc (bytes 2 ∷ bytes 2 ∷ [])) ∷ body)) [] 1

abbrev on_both : LibraryFunction → (type : ℕ) → ℕ → T.Expression ℕ
on_both which t n = library t which (get to_void 0 ∷ get to_void 1 ∷ bytes n ∷ [])

-- calloc's bytes are zero, malloc's are nothing that was stored
compares_empty : with_two (gives (on_both L.Memcmp int 4) ∷ []) ≡ was_undefined K.Empty here [] []
compares_empty = refl

compares_copied : with_two (does (on_both L.Memcpy to_void 4) ∷ gives (on_both L.Memcmp int 4) ∷ []) ≡ ended [] 0 []
compares_copied = refl

-- memset stores the low byte; bytes are compared unsigned
compares_greater : with_two (does (library to_void L.Memset (get to_void 0 ∷ number 511 ∷ bytes 4 ∷ [])) ∷ gives (on_both L.Memcmp int 4) ∷ []) ≡ ended [] 1 []
compares_greater = refl

copies_outside : with_two (does (on_both L.Memmove to_void 5) ∷ []) ≡ was_undefined K.Outside here [] []
copies_outside = refl

-- of no length nothing is looked at
of_no_length : run (main [] [] (does (library to_void L.Memcpy (of to_void T.null ∷ of to_void T.null ∷ bytes 0 ∷ [])) ∷ [])) [] 1 ≡ ended [] 0 []
of_no_length = refl

-- free of a local: int x; free(&x);
frees_local : run (main (in_memory int ∷ []) (0 ∷ []) (declares 0 ∷
    does (library nothing L.Free (cast to_void (of to_int (T.address_of (local int 0))) ∷ [])) ∷ [])) [] 1 ≡ was_undefined K.Free here [] []
frees_local = refl

frees_null : run (main [] [] (does (library nothing L.Free (of to_void T.null ∷ [])) ∷ [])) [] 1 ≡ ended [] 0 []
frees_null = refl

-- malloc(0) is not null
of_no_size : run (main [] [] (gives (compare C.Equal (library to_void L.Malloc (bytes 0 ∷ [])) (of to_void T.null)) ∷ [])) [] 1 ≡ ended [] 0 []
of_no_size = refl

-- within the room a run is as without
within_the_room : kept (main [] [] (gives (compare C.Equal (library to_void L.Malloc (bytes 4 ∷ [])) (of to_void T.null)) ∷ [])) [] 1 ≡ ended [] 0 []
within_the_room = refl
