-- Runs by computation: each kind of undefined behaviour.
use Rattle.std.specs.Prelude.{◌≡◌, ℕ, ◌-◌, ◌^◌, true, false, List, [], ◌∷◌, Option, Some, None, refl}
use Rattle.lay_base.specs.declared.faults.RoomKind.TheVariants.{Live}
use Rattle.lay_base.specs.declared.faults.UndefinedKind.TheVariants as K
use Rattle.c_typed.specs.declared.operators.BinaryOp.TheVariants as B
use Rattle.c_typed.specs.declared.operators.CompareOp.TheVariants as C
use Rattle.c_typed.specs.declared.operators.LibraryFunction.TheVariants as L
use Rattle.c_typed.specs.declared.operators.PointerOp.TheVariants as O
use Rattle.c_typed.specs.Trees as T
use Rattle.c_meaning.specs.ExampleParts.{int, unsigned, char, to_int, to_char, to_void, nothing, of_nothing, to_function, two_ints, a_record, to_record}
use Rattle.c_meaning.specs.ExampleParts.{to_pointer, to_char_pointer, here, there, of, of_at, number, local, get, load, deref, element, set, binary, compare}
use Rattle.c_meaning.specs.ExampleParts.{cast}
use Rattle.c_meaning.specs.ExampleParts.{library, call, malloc, putchar, does, gives, declares, declares_as, named, in_memory, a_function, program, main, all}
use Rattle.c_meaning.specs.Run.{ended, went_on, was_undefined, no_room, run, kept}

-- int a[2]; a[2] = 1; return 0;
subscript : run (main (in_memory two_ints ∷ []) (0 ∷ []) (declares 0 ∷ does (set (element (local two_ints 0) (number 2)) int (number 1)) ∷
    gives (number 0) ∷ [])) [] 1 ≡ was_undefined K.Subscript here [] []
subscript = refl

-- int x = 1, y = 32; return x << y;
shift : run (main (named int ∷ named int ∷ []) (0 ∷ 1 ∷ []) (declares_as 0 (number 1) ∷ declares_as 1 (number 32) ∷
    gives (binary B.ShiftLeft (get int 0) (get int 1)) ∷ [])) [] 1 ≡ was_undefined K.Shift here [] []
shift = refl

-- int *p = 0; return *p;
null : run (main (named to_int ∷ []) (0 ∷ []) (declares_as 0 (of to_int T.null) ∷ gives (load int (deref int (get to_int 0))) ∷ [])) [] 1
    ≡ was_undefined K.Null here [] []
null = refl

-- int x; return x;
empty : run (main (named int ∷ []) (0 ∷ []) (declares 0 ∷ gives (get int 0) ∷ [])) [] 1 ≡ was_undefined K.Empty here [] []
empty = refl

abbrev frees : ℕ → T.Expression ℕ
frees x = library nothing L.Free (get to_void x ∷ [])

-- void *p = malloc(4); free(p); free(p); return 0;
freed_twice : run (main (named to_void ∷ []) (0 ∷ []) (declares_as 0 (library to_void L.Malloc (of unsigned (T.constant 4) ∷ [])) ∷ does (frees 0) ∷
    does (frees 0) ∷ gives (number 0) ∷ [])) [] 1 ≡ was_undefined K.Free here [] []
freed_twice = refl

-- int *p = malloc(8); char *c = (char *)p; p[0] = 1; return *(int *)(c + 1);
align : run (main (named to_int ∷ named to_char ∷ []) (0 ∷ 1 ∷ []) (declares_as 0 (malloc to_int 8) ∷ declares_as 1 (cast to_char (get to_int 0)) ∷
    does (set (T.path int here (T.index (get to_int 0) (number 0))) int (number 1)) ∷
    gives (load int (deref int (cast to_int (of to_char (T.pointer_add O.Add (get to_char 1) (number 1)))))) ∷ [])) [] 1 ≡ was_undefined K.Align here [] []
align = refl

-- int *p = 0; int **q = &p; char **r = (char **)q; return *r == 0;
pointer_type : run (main (in_memory to_int ∷ named to_pointer ∷ named to_char_pointer ∷ []) (0 ∷ 1 ∷ 2 ∷ []) (declares_as 0 (of to_int T.null) ∷
    declares_as 1 (of to_pointer (T.address_of (local to_int 0))) ∷ declares_as 2 (cast to_char_pointer (get to_pointer 1)) ∷
    gives (compare C.Equal (load to_char (deref to_char (get to_char_pointer 2))) (of to_char T.null)) ∷ [])) [] 1
    ≡ was_undefined K.Pointer here [] []
pointer_type = refl

-- int (*f)(void) = 0; return f();
call_null : run (main (named to_function ∷ []) (0 ∷ []) (declares_as 0 (of to_function T.null) ∷
    gives (of int (T.call_through (get to_function 0) T.no_expressions)) ∷ [])) [] 1 ≡ was_undefined K.Call here [] []
call_null = refl

-- struct S *p = malloc(67108864 * sizeof(struct S)); return p == 0;
huge : run (main (named to_record ∷ []) (0 ∷ []) (declares_as 0 (of to_record (T.allocate 0 (T.some_expression (of unsigned (T.constant 67108864))) false)) ∷
    gives (compare C.Equal (get to_record 0) (of to_record T.null)) ∷ [])) [] 1 ≡ was_undefined K.Huge here [] []
huge = refl

-- int main(void) { malloc(33554433); return 0; }
room : kept (main [] [] (does (library to_void L.Malloc (of unsigned (T.constant 33554433) ∷ [])) ∷ gives (number 0) ∷ [])) [] 1
    ≡ no_room Live 33554433 [] []
room = refl

-- int x = 1, y = 0; return x / y;
division : run (main (named int ∷ named int ∷ []) (0 ∷ 1 ∷ []) (declares_as 0 (number 1) ∷ declares_as 1 (number 0) ∷
    gives (binary B.Divide (get int 0) (get int 1)) ∷ [])) [] 1 ≡ was_undefined K.Division here [] []
division = refl
