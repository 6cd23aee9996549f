-- Runs by computation: statements, calls, lifetimes and turns (C99 6.2.4, 6.8, 6.9.1).
use Rattle.std.specs.Prelude.{◌≡◌, ℕ, ◌-◌, ◌^◌, true, false, List, [], ◌∷◌, Option, Some, None, refl}
use Rattle.lay_base.specs.declared.faults.UndefinedKind.TheVariants as K
use Rattle.c_typed.specs.declared.operators.BinaryOp.TheVariants as B
use Rattle.c_typed.specs.declared.operators.CompareOp.TheVariants as C
use Rattle.c_typed.specs.declared.operators.LibraryFunction.TheVariants as L
use Rattle.c_typed.specs.declared.operators.StepOp.TheVariants as S
use Rattle.c_typed.specs.Programs.{ProgramData}
use Rattle.c_typed.specs.Trees as T
use Rattle.block_memory.specs.RunWorlds.Events.{Event, put, allocated, freed, loaded, stored, reached, entered, left, began, entries_of, begins_of, heap_weight}
use Rattle.block_memory.specs.RunWorlds.Events.{shown}
use Rattle.c_meaning.specs.ExampleParts.{int, unsigned, char, to_int, to_char, to_void, nothing, of_nothing, to_function, two_ints, a_record, to_record}
use Rattle.c_meaning.specs.ExampleParts.{to_pointer, of_int, here, there, of, of_at, number, local, get, load, deref, element, set, binary, compare, cast}
use Rattle.c_meaning.specs.ExampleParts.{library, call, malloc, putchar, does, gives, declares, declares_as, named, in_memory, a_function, program, main, all}
use Rattle.c_meaning.specs.Run.{RunEnd, ended, went_on, was_undefined, no_room, run, kept, trace_of}

abbrev says : T.Expression ℕ → T.Statement ℕ
says e = does (putchar e)

abbrev block : List (T.Statement ℕ) → T.Statement ℕ
block body = T.block [] (all body)

abbrev increments : ℕ → T.Expression ℕ
increments x = of int (T.step S.Increment false (local int x))

-- ---- loops

-- for (int i = 48; i < 51; i++) { if (i == 49) continue; putchar(i); } return getchar();
abbrev counting : ProgramData
counting = main (named int ∷ []) [] (
    T.for (0 ∷ []) (all (declares_as 0 (number 48) ∷ [])) (Some (compare C.Less (get int 0) (number 51))) (Some (increments 0))
    (block (T.when (compare C.Equal (get int 0) (number 49)) T.continue ∷ says (get int 0) ∷ [])) ∷
    gives (library int L.Getchar []) ∷ [])

counts : run counting (7 ∷ 8 ∷ []) 4 ≡ ended (48 ∷ 50 ∷ []) 7 (8 ∷ [])
counts = refl

-- the fourth turn, which is the third of the loop, does not begin
counts_short : run counting (7 ∷ 8 ∷ []) 3 ≡ went_on (48 ∷ []) (7 ∷ 8 ∷ [])
counts_short = refl

no_turn : run counting (7 ∷ []) 0 ≡ went_on [] (7 ∷ [])
no_turn = refl

end_of_input : run counting [] 4 ≡ ended (48 ∷ 50 ∷ []) 255 []
end_of_input = refl

loop_counts : begins_of 0 0 (trace_of counting [] 9) ≡ 3
loop_counts = refl

-- int i = 0; do { putchar(i); if (i == 1) break; i++; } while (1);
do_while : run (main (named int ∷ []) (0 ∷ []) (declares_as 0 (number 0) ∷
    T.do_while (block (says (get int 0) ∷ T.when (compare C.Equal (get int 0) (number 1)) T.break ∷ does (increments 0) ∷ [])) (number 1) ∷ [])) [] 3
    ≡ ended (0 ∷ 1 ∷ []) 0 []
do_while = refl

-- while (1) ; uses up all turns
for_ever : run (main [] [] (T.while (number 1) (block []) ∷ [])) [] 5 ≡ went_on [] []
for_ever = refl

-- loops are numbered in the order of the text: while (0) ; for (int i = 0; i < 2; i++) while (0) ;
second_loop : begins_of 0 1 (trace_of (main (named int ∷ []) [] (T.while (number 0) (block []) ∷
    T.for (0 ∷ []) (all (declares_as 0 (number 0) ∷ [])) (Some (compare C.Less (get int 0) (number 2))) (Some (increments 0))
    (T.while (number 0) (block [])) ∷ [])) [] 9) ≡ 2
second_loop = refl

-- ---- switch

-- switch (n) { case 1: putchar(1); default: putchar(3); case 2: case 4: putchar(2); break; case 5: putchar(5); } putchar(9);
abbrev switching : ℕ → RunEnd
switching n = run (main [] [] (T.switch (number n) [] (
    T.and_arm (1 ∷ []) false (all (says (number 1) ∷ [])) (T.and_arm [] true (all (says (number 3) ∷ []))
    (T.and_arm (2 ∷ 4 ∷ []) false (all (says (number 2) ∷ T.break ∷ [])) (T.and_arm (5 ∷ []) false (all (says (number 5) ∷ [])) T.no_arms)))) ∷
    says (number 9) ∷ [])) [] 1

falls_through : switching 1 ≡ ended (1 ∷ 3 ∷ 2 ∷ 9 ∷ []) 0 []
falls_through = refl

second_label : switching 4 ≡ ended (2 ∷ 9 ∷ []) 0 []
second_label = refl

last_arm : switching 5 ≡ ended (5 ∷ 9 ∷ []) 0 []
last_arm = refl

by_default : switching 7 ≡ ended (3 ∷ 2 ∷ 9 ∷ []) 0 []
by_default = refl

-- switch (2) { case 1: putchar(1); }
no_arm : run (main [] [] (T.switch (number 2) [] (T.and_arm (1 ∷ []) false (all (says (number 1) ∷ [])) T.no_arms) ∷ [])) [] 1 ≡ ended [] 0 []
no_arm = refl

-- switch (1) { int x; case 1: x = 4; putchar(x); } a declaration that is not reached leaves its object empty
declared_in_switch : run (main (named int ∷ []) [] (T.switch (number 1) (0 ∷ []) (T.and_arm [] false (all (declares_as 0 (number 3) ∷ []))
    (T.and_arm (1 ∷ []) false (all (says (get int 0) ∷ [])) T.no_arms)) ∷ [])) [] 1 ≡ was_undefined K.Empty here [] []
declared_in_switch = refl

-- while (1) switch (1) { case 1: continue; } goes on with the loop
continue_in_switch : run (main [] [] (T.while (number 1) (T.switch (number 1) [] (T.and_arm (1 ∷ []) false (all (T.continue ∷ [])) T.no_arms)) ∷ [])) [] 3
    ≡ went_on [] []
continue_in_switch = refl

-- ---- lifetimes

-- int *p; { int x = 7; p = &x; putchar(*p); } return *p;
out_of_scope : run (main (named to_int ∷ in_memory int ∷ []) (0 ∷ []) (declares 0 ∷
    T.block (1 ∷ []) (all (declares_as 1 (number 7) ∷ does (set (local to_int 0) to_int (of to_int (T.address_of (local int 1)))) ∷
    says (load int (deref int (get to_int 0))) ∷ [])) ∷ gives (load int (deref int (get to_int 0))) ∷ [])) [] 1
    ≡ was_undefined K.Dead here (7 ∷ []) []
out_of_scope = refl

-- for (int i = 0; i < 2; i++) { int x; if (i == 0) x = 5; putchar(x); } the object of each turn is a new one
anew_each_turn : run (main (named int ∷ named int ∷ []) [] (
    T.for (0 ∷ []) (all (declares_as 0 (number 0) ∷ [])) (Some (compare C.Less (get int 0) (number 2))) (Some (increments 0))
    (T.block (1 ∷ []) (all (declares 1 ∷ T.when (compare C.Equal (get int 0) (number 0)) (does (set (local int 1) int (number 5))) ∷
    says (get int 1) ∷ []))) ∷ [])) [] 9 ≡ was_undefined K.Empty here (5 ∷ []) []
anew_each_turn = refl

-- { int x = 7; p = &x; break; } in a loop ends the block of x too
left_by_break : run (main (named to_int ∷ in_memory int ∷ []) (0 ∷ []) (declares 0 ∷
    T.while (number 1) (T.block (1 ∷ []) (all (declares_as 1 (number 7) ∷ does (set (local to_int 0) to_int (of to_int (T.address_of (local int 1)))) ∷
    T.break ∷ []))) ∷ gives (load int (deref int (get to_int 0))) ∷ [])) [] 2 ≡ was_undefined K.Dead here [] []
left_by_break = refl

-- ---- calls

-- int f(int n) { if (n) return n + f(n - 1); return 0; } int main(void) { return f(5); }
abbrev sums : ProgramData
sums = program [] (a_function of_nothing [] [] (block (gives (call 1 (number 5 ∷ [])) ∷ [])) ∷
    a_function of_int (named int ∷ []) [] (block (T.when (get int 0)
    (gives (binary B.Add (get int 0) (call 1 (binary B.Subtract (get int 0) (number 1) ∷ [])))) ∷ gives (number 0) ∷ [])) ∷ [])

recursion : run sums [] 7 ≡ ended [] 15 []
recursion = refl

-- `main` and six calls of f are seven turns
recursion_short : run sums [] 6 ≡ went_on [] []
recursion_short = refl

entries : entries_of 1 (trace_of sums [] 7) ≡ 6
entries = refl

-- int f(int n) { int *p = &n; if (n) { f(n - 1); } return *p; } each call has a parameter of its own
own_parameters : run (program [] (a_function of_nothing [] [] (block (gives (call 1 (number 2 ∷ [])) ∷ [])) ∷
    a_function of_int (in_memory int ∷ []) (named to_int ∷ []) (T.block (1 ∷ []) (all (
    declares_as 1 (of to_int (T.address_of (local int 0))) ∷
    T.when (get int 0) (does (call 1 (binary B.Subtract (get int 0) (number 1) ∷ []))) ∷ gives (load int (deref int (get to_int 1))) ∷ []))) ∷ [])) [] 9
    ≡ ended [] 2 []
own_parameters = refl

-- int *f(void) { int x = 1; return &x; } int main(void) { return *f(); }
dead_after_return : run (program [] (a_function of_nothing [] [] (block (gives (load int (deref int (of to_int (T.call 1 T.no_expressions)))) ∷ [])) ∷
    a_function of_nothing [] (in_memory int ∷ []) (T.block (0 ∷ []) (all (declares_as 0 (number 1) ∷ gives (of to_int (T.address_of (local int 0))) ∷ []))) ∷ []))
    [] 9 ≡ was_undefined K.Dead here [] []
dead_after_return = refl

-- int f(void) { } int main(void) { f(); return f(); } only where its value is used it is missed
no_value : run (program [] (a_function of_nothing [] [] (block (does (call 1 []) ∷ says (number 1) ∷ gives (of_at 7 int (T.call 1 T.no_expressions)) ∷ [])) ∷
    a_function of_nothing [] [] (block []) ∷ [])) [] 9 ≡ was_undefined K.NoValue (there 7) (1 ∷ []) []
no_value = refl

-- int f(int x) { return x; } int (*g)(void) = (int (*)(void))f; return g(); a function of another type
other_type : run (program [] (a_function of_nothing [] (named to_function ∷ []) (T.block (0 ∷ []) (all (
    declares_as 0 (of to_function (T.function_name 1)) ∷ gives (of int (T.call_through (get to_function 0) T.no_expressions)) ∷ []))) ∷
    a_function of_int (named int ∷ []) [] (block (gives (get int 0) ∷ [])) ∷ [])) [] 9 ≡ was_undefined K.Call here [] []
other_type = refl

-- a function through a pointer of its type
through_a_pointer : run (program [] (a_function of_nothing [] (named to_function ∷ []) (T.block (0 ∷ []) (all (
    declares_as 0 (of to_function (T.function_name 1)) ∷ gives (of int (T.call_through (get to_function 0) T.no_expressions)) ∷ []))) ∷
    a_function of_nothing [] [] (block (gives (number 6) ∷ [])) ∷ [])) [] 9 ≡ ended [] 6 []
through_a_pointer = refl

-- falling off the end of `main`
falls_off : run (main [] [] []) [] 1 ≡ ended [] 0 []
falls_off = refl

-- int main(void) { if (getchar() == 1) return main() + 4; } the inner call falls off
falls_off_within : run (main [] [] (T.when (compare C.Equal (library int L.Getchar []) (number 1)) (gives (binary B.Add (call 0 []) (number 4))) ∷ []))
    (1 ∷ 2 ∷ []) 2 ≡ ended [] 4 []
falls_off_within = refl

-- the low 8 bits are the status
low_bits : run (main [] [] (gives (number 511) ∷ [])) [] 1 ≡ ended [] 255 []
low_bits = refl

-- ---- what is told of allocations

-- struct S *p = malloc(2 * sizeof(struct S)); p->y = 3; p[1].x = p->y; free(p); return 0;
abbrev telling : ProgramData
telling = main (named to_record ∷ []) (0 ∷ []) (
    declares_as 0 (of to_record (T.allocate 0 (T.some_expression (of unsigned (T.constant 2))) false)) ∷
    does (set (T.path int here (T.member (T.path a_record here (T.deref (get to_record 0))) 0 1)) int (number 3)) ∷
    does (set (T.path int here (T.member (T.path a_record here (T.index (get to_record 0) (number 1))) 0 0)) int
    (load int (T.path int here (T.member (T.path a_record here (T.deref (get to_record 0))) 0 1)))) ∷
    does (library nothing L.Free (cast to_void (get to_record 0) ∷ [])) ∷ gives (number 0) ∷ [])

told : trace_of telling [] 1
    ≡ left ∷ freed 0 ∷ stored 0 8 4 ∷ loaded 0 4 4 ∷ reached 0 4 ∷ reached 0 8 ∷ stored 0 4 4 ∷ reached 0 4 ∷ allocated 0 (Some (0, 2)) 16 ∷ entered 0 ∷ []
told = refl

-- what of it all languages have
told_to_all : shown (trace_of telling [] 1)
    ≡ left ∷ freed 0 ∷ stored 0 8 4 ∷ loaded 0 4 4 ∷ stored 0 4 4 ∷ allocated 0 None 16 ∷ entered 0 ∷ []
told_to_all = refl
