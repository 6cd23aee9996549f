-- Lowered code, and its runs, by computation.
use Rattle.std.specs.Prelude.{◌≡◌, ℕ, true, false, List, [], ◌∷◌, Option, Some, None, refl, slice_get}
use Rattle.lay_base.specs.declared.faults.UndefinedKind.TheVariants as K
use Rattle.c_types.specs.declared.ty.IntKind.TheVariants.{Int}
use Rattle.c_typed.specs.declared.operators.BinaryOp.TheVariants as B
use Rattle.c_typed.specs.declared.operators.CompareOp.TheVariants as C
use Rattle.c_typed.specs.declared.operators.LibraryFunction.TheVariants as L
use Rattle.c_typed.specs.declared.operators.StepOp.TheVariants as StepOp
use Rattle.c_typed.specs.Programs.{ProgramData, FunctionData}
use Rattle.c_typed.specs.Trees as T
use Rattle.c_meaning.specs.ExampleParts.{int, to_int, of_nothing, of_int, here, there, of, of_at, number, local, get, deref, set, binary, compare, library, call, putchar}
use Rattle.c_meaning.specs.ExampleParts.{does, gives, declares_as, named, in_memory, a_function, program, main, all}
use Rattle.c_meaning.specs.Run.{RunEnd, ended, went_on, was_undefined, seen, start}
use Rattle.tac_ir.specs.Running.{code_run}
use Rattle.tac_ir.specs.declared.step.Operand.{Operand}
use Rattle.tac_ir.specs.declared.step.Operand.TheVariants as O
use Rattle.tac_ir.specs.declared.step.Row.{Row}
use Rattle.tac_ir.specs.declared.step.Sort.TheVariants.{Number}
use Rattle.tac_ir.specs.declared.step.Step.{Step}
use Rattle.tac_ir.specs.declared.step.Step.TheVariants as S
use Rattle.tac_ir.specs.declared.step.Target.TheVariants.{Left, Label}
use Rattle.lower_tac.specs.Statements.{lowered, body_code}

-- the run of the code of a program, in so many steps
abbrev code_ends : ProgramData → (input : List ℕ) → (turns steps : ℕ) → RunEnd
code_ends p input turns steps = seen (code_run p.types (lowered p) (start p input turns false) steps)

-- the steps of the function of that number
abbrev steps_of : ProgramData → ℕ → Option FunctionData → List Step
steps_of p g None = []
steps_of p g (Some f) = by_body f.body
  where
    by_body : Option (T.Statement ℕ) → List Step
    by_body None = []
    by_body (Some body) = (body_code p g f body).code

abbrev code_of : ProgramData → (g : ℕ) → List Step
code_of p g = steps_of p g (slice_get p.functions g)

abbrev x : Operand
x = O.Temp K.Empty 0 here

-- a temporary in which the value of an expression is held
abbrev held : ℕ → Operand
held t = O.Temp K.NoValue t here

abbrev row : (first count : ℕ) → Row
row first count = record { first = first; count = count }

-- ---- a loop: for (int i = 48; i < 51; i++) { if (i == 49) continue; putchar(i); } return getchar();

abbrev counting : ProgramData
counting = main (named int ∷ []) [] (
    T.for (0 ∷ []) (all (declares_as 0 (number 48) ∷ [])) (Some (compare C.Less (get int 0) (number 51))) (Some (of int (T.step StepOp.Increment false (local int 0))))
    (T.block [] (all (T.when (compare C.Equal (get int 0) (number 49)) T.continue ∷ does (putchar (get int 0)) ∷ []))) ∷
    gives (library int L.Getchar []) ∷ [])

-- the jump to the body leads to its label; each other one says how many steps are left where it leads to
counting_code : code_of counting 0 ≡ S.Clear 0 ∷ S.Set 0 (O.Word 48) ∷ S.Jump (Left 4)
    ∷ S.Began 0 0 ∷ S.Test here C.Equal Int false x (O.Word 49) (Left 7) ∷ S.Jump (Left 5) ∷ S.Set 1 x ∷ S.Library 1 here L.Putchar (row 1 1)
    ∷ S.Update 0 here B.Add 0 (Number Int) Int x (O.Word 1) ∷ S.Test here C.Less Int true x (O.Word 51) (Label 0)
    ∷ S.Library 1 here L.Getchar (row 1 0) ∷ S.Return (Some (held 1)) ∷ S.Return (Some (O.Word 0)) ∷ []
counting_code = refl

counts : code_ends counting (7 ∷ 8 ∷ []) 4 100 ≡ ended (48 ∷ 50 ∷ []) 7 (8 ∷ [])
counts = refl

-- the fourth turn does not begin
counts_short : code_ends counting (7 ∷ 8 ∷ []) 3 100 ≡ went_on (48 ∷ []) (7 ∷ 8 ∷ [])
counts_short = refl

-- ---- the left operand is read before the right one has its effect: int i = 1; return i - (i = 5);

abbrev ordered : ProgramData
ordered = main (named int ∷ []) (0 ∷ []) (declares_as 0 (number 1) ∷ gives (binary B.Subtract (get int 0) (set (local int 0) int (number 5))) ∷ [])

ordered_code : code_of ordered 0 ≡ S.Clear 0 ∷ S.Set 0 (O.Word 1)
    ∷ S.Set 1 x ∷ S.Set 0 (O.Word 5) ∷ S.Set 2 x ∷ S.Binary 1 here B.Subtract Int Int (held 1) (held 2) ∷ S.Return (Some (held 1)) ∷ S.Return (Some (O.Word 0)) ∷ []
ordered_code = refl

ordered_ends : code_ends ordered [] 1 100 ≡ ended [] 252 []
ordered_ends = refl

-- ---- an uninitialized local is undefined where it is read, before the right operand is evaluated

abbrev empty : ProgramData
empty = main (named int ∷ []) (0 ∷ []) (gives (binary B.Add (of_at 7 int (T.load (local int 0))) (putchar (number 65))) ∷ [])

empty_ends : code_ends empty [] 1 100 ≡ was_undefined K.Empty (there 7) [] []
empty_ends = refl

-- ---- a condition: return a && b; with 2 and 3 is 1

abbrev both : ProgramData
both = main (named int ∷ named int ∷ []) (0 ∷ 1 ∷ []) (declares_as 0 (number 2) ∷ declares_as 1 (number 3) ∷ gives (of int (T.both (get int 0) (get int 1))) ∷ [])

both_code : code_of both 0 ≡ S.Clear 0 ∷ S.Clear 1 ∷ S.Set 0 (O.Word 2) ∷ S.Set 1 (O.Word 3)
    ∷ S.Branch false x (Left 3) ∷ S.Branch false (O.Temp K.Empty 1 here) (Left 3) ∷ S.Set 2 (O.Word 1) ∷ S.Jump (Left 2) ∷ S.Set 2 (O.Word 0)
    ∷ S.Return (Some (held 2)) ∷ S.Return (Some (O.Word 0)) ∷ []
both_code = refl

both_ends : code_ends both [] 1 100 ≡ ended [] 1 []
both_ends = refl

-- ---- a break out of two scopes ends the blocks of both, each in one place: while (1) { int a; { int b; break; } } with both in memory

abbrev left_twice : ProgramData
left_twice = main (in_memory int ∷ in_memory int ∷ []) [] (T.while (number 1) (T.block (0 ∷ []) (all (T.block (1 ∷ []) (all (T.break ∷ [])) ∷ []))) ∷ [])

left_code : code_of left_twice 0 ≡ S.Jump (Left 2) ∷ S.Began 0 0 ∷ S.Begin 0 4 ∷ S.Begin 1 4 ∷ S.Jump (Left 17)
    ∷ S.Jump (Left 11) ∷ S.End 1 ∷ S.Jump (Left 9) ∷ S.End 1 ∷ S.Jump (Left 7) ∷ S.End 1 ∷ S.Jump (Left 5) ∷ S.End 1
    ∷ S.Jump (Left 3) ∷ S.End 0 ∷ S.Jump (Left 1) ∷ S.End 0 ∷ S.Jump (Left 2) ∷ S.End 0 ∷ S.ReturnHeld 2 ∷ S.End 0
    ∷ S.Branch true (O.Word 1) (Label 0) ∷ S.Return (Some (O.Word 0)) ∷ []
left_code = refl

left_ends : code_ends left_twice [] 2 100 ≡ ended [] 0 []
left_ends = refl

-- ---- a value that is returned out of a block waits in the first temporary for the block's end: { int a; return 7; } with it in memory

abbrev returning : ProgramData
returning = main (in_memory int ∷ []) [] (T.block (0 ∷ []) (all (gives (number 7) ∷ [])) ∷ [])

returning_code : code_of returning 0 ≡ S.Begin 0 4 ∷ S.Set 1 (O.Word 7) ∷ S.Jump (Left 4)
    ∷ S.Jump (Left 2) ∷ S.End 0 ∷ S.Return (Some (O.Word 0)) ∷ S.End 0 ∷ S.Return (Some (O.Word 0)) ∷ S.End 0 ∷ S.ReturnHeld 1 ∷ S.End 0
    ∷ S.Return (Some (O.Word 0)) ∷ []
returning_code = refl

returning_ends : code_ends returning [] 1 100 ≡ ended [] 7 []
returning_ends = refl

-- ---- a call, whose value is tested where it is used: int f(int n) { return n + 1; } int main(void) { return f(2) * 3; }

abbrev calling : ProgramData
calling = program [] (a_function of_nothing [] [] (gives (binary B.Multiply (call 1 (number 2 ∷ [])) (number 3)))
    ∷ a_function of_int (named int ∷ []) [] (gives (binary B.Add (get int 0) (number 1))) ∷ [])

calling_code : code_of calling 0 ≡ S.Set 0 (O.Word 2) ∷ S.Call 0 here 1 (row 0 1) ∷ S.Binary 0 here B.Multiply Int Int (held 0) (O.Word 3) ∷ S.Return (Some (held 0))
    ∷ S.Return (Some (O.Word 0)) ∷ []
calling_code = refl

called_code : code_of calling 1 ≡ S.Binary 1 here B.Add Int Int x (O.Word 1) ∷ S.Return (Some (held 1)) ∷ S.Return None ∷ []
called_code = refl

calling_ends : code_ends calling [] 2 100 ≡ ended [] 9 []
calling_ends = refl

-- ---- a switch: the arms stand in their order, and the default is entered where no case fits

abbrev switching : (v : ℕ) → ProgramData
switching v = main [] [] (T.switch (number v) [] (T.and_arm (1 ∷ []) false (all (does (putchar (number 97)) ∷ T.break ∷ []))
    (T.and_arm [] true (all (does (putchar (number 98)) ∷ [])) (T.and_arm (3 ∷ []) false (all (does (putchar (number 99)) ∷ [])) T.no_arms))) ∷ [])

one : code_ends (switching 1) [] 1 100 ≡ ended (97 ∷ []) 0 []
one = refl

default_falls_through : code_ends (switching 2) [] 1 100 ≡ ended (98 ∷ 99 ∷ []) 0 []
default_falls_through = refl

three : code_ends (switching 3) [] 1 100 ≡ ended (99 ∷ []) 0 []
three = refl

-- ---- the value of a `switch` is a number, with a case or without: switch (p) { } with int *p = 0

abbrev switching_pointer : ProgramData
switching_pointer = main (named to_int ∷ []) (0 ∷ []) (declares_as 0 (of to_int T.null) ∷ T.switch (of_at 7 to_int (T.load (local to_int 0))) [] T.no_arms ∷ [])

pointer_code : code_of switching_pointer 0 ≡ S.Clear 0 ∷ S.Set 0 O.Null ∷ S.Number 1 (there 7) (O.Temp K.Empty 0 (there 7)) ∷ S.Jump (Left 1) ∷ S.Return (Some (O.Word 0)) ∷ []
pointer_code = refl

pointer_ends : code_ends switching_pointer [] 1 100 ≡ was_undefined K.Pointer (there 7) [] []
pointer_ends = refl

-- ---- `&*e` is e: return &*p == p

abbrev back_and_forth : ProgramData
back_and_forth = main (named to_int ∷ []) (0 ∷ []) (declares_as 0 (of to_int T.null) ∷
    gives (compare C.Equal (of to_int (T.address_of (deref int (get to_int 0)))) (get to_int 0)) ∷ [])

back_code : code_of back_and_forth 0 ≡ S.Clear 0 ∷ S.Set 0 O.Null ∷ S.Set 1 x ∷ S.Compare 1 here C.Equal Int (held 1) x ∷ S.Return (Some (held 1)) ∷ S.Return (Some (O.Word 0)) ∷ []
back_code = refl

back_ends : code_ends back_and_forth [] 1 100 ≡ ended [] 1 []
back_ends = refl

-- ---- a pointer is no status: that is undefined where `main` is

pointer_status : code_ends (main [] [] (gives (of_at 7 to_int T.null) ∷ [])) [] 1 100 ≡ was_undefined K.Pointer here [] []
pointer_status = refl
