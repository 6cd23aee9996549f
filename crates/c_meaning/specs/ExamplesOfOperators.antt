-- Runs by computation: operators at their edges, conversions, and the order of evaluation (C99 6.3, 6.5).
use Rattle.std.specs.Prelude.{◌≡◌, ℕ, ◌-◌, ◌^◌, true, false, List, [], ◌∷◌, Option, Some, None, refl}
use Rattle.lay_base.specs.declared.faults.UndefinedKind.TheVariants as K
use Rattle.c_types.specs.declared.ty.IntKind.TheVariants as I
use Rattle.c_typed.specs.declared.operators.BinaryOp.{BinaryOp}
use Rattle.c_typed.specs.declared.operators.BinaryOp.TheVariants as B
use Rattle.c_typed.specs.declared.operators.CompareOp.TheVariants as C
use Rattle.c_typed.specs.declared.operators.LibraryFunction.TheVariants as L
use Rattle.c_typed.specs.declared.operators.PointerOp.TheVariants as O
use Rattle.c_typed.specs.declared.operators.StepOp.TheVariants as S
use Rattle.c_typed.specs.declared.operators.UnaryOp.TheVariants as U
use Rattle.c_typed.specs.Trees as T
use Rattle.c_meaning.specs.ExampleParts.{int, unsigned, char, to_int, to_char, to_void, nothing, of_nothing, to_function, two_ints, a_record, to_record}
use Rattle.c_meaning.specs.ExampleParts.{to_pointer, of_int, here, of, number, local, get, load, deref, element, set, binary, compare, cast}
use Rattle.c_meaning.specs.ExampleParts.{library, call, malloc, putchar, does, gives, declares, declares_as, named, in_memory, a_function, program, main, all}
use Rattle.c_meaning.specs.Run.{RunEnd, ended, went_on, was_undefined, no_room, run, kept}

-- what is written of an expression's value is its low byte, and its other bytes behind it
abbrev value_of : T.Expression ℕ → RunEnd
value_of e = run (main (named int ∷ []) (0 ∷ []) (declares_as 0 e ∷ does (putchar (get int 0)) ∷
    does (putchar (binary B.ShiftRight (get int 0) (number 8))) ∷ does (putchar (binary B.ShiftRight (get int 0) (number 24))) ∷ gives (number 0) ∷ [])) [] 1

abbrev shows : List ℕ → RunEnd
shows bytes = ended bytes 0 []

abbrev minus : ℕ → T.Expression ℕ
minus v = number (2 ^ 32 - v)

-- ---- arithmetic wraps

greatest_and_one : value_of (binary B.Add (number 2147483647) (number 1)) ≡ shows (0 ∷ 0 ∷ 128 ∷ [])
greatest_and_one = refl

least_minus_one : value_of (binary B.Subtract (number 2147483648) (number 1)) ≡ shows (255 ∷ 255 ∷ 127 ∷ [])
least_minus_one = refl

product : value_of (binary B.Multiply (number 65537) (number 65537)) ≡ shows (1 ∷ 0 ∷ 0 ∷ [])
product = refl

minus_least : value_of (of int (T.unary U.Minus (number 2147483648))) ≡ shows (0 ∷ 0 ∷ 128 ∷ [])
minus_least = refl

complement : value_of (of int (T.unary U.Complement (number 0))) ≡ shows (255 ∷ 255 ∷ 255 ∷ [])
complement = refl

-- ---- division

rounds_to_zero : value_of (binary B.Divide (minus 7) (number 2)) ≡ shows (253 ∷ 255 ∷ 255 ∷ [])
rounds_to_zero = refl

remainder_has_its_sign : value_of (binary B.Remainder (minus 7) (number 2)) ≡ shows (255 ∷ 255 ∷ 255 ∷ [])
remainder_has_its_sign = refl

least_by_minus_one : value_of (binary B.Divide (number 2147483648) (minus 1)) ≡ was_undefined K.Division here [] []
least_by_minus_one = refl

remainder_by_minus_one : value_of (binary B.Remainder (number 2147483648) (minus 1)) ≡ was_undefined K.Division here [] []
remainder_by_minus_one = refl

by_zero : value_of (binary B.Remainder (number 7) (number 0)) ≡ was_undefined K.Division here [] []
by_zero = refl

-- ---- shifts

by_thirty_one : value_of (binary B.ShiftLeft (number 3) (number 31)) ≡ shows (0 ∷ 0 ∷ 128 ∷ [])
by_thirty_one = refl

by_thirty_two : value_of (binary B.ShiftRight (number 3) (number 32)) ≡ was_undefined K.Shift here [] []
by_thirty_two = refl

by_minus_one : value_of (binary B.ShiftLeft (number 3) (minus 1)) ≡ was_undefined K.Shift here [] []
by_minus_one = refl

arithmetic_shift : value_of (binary B.ShiftRight (minus 256) (number 4)) ≡ shows (240 ∷ 255 ∷ 255 ∷ [])
arithmetic_shift = refl

-- ---- bits and comparisons

bits : value_of (binary B.BitXor (number 65535) (number 65280)) ≡ shows (255 ∷ 0 ∷ 0 ∷ [])
bits = refl

signed_less : value_of (compare C.Less (minus 1) (number 0)) ≡ shows (1 ∷ 0 ∷ 0 ∷ [])
signed_less = refl

unsigned_less : value_of (of int (T.compare C.Less (of unsigned (T.constant 4294967295)) (of unsigned (T.constant 0)))) ≡ shows (0 ∷ 0 ∷ 0 ∷ [])
unsigned_less = refl

not_zero : value_of (of int (T.not (number 7))) ≡ shows (0 ∷ 0 ∷ 0 ∷ [])
not_zero = refl

-- ---- conversions

to_char_and_back : value_of (of int (T.convert (of char (T.convert (number 1023) true)) false)) ≡ shows (255 ∷ 0 ∷ 0 ∷ [])
to_char_and_back = refl

-- char c = 255; c++; return c;
char_wraps : run (main (named char ∷ []) (0 ∷ []) (declares_as 0 (of char (T.constant 255)) ∷ does (of char (T.step S.Increment true (local char 0))) ∷
    gives (of int (T.convert (get char 0) false)) ∷ [])) [] 1 ≡ ended [] 0 []
char_wraps = refl

-- char c = 200; c += 100; return c;
char_sum_wraps : run (main (named char ∷ []) (0 ∷ []) (declares_as 0 (of char (T.constant 200)) ∷ does (of char (T.assign_op B.Add (local char 0) (number 100))) ∷
    gives (of int (T.convert (get char 0) false)) ∷ [])) [] 1 ≡ ended [] 44 []
char_sum_wraps = refl

-- char c = 128; c <<= 1; return c;
char_shift : run (main (named char ∷ []) (0 ∷ []) (declares_as 0 (of char (T.constant 128)) ∷
    does (of char (T.assign_op B.ShiftLeft (local char 0) (number 1))) ∷ gives (of int (T.convert (get char 0) false)) ∷ [])) [] 1 ≡ ended [] 0 []
char_shift = refl

-- ---- what decides is evaluated alone

-- 0 && 1 / 0
and_stops : value_of (of int (T.both (number 0) (binary B.Divide (number 1) (number 0)))) ≡ shows (0 ∷ 0 ∷ 0 ∷ [])
and_stops = refl

-- 7 || 1 / 0
or_stops : value_of (of int (T.either (number 7) (binary B.Divide (number 1) (number 0)))) ≡ shows (1 ∷ 0 ∷ 0 ∷ [])
or_stops = refl

-- 0 ? 1 / 0 : 5
choice : value_of (of int (T.choose (number 0) (binary B.Divide (number 1) (number 0)) (number 5))) ≡ shows (5 ∷ 0 ∷ 0 ∷ [])
choice = refl

-- ---- from left to right

abbrev says : ℕ → T.Expression ℕ
says b = putchar (number b)

-- putchar(1) - putchar(2)
operands : run (main [] [] (gives (binary B.Subtract (says 1) (says 2)) ∷ [])) [] 1 ≡ ended (1 ∷ 2 ∷ []) 255 []
operands = refl

-- int a[2], i = 0; a[i] = i++; return a[0]; the left side first
abbrev left_first : T.Statement ℕ → RunEnd
left_first last = run (main (in_memory two_ints ∷ named int ∷ []) (0 ∷ 1 ∷ []) (declares 0 ∷ declares_as 1 (number 0) ∷
    does (of int (T.assign (element (local two_ints 0) (get int 1)) (of int (T.step S.Increment false (local int 1))))) ∷ last ∷ [])) [] 1

assigned_to_the_first : left_first (gives (load int (element (local two_ints 0) (number 0)))) ≡ ended [] 0 []
assigned_to_the_first = refl

not_to_the_second : left_first (gives (load int (element (local two_ints 0) (number 1)))) ≡ was_undefined K.Empty here [] []
not_to_the_second = refl

-- int x = 1; x += x++; return x; the left side is loaded behind the right operand
loaded_behind : run (main (named int ∷ []) (0 ∷ []) (declares_as 0 (number 1) ∷
    does (of int (T.assign_op B.Add (local int 0) (of int (T.step S.Increment false (local int 0))))) ∷ gives (get int 0) ∷ [])) [] 1 ≡ ended [] 3 []
loaded_behind = refl

-- int x = 5; return x++ - ++x;
steps : run (main (named int ∷ []) (0 ∷ []) (declares_as 0 (number 5) ∷
    gives (binary B.Subtract (of int (T.step S.Increment false (local int 0))) (of int (T.step S.Increment true (local int 0)))) ∷ [])) [] 1
    ≡ ended [] 254 []
steps = refl

-- (putchar(1), putchar(2))
comma : run (main [] [] (gives (of int (T.comma (says 1) (says 2))) ∷ [])) [] 1 ≡ ended (1 ∷ 2 ∷ []) 2 []
comma = refl

-- int f(int x) { return x; } f(putchar(1)) with an argument that exits: putchar(exit(3)) is left out, and what was written stands
exits_inside : run (main [] [] (does (says 9) ∷ does (of int (T.comma (library nothing L.Exit (number 259 ∷ [])) (says 1))) ∷ gives (number 0) ∷ [])) [] 1
    ≡ ended (9 ∷ []) 3 []
exits_inside = refl
