-- Which types fit where, by computation: the cases that C99 6.5.4, 6.5.6, 6.5.8, 6.5.9, 6.5.15 and 6.5.16 name.
use Rattle.std.proofs.Common.{refl}
use Rattle.std.specs.Prelude.{◌≡◌, List, [], ◌∷◌, map, Bool, true, false, Option, Some, None}
use Rattle.c_types.specs.declared.ty.IntKind.TheVariants.{Char, Short, Int, UInt, Long, ULong}
use Rattle.c_types.specs.Types.{CType, void, integer, pointer, array, function, structure, no_types, and_type}
use Rattle.c_typed.specs.declared.operators.BinaryOp.TheVariants.{Multiply, Add, Subtract, ShiftLeft, BitAnd}
use Rattle.c_typed.specs.declared.operators.CompareOp.{CompareOp}
use Rattle.c_typed.specs.declared.operators.CompareOp.TheVariants.{Equal, NotEqual, Less, GreaterEqual}
use Rattle.c_typed.specs.Fits.{assigns, casts}
use Rattle.c_typed.specs.Rules.{on_numbers, comparing, choosing, moving, differing, updating, is_stepped}

abbrev char : CType
char = integer Char

abbrev int : CType
int = integer Int

abbrev unsigned : CType
unsigned = integer UInt

abbrev to_int : CType
to_int = pointer int

abbrev to_unsigned : CType
to_unsigned = pointer unsigned

abbrev to_void : CType
to_void = pointer void

-- int (*)(int), and void (*)(void)
abbrev to_function : CType
to_function = pointer (function int (and_type int no_types))

abbrev to_other_function : CType
to_other_function = pointer (function void no_types)

-- struct 7 *, of which struct 7 is incomplete
abbrev to_record : CType
to_record = pointer (structure 7)

-- ---- assignment (6.5.16.1): the value's type, whether it is a null pointer constant, the object's type, and whether it may be

abbrev assignments : List (CType × Bool × CType × Bool)
assignments =
    (int, false, char, true) ∷
    (integer ULong, false, char, true) ∷
    (to_int, false, to_int, true) ∷
    (to_int, false, to_unsigned, false) ∷
    (pointer char, false, pointer (integer Short), false) ∷
    (to_int, false, to_void, true) ∷
    (to_void, false, to_int, true) ∷
    (to_void, false, to_record, true) ∷
    (to_record, false, to_void, true) ∷
    (to_record, false, pointer (structure 6), false) ∷
    (to_void, false, to_function, false) ∷
    (to_function, false, to_void, false) ∷
    (to_void, true, to_function, true) ∷
    (int, true, to_function, true) ∷
    (int, true, to_int, true) ∷
    (int, false, to_int, false) ∷
    (to_int, false, int, false) ∷
    (to_void, true, int, false) ∷
    (to_function, false, to_function, true) ∷
    (to_function, false, to_other_function, false) ∷
    (pointer to_int, false, to_void, true) ∷
    (pointer to_int, false, pointer to_void, false) ∷
    (pointer (array int 3), false, pointer (array int 3), true) ∷
    (pointer (array int 3), false, pointer (array int 4), false) ∷
    (pointer (array int 3), false, to_int, false) ∷
    -- nothing is assigned to or from void, and no record or array is the value of an expression
    (void, false, int, false) ∷
    (int, false, void, false) ∷
    (void, false, void, false) ∷
    (structure 0, false, structure 0, false) ∷
    (array int 3, false, array int 3, false) ∷
    []

assigned : map (λ row. assigns row.0 row.1 row.2) assignments ≡ map (λ row. row.3) assignments
assigned = refl

-- ---- casts (6.5.4)

abbrev written : List (CType × Bool × CType × Bool)
written =
    (int, false, char, true) ∷
    (char, false, integer ULong, true) ∷
    (to_int, false, to_unsigned, true) ∷
    (to_int, false, to_void, true) ∷
    (to_void, false, to_record, true) ∷
    (to_function, false, to_other_function, true) ∷
    (to_function, false, to_void, false) ∷
    (to_int, false, to_function, false) ∷
    (to_void, true, to_function, true) ∷
    (int, true, to_function, true) ∷
    (int, true, to_int, true) ∷
    (int, false, to_int, false) ∷
    (to_int, false, int, false) ∷
    (to_int, false, void, true) ∷
    (void, false, void, true) ∷
    (void, false, int, false) ∷
    (int, false, structure 0, false) ∷
    (to_int, false, array int 3, false) ∷
    (int, false, function int no_types, false) ∷
    []

casted : map (λ row. casts row.0 row.1 row.2) written ≡ map (λ row. row.3) written
casted = refl

-- ---- `?:` (6.5.15)

abbrev choices : List (CType × Bool × CType × Bool × Option CType)
choices =
    (char, false, integer Short, false, Some int) ∷
    (unsigned, false, integer Long, false, Some (integer ULong)) ∷
    (int, true, int, true, Some int) ∷
    (void, false, void, false, Some void) ∷
    (void, false, int, false, None) ∷
    (to_int, false, to_int, false, Some to_int) ∷
    (to_int, false, int, true, Some to_int) ∷
    (int, true, to_int, false, Some to_int) ∷
    (to_int, false, to_void, true, Some to_int) ∷
    (to_void, true, to_int, false, Some to_int) ∷
    (to_int, false, to_void, false, Some to_void) ∷
    (to_void, false, to_int, false, Some to_void) ∷
    (to_void, true, int, true, Some to_void) ∷
    (to_void, true, to_function, false, Some to_function) ∷
    (int, true, to_function, false, Some to_function) ∷
    (to_void, false, to_function, false, None) ∷
    (to_int, false, to_unsigned, false, None) ∷
    (to_int, false, int, false, None) ∷
    (to_function, false, to_other_function, false, None) ∷
    (structure 0, false, structure 0, false, None) ∷
    []

chosen : map (λ row. choosing row.0 row.1 row.2 row.3) choices ≡ map (λ row. row.4) choices
chosen = refl

-- ---- comparisons (6.5.8, 6.5.9): the type to which both operands are converted

abbrev comparisons : List (CompareOp × CType × Bool × CType × Bool × Option CType)
comparisons =
    (Equal, char, false, char, false, Some int) ∷
    (Less, unsigned, false, integer Long, false, Some (integer ULong)) ∷
    (Equal, to_int, false, to_int, false, Some to_int) ∷
    (Equal, to_int, false, int, true, Some to_int) ∷
    (NotEqual, int, true, to_int, false, Some to_int) ∷
    (Equal, to_int, false, int, false, None) ∷
    (Equal, to_int, false, to_void, false, Some to_void) ∷
    (Equal, to_int, false, to_void, true, Some to_int) ∷
    (Equal, to_function, false, int, true, Some to_function) ∷
    (NotEqual, to_function, false, to_void, true, Some to_function) ∷
    (Equal, to_function, false, to_void, false, None) ∷
    (Equal, to_function, false, to_function, false, Some to_function) ∷
    (Equal, to_int, false, to_unsigned, false, None) ∷
    (Less, to_int, false, to_int, false, Some to_int) ∷
    (GreaterEqual, to_record, false, to_record, false, Some to_record) ∷
    (Less, to_int, false, to_void, false, None) ∷
    (Less, to_void, false, to_void, false, Some to_void) ∷
    (Less, to_int, false, int, true, None) ∷
    (Less, to_int, false, to_void, true, None) ∷
    (Less, to_function, false, to_function, false, None) ∷
    (Less, void, false, void, false, None) ∷
    []

compares : map (λ row. comparing row.0 row.1 row.2 row.3 row.4) comparisons ≡ map (λ row. row.5) comparisons
compares = refl

-- ---- numbers: the left operand's type and the result's, and the right operand's

number_operators : on_numbers Multiply char (integer Short) ∷ on_numbers Add unsigned (integer Long) ∷ on_numbers ShiftLeft char (integer ULong)
    ∷ on_numbers ShiftLeft (integer ULong) char ∷ on_numbers Add to_int int ∷ on_numbers BitAnd int to_int ∷ on_numbers ShiftLeft int to_int
    ∷ on_numbers Add void int ∷ []
    ≡ Some (int, int) ∷ Some (integer ULong, integer ULong) ∷ Some (int, integer ULong) ∷ Some (integer ULong, int) ∷ None ∷ None ∷ None ∷ None ∷ []
number_operators = refl

-- ---- pointers (6.5.6); 7 records are complete, so struct 7 is not

moved : moving 7 to_int char ∷ moving 7 to_int (integer ULong) ∷ moving 7 to_int to_int ∷ moving 7 to_void int ∷ moving 7 to_record int
    ∷ moving 8 to_record int ∷ moving 7 to_function int ∷ moving 7 (array int 3) int ∷ moving 7 int int ∷ []
    ≡ Some int ∷ Some (integer ULong) ∷ None ∷ None ∷ None ∷ Some int ∷ None ∷ None ∷ None ∷ []
moved = refl

differences : differing 7 to_int to_int ∷ differing 7 to_int to_unsigned ∷ differing 7 to_void to_void ∷ differing 7 to_record to_record
    ∷ differing 8 to_record to_record ∷ differing 7 to_function to_function ∷ differing 7 to_int int ∷ []
    ≡ true ∷ false ∷ false ∷ false ∷ true ∷ false ∷ false ∷ []
differences = refl

-- ---- compound assignment (6.5.16.2), `++` and `--`

updated : updating 7 Add char (integer Long) ∷ updating 7 Multiply int unsigned ∷ updating 7 ShiftLeft char (integer Short) ∷ updating 7 Add to_int char
    ∷ updating 7 Subtract to_int (integer Long) ∷ updating 7 Multiply to_int int ∷ updating 7 Subtract to_int to_int ∷ updating 7 Add int to_int
    ∷ updating 7 Add to_void int ∷ updating 7 Add (structure 0) int ∷ updating 7 ShiftLeft int to_int ∷ []
    ≡ Some (integer Long) ∷ Some unsigned ∷ Some int ∷ Some int ∷ Some (integer Long) ∷ None ∷ None ∷ None ∷ None ∷ None ∷ None ∷ []
updated = refl

stepped : is_stepped 7 char ∷ is_stepped 7 to_int ∷ is_stepped 7 to_void ∷ is_stepped 7 to_record ∷ is_stepped 7 to_function ∷ is_stepped 7 (array int 3) ∷ []
    ≡ true ∷ true ∷ false ∷ false ∷ false ∷ false ∷ []
stepped = refl
