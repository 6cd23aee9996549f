-- Runs by computation: a value of another sort than its use asks for, and blocks that have begun. No program of files comes there.
use Rattle.std.specs.Prelude.{◌≡◌, ℕ, false, [], ◌∷◌, refl}
use Rattle.lay_base.specs.declared.faults.UndefinedKind.TheVariants as K
use Rattle.c_typed.specs.declared.operators.CompareOp.TheVariants as C
use Rattle.c_typed.specs.declared.operators.LibraryFunction.TheVariants as L
use Rattle.c_typed.specs.declared.operators.PointerOp.TheVariants as O
use Rattle.c_typed.specs.declared.operators.UnaryOp.TheVariants as U
use Rattle.c_typed.specs.Trees as T
use Rattle.c_meaning.specs.ExampleParts.{int, to_int, to_void, to_record, here, there, of, of_at, number, local, load, get, deref, element, set, compare, cast}
use Rattle.c_meaning.specs.ExampleParts.{two_ints, library, does, gives, declares, declares_as, named, in_memory, main, all}
use Rattle.c_meaning.specs.Run.{RunEnd, ended, was_undefined, run}

abbrev null : T.Expression ℕ
null = of to_int T.null

abbrev value_of : T.Expression ℕ → RunEnd
value_of e = run (main [] [] (gives e ∷ [])) [] 1

abbrev wrong : RunEnd
wrong = was_undefined K.Pointer here [] []

-- ---- operators and conversions

minus_null : value_of (of int (T.unary U.Minus null)) ≡ wrong
minus_null = refl

null_as_number : value_of (cast int null) ≡ wrong
null_as_number = refl

-- 0 is a null pointer, and no other number is a pointer
zero_as_pointer : value_of (compare C.Equal (cast to_int (number 0)) null) ≡ ended [] 1 []
zero_as_pointer = refl

one_as_pointer : value_of (compare C.Equal (cast to_int (number 1)) null) ≡ wrong
one_as_pointer = refl

-- the operand of pointer type is the pointer, on either side
on_the_right : value_of (compare C.Equal (of to_int (T.pointer_add O.Add (number 0) null)) null) ≡ ended [] 1 []
on_the_right = refl

two_numbers : value_of (of to_int (T.pointer_add O.Add (number 0) (number 0))) ≡ wrong
two_numbers = refl

-- ---- stores, subscripts, sizes and arguments

stored_in_memory : run (main (in_memory int ∷ []) (0 ∷ []) (declares 0 ∷ does (set (local int 0) int null) ∷ [])) [] 1 ≡ wrong
stored_in_memory = refl

-- but what is kept by its name is kept as it is
stored_by_name : run (main (named int ∷ []) (0 ∷ []) (declares_as 0 null ∷ does (set (local int 0) int null) ∷ [])) [] 1 ≡ ended [] 0 []
stored_by_name = refl

subscript : run (main (in_memory two_ints ∷ []) (0 ∷ []) (declares 0 ∷ gives (load int (element (local two_ints 0) null)) ∷ [])) [] 1 ≡ wrong
subscript = refl

count : value_of (of to_record (T.allocate 0 (T.some_expression null) false)) ≡ wrong
count = refl

argument : value_of (library to_void L.Calloc (number 1 ∷ null ∷ [])) ≡ wrong
argument = refl

-- ---- statements, and the status

-- without a case too, at the place of the expression
switched : run (main [] [] (T.switch (of_at 7 to_int T.null) [] T.no_arms ∷ [])) [] 1 ≡ was_undefined K.Pointer (there 7) [] []
switched = refl

-- at the place of `main`
status : value_of (of_at 7 to_int T.null) ≡ wrong
status = refl

-- ---- `&*e` is e, and so is an array `*e` that becomes a pointer

address_of_null : value_of (compare C.Equal (of to_int (T.address_of (deref int null))) null) ≡ ended [] 1 []
address_of_null = refl

address_of_number : value_of (of to_int (T.address_of (deref int (number 7)))) ≡ ended [] 7 []
address_of_number = refl

decayed_number : value_of (of to_int (T.decay (deref two_ints (number 7)))) ≡ ended [] 7 []
decayed_number = refl

-- ---- blocks

-- { int x = 7; p = &x; { x begins anew; return *p; } }
begun_twice : run (main (named to_int ∷ in_memory int ∷ []) (0 ∷ []) (declares 0 ∷
    T.block (1 ∷ []) (all (declares_as 1 (number 7) ∷ does (set (local to_int 0) to_int (of to_int (T.address_of (local int 1)))) ∷
    T.block (1 ∷ []) (all (gives (load int (deref int (get to_int 0))) ∷ [])) ∷ [])) ∷ [])) [] 1 ≡ was_undefined K.Dead here [] []
begun_twice = refl
