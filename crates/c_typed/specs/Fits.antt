-- Which types fit where: in assignments, casts, comparisons and conditional expressions, and of the library's functions (C99 6.3.2.3, 6.5.4,
-- 6.5.8, 6.5.9, 6.5.15, 6.5.16.1, 7.19.7, 7.20.3, 7.20.4, 7.21).
use Rattle.std.specs.Prelude.{Bool, true, false, ◌&&◌, ◌||◌, not, if◌then◌else◌, Option, Some, None}
use Rattle.c_types.specs.declared.ty.IntKind.TheVariants.{Int, UInt}
use Rattle.c_types.specs.Types.{CType, void, integer, pointer, function, no_types, and_type}
use Rattle.c_types.specs.Sameness.{same_type}
use Rattle.c_typed.specs.declared.operators.CompareOp.{CompareOp}
use Rattle.c_typed.specs.declared.operators.CompareOp.TheVariants.{Equal, NotEqual}
use Rattle.c_typed.specs.declared.operators.LibraryFunction.{LibraryFunction}
use Rattle.c_typed.specs.declared.operators.LibraryFunction.TheVariants.{Malloc, Calloc, Free, Memcpy, Memmove, Memset, Memcmp, Putchar, Getchar, Exit}
use Rattle.c_typed.specs.Conversions.{is_function}

abbrev pub is_void : CType → Bool
is_void void = true
is_void t = false

-- one is `void *`, and the other a pointer to an object, whether it is complete or not
abbrev pub is_void_and_object : CType → CType → Bool
is_void_and_object s t = (is_void s && not (is_function t)) || (is_void t && not (is_function s))

-- May a value of the first type be assigned to the second, or passed, returned or stored as one? `null` tells that it is a null pointer
-- constant. Records are assigned whole, and have a rule of their own.
abbrev pub assigns : CType → (null : Bool) → CType → Bool
assigns (integer k) null (integer l) = true
assigns (integer k) null (pointer t) = null
assigns (pointer s) null (pointer t) = null || same_type s t || is_void_and_object s t
assigns s null t = false

-- May a value of the first type be cast to the second? To `void` anything may.
abbrev pub casts : CType → (null : Bool) → CType → Bool
casts s null void = true
casts (integer k) null (integer l) = true
casts (integer k) null (pointer t) = null
casts (pointer s) null (pointer t) = null || (if is_function s then is_function t else not (is_function t))
casts s null t = false

-- ---- two pointers together: the type to which both are converted, or none where they do not fit

abbrev pub met : CType → Bool → CType → Bool → Option CType
met s s_null t t_null =
    if same_type s t then Some (pointer s)
    else (if s_null then Some (pointer t)
    else (if t_null then Some (pointer s)
    else (if is_void_and_object s t then Some (pointer void) else None)))

-- in `==`, `!=` and `?:`: pointers of one type, one of them `void *`, or one of them null
abbrev pub meeting : CType → Bool → CType → Bool → Option CType
meeting (pointer s) s_null (pointer t) t_null = met s s_null t t_null
meeting (pointer s) s_null (integer l) true = Some (pointer s)
meeting (integer k) true (pointer t) t_null = Some (pointer t)
meeting s s_null t t_null = None

-- in `<` and the like: pointers of one type, to no functions
abbrev pub ordered : CType → CType → Option CType
ordered (pointer s) (pointer t) = if not (is_function s) && same_type s t then Some (pointer s) else None
ordered s t = None

abbrev pub compared : CompareOp → CType → Bool → CType → Bool → Option CType
compared Equal s s_null t t_null = meeting s s_null t t_null
compared NotEqual s s_null t t_null = meeting s s_null t t_null
compared op s s_null t t_null = ordered s t

-- ---- functions

-- the types of the library's functions
abbrev pub bytes : CType
bytes = pointer void

abbrev pub library_type : LibraryFunction → CType
library_type Malloc = function bytes (and_type (integer UInt) no_types)
library_type Calloc = function bytes (and_type (integer UInt) (and_type (integer UInt) no_types))
library_type Free = function void (and_type bytes no_types)
library_type Memcpy = function bytes (and_type bytes (and_type bytes (and_type (integer UInt) no_types)))
library_type Memmove = function bytes (and_type bytes (and_type bytes (and_type (integer UInt) no_types)))
library_type Memset = function bytes (and_type bytes (and_type (integer Int) (and_type (integer UInt) no_types)))
library_type Memcmp = function (integer Int) (and_type bytes (and_type bytes (and_type (integer UInt) no_types)))
library_type Putchar = function (integer Int) (and_type (integer Int) no_types)
library_type Getchar = function (integer Int) no_types
library_type Exit = function void (and_type (integer Int) no_types)
