-- Where an expression stands, as far as its facts depend on that (own).
--
-- A variable v of type `struct T *` may become one variable for each part of T's fields, if v is used in four ways alone: in `v[e].f`, `free(v)` and tests
-- against null; on the left of `v = allocation` and `v = 0`; with that allocation or null on the right, or a null in a test; and in such an
-- assignment whose value is not used. Wherever an expression stands in one of these ways, it is permitted there.
use Rattle.std.specs.Prelude.{ℕ, Bool, true, false, ◌&&◌, ◌||◌, if◌then◌else◌, Option, Some, None}
use Rattle.c_typed.specs.declared.operators.CompareOp.{CompareOp}
use Rattle.c_typed.specs.declared.operators.CompareOp.TheVariants.{Equal, NotEqual}
use Rattle.c_typed.specs.declared.operators.LibraryFunction.{LibraryFunction}
use Rattle.c_typed.specs.declared.operators.LibraryFunction.TheVariants.{Free}
use Rattle.c_typed.specs.Trees as T
use Rattle.c_typed.specs.Trees.{Expression, Path}
use Rattle.c_facts.specs.declared.contexts.Context.{Context}
use Rattle.c_facts.specs.declared.contexts.Context.TheVariants.{Plain, Permitted, Argument}

-- ---- the parts of these ways

-- v, as what is assigned: an object that is there from the start of the program (C99 6.2.4)
abbrev pub is_object : Path ℕ → Bool
is_object (T.path t at (T.object n)) = true
is_object p = false

-- v, for its value (6.3.2.1)
abbrev pub is_variable : Expression ℕ → Bool
is_variable (T.expression t at (T.load p)) = is_object p
is_variable e = false

abbrev pub is_null_pointer : Expression ℕ → Bool
is_null_pointer (T.expression t at T.null) = true
is_null_pointer e = false

-- an allocation of records, or null
abbrev pub is_made : Expression ℕ → Bool
is_made (T.expression t at T.null) = true
is_made (T.expression t at (T.allocate r count zeroed)) = true
is_made e = false

-- `v = allocation` or `v = 0` (6.5.16.1)
abbrev pub is_making : Expression ℕ → Bool
is_making (T.expression t at (T.assign p x)) = is_object p && is_made x
is_making e = false

-- `v == 0`, `0 != v` and the like (6.5.9)
abbrev pub is_equality : CompareOp → Bool
is_equality Equal = true
is_equality NotEqual = true
is_equality op = false

abbrev pub is_null_test : CompareOp → (x y : Expression ℕ) → Bool
is_null_test op x y = is_equality op && ((is_variable x && is_null_pointer y) || (is_null_pointer x && is_variable y))

-- ---- where an expression stands

abbrev pub is_permitted : Context → Bool
is_permitted Permitted = true
is_permitted context = false

abbrev pub permitted_if : Bool → Context
permitted_if permits = if permits then Permitted else Plain

-- the function of the library to which a conversion passes its operand (6.5.2.2); one that is written is no part of the call
abbrev pub passes : Context → (written : Bool) → Option LibraryFunction
passes (Argument which) written = if written then None else Some which
passes context written = None

abbrev pub is_free : Option LibraryFunction → Bool
is_free (Some Free) = true
is_free which = false
