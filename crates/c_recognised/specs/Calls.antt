-- How many records with a number a call of the library allocates by its arguments, and whether they are zero.
use Rattle.std.specs.Prelude.{ℕ, Bool, true, false, if◌then◌else◌, Option, Some, None}
use Rattle.c_typed.specs.declared.operators.LibraryFunction.{LibraryFunction}
use Rattle.c_typed.specs.declared.operators.LibraryFunction.TheVariants.{Malloc, Calloc}
use Rattle.c_typed.specs.Trees as Trees
use Rattle.c_erasure.specs.Noted.{Noted, unconverted}
use Rattle.c_erasure.specs.Recognised.{allocated, as_unsigned, counted, is_size}

abbrev pub malloc_count : ℕ → Trees.Expressions Noted → Option (Trees.OptionalExpression Noted)
malloc_count r (Trees.and_expression x Trees.no_expressions) = counted r (unconverted x)
malloc_count r all = None

abbrev pub calloc_count : ℕ → Trees.Expressions Noted → Option (Trees.OptionalExpression Noted)
calloc_count r (Trees.and_expression x (Trees.and_expression y Trees.no_expressions)) =
    if is_size r y then Some (Trees.some_expression (as_unsigned x)) else None
calloc_count r all = None

abbrev pub by_call : ℕ → LibraryFunction → Trees.Expressions Noted → Option (Trees.OptionalExpression Noted × Bool)
by_call r Malloc all = allocated (malloc_count r all) false
by_call r Calloc all = allocated (calloc_count r all) true
by_call r which all = None
