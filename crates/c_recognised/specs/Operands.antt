-- Where the size of a record with a number stands in the arguments of a call of the library.
use Rattle.std.specs.Prelude.{ℕ, List, []}
use Rattle.c_typed.specs.Trees as Trees
use Rattle.c_erasure.specs.Noted.{Noted, unconverted}
use Rattle.c_erasure.specs.SizeOperands.{bytes_place, size_place}

abbrev pub malloc_place : ℕ → Trees.Expressions Noted → List ℕ
malloc_place r (Trees.and_expression x Trees.no_expressions) = bytes_place r (unconverted x)
malloc_place r all = []

abbrev pub calloc_place : ℕ → Trees.Expressions Noted → List ℕ
calloc_place r (Trees.and_expression x (Trees.and_expression y Trees.no_expressions)) = size_place r y
calloc_place r all = []
