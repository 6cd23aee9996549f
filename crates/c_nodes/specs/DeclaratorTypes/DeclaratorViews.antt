-- The parts of declarators as the program keeps them. Of the steps of a declarator the one that is taken first stands last.
use Rattle.std.specs.Prelude.{ℕ, List, map, reverse, nat_lt, if◌then◌else◌, Ok, Err}
use Rattle.c_types.specs.declared.ty.IntKind.{IntKind}
use Rattle.c_types.specs.Types.{CType, CTypes, array, function, Record}
use Rattle.c_types.specs.Objects.{parts}
use Rattle.c_types.specs.Views.{type_of, types_of}
use Rattle.c_erasure.specs.Broken.{too_big}
use Rattle.c_erasure.specs.Declarators as Declarators
use Rattle.c_erasure.specs.Checking.Answers.{Answer, ◌>>=◌}
use Rattle.c_erasure.specs.Checking.Declaring as Declaring
use Rattle.c_erasure.specs.Checking.Declaring.{element, result_type, small}
use Rattle.c_nodes.specs.declared.declarator_types.declarators.Derivation.{Derivation}
use Rattle.c_nodes.specs.declared.declarator_types.declarators.Derivation.TheVariants as D
use Rattle.c_nodes.specs.declared.declarator_types.lengths.Integer.{Integer}
use Rattle.c_nodes.specs.declared.declarator_types.declarators.Shape.{Shape}
use Rattle.c_nodes.specs.declared.declarator_types.declarators.Shape.TheVariants as S

abbrev pub derivation_of : Derivation → Declaring.Derivation
derivation_of (D.Pointer at) = Declaring.to_pointer at
derivation_of (D.Array count at n) = Declaring.to_array count at n
derivation_of (D.OpenArray count at) = Declaring.to_open_array count at
derivation_of (D.Function at parameters) = Declaring.to_function at (types_of parameters)

abbrev pub derivations_of : List Derivation → List Declaring.Derivation
derivations_of steps = map derivation_of (reverse steps)

abbrev pub shape_of : Shape → Declarators.Shape
shape_of (S.Closed t) = Declarators.closed (type_of t)
shape_of (S.OpenArray t) = Declarators.open_array (type_of t)

-- a step to an array, and one to a function
abbrev pub array_in : List Record → (count at n : ℕ) → CType → Answer CType
array_in records count at n t = element records count at t >>= λ e. small records at (array e n)

-- a pointer to it is within the limits of types
abbrev pub of_limited_parts : (at : ℕ) → CType → Answer CType
of_limited_parts at t = if nat_lt (parts t) 1024 then Ok t else Err (too_big at)

abbrev pub function_in : (at : ℕ) → CTypes → CType → Answer CType
function_in at parameters t = result_type at t >>= λ r. of_limited_parts at (function r parameters)

-- a number with its type
abbrev pub integer_view : Integer → IntKind × ℕ
integer_view c = (c.kind, c.value)
