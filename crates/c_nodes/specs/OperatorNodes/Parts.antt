-- What parts of nodes answer.
use Rattle.std.specs.Prelude.{◌≡◌, Result, Ok, Err, Some, None}
use Rattle.lay_base.specs.declared.no_memory.NoMemory.{NoMemory}
use Rattle.c_types.specs.declared.ty.IntKind.{IntKind}
use Rattle.c_types.specs.Types.{CType, CTypes, void, function, no_types}
use Rattle.c_types.specs.Views.{type_of, types_of}
use Rattle.c_erasure.specs.Noted.{Expression, Thing}
use Rattle.c_erasure.specs.Checking.Nodes as Nodes
use Rattle.c_erasure.specs.Checking.Nodes.{array_of}
use Rattle.c_annotated.specs.Views.{expression_of, path_of, thing_of}
use Rattle.c_nodes.specs.declared.operator_nodes.assignments.Target.{Target}
use Rattle.c_nodes.specs.declared.operator_nodes.assignments.Target.TheVariants.{Scalar, Record}
use Rattle.c_nodes.specs.declared.operator_nodes.calls.Signature.{Signature}
use Rattle.c_nodes.specs.declared.operator_nodes.statement_parts.SwitchValue.{SwitchValue}
use Rattle.c_nodes.specs.declared.operator_nodes.subscripts.Subscripted.{Subscripted}
use Rattle.c_nodes.specs.declared.operator_nodes.subscripts.Subscripted.TheVariants.{Array, Other}

-- an array object with the type of its elements, or what is none
abbrev pub ArrayGives : Thing → Result Subscripted NoMemory → Type 0
ArrayGives th (Ok (Array p t)) = array_of th ≡ Some (path_of p, type_of t)
ArrayGives th (Ok (Other it)) = (array_of th ≡ None) × (thing_of it ≡ th)
ArrayGives th (Err want) = Unit {0}

abbrev pub signature_view : Signature → CTypes × CType
signature_view it = (types_of it.parameters, type_of it.result)

-- the parameters and the result of a function type
abbrev pub parameters_of : CType → CTypes
parameters_of (function t all) = all
parameters_of t = no_types

abbrev pub result_of : CType → CType
result_of (function t all) = t
result_of t = void

abbrev pub target_view : Target → Nodes.Target
target_view (Scalar p) = Nodes.scalar_at (path_of p)
target_view (Record p) = Nodes.record_at (path_of p)

-- the controlling expression of a `switch` with its type
abbrev pub switch_view : SwitchValue → Expression × IntKind
switch_view it = (expression_of it.value, it.kind)
