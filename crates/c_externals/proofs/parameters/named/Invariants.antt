use Rattle.std.proofs.Common.{◌≡◌, map, drop}
use Rattle.c_types.specs.Views.{types_of}
use Rattle.c_ast.specs.Views.{parameter_of, parameters_of}
use Rattle.c_erasure.specs.Checking.Files.{named_parameters}
use Rattle.c_externals.specs.Receiving.{after_received, received_of}
use Rattle.c_externals.proofs.parameters.named.Given as goal

abbrev pub invariant-loop-index : goal.invariant-loop-index
invariant-loop-index l = named_parameters (parameters_of (map parameter_of l.all)) (types_of l.types) 0
    ≡ after_received (received_of l.received) (named_parameters (parameters_of (map parameter_of (drop l.index l.all))) (types_of (drop l.index l.types)) l.index)
