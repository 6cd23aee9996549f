use Rattle.std.proofs.Common.{◌≡◌, ◌++◌, drop}
use Rattle.c_numbers.specs.TypeNumbers.TypeKeys.{types_key}
use Rattle.c_types.specs.Views.{types_of}
use Rattle.c_numbers.proofs.type_numbers.type_keys.+append_type.Given as goal

abbrev pub invariant-loop-parameter : goal.invariant-loop-parameter
invariant-loop-parameter l = l.key.items ++ types_key (types_of (drop l.parameter-index l.parameter-items)) ≡ l.initial.key.items ++ types_key (types_of l.parameter-items)
