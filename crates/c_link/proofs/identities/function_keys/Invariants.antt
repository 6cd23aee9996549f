use Rattle.std.proofs.Common.{◌≡◌, ◌++◌, drop, map}
use Rattle.c_typed.specs.Programs.{data_of}
use Rattle.c_link.specs.Joining.{function_identities}
use Rattle.c_link.proofs.identities.function_keys.Given as goal

abbrev pub invariant-loop-n : goal.invariant-loop-n
invariant-loop-n l = map (λ key. key.items) l.keys ++ function_identities l.unit l.n (map data_of (drop l.n l.functions))
    ≡ function_identities l.unit 0 (map data_of l.functions)
