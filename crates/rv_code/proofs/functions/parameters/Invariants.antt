use Rattle.std.proofs.Common.{◌≡◌, ◌++◌, drop}
use Rattle.rv_code.specs.Code.{parameters_code}
use Rattle.rv_code.proofs.functions.parameters.Given as goal

abbrev pub invariant-loop-x : goal.invariant-loop-x
invariant-loop-x l = l.code.items ++ parameters_code l.l l.x (drop l.x l.all) ≡ l.fn.code.items ++ parameters_code l.fn.l 0 l.fn.all
