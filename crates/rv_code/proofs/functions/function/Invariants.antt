use Rattle.std.proofs.Common.{◌≡◌, ◌≤◌, ◌++◌, length, reverse, take}
use Rattle.rv_code.specs.Code.{function_code, steps_code}
use Rattle.tac_ir.specs.Code.{data_of}
use Rattle.rv_code.proofs.functions.function.Given as goal

abbrev pub invariant-loop-left : goal.invariant-loop-left
invariant-loop-left l = record {
  inside : l.left ≤ length l.steps;
  code : l.code.items ++ steps_code l.p (data_of l.g) l.l (reverse (take l.left l.steps)) ≡ l.fn.code.items ++ function_code l.fn.p (data_of l.fn.g) l.fn.l;
}

abbrev pub decreases-loop-left : goal.decreases-loop-left
decreases-loop-left l = l.left
