use Rattle.std.proofs.Common.{◌≡◌, map}
use Rattle.layout_plan.specs.Order.{placed}
use Rattle.layout_plan.proofs.outlining.peeled.Given as goal

abbrev pub invariant-loop-fields : goal.invariant-loop-fields
invariant-loop-fields l = l.parts ≡ map (placed l.w) l.yielded
