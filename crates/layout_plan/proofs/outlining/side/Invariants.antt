use Rattle.std.proofs.Common.{◌≡◌, ◌++◌, drop}
use Rattle.layout_plan.specs.Sides.{side}
use Rattle.layout_plan.proofs.outlining.side.Given as goal

abbrev pub invariant-loop-f : goal.invariant-loop-f
invariant-loop-f l = l.all ++ side l.w l.below l.is_cold (drop l.f-index l.fields) ≡ side l.w l.below l.is_cold l.fields
