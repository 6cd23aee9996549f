use Rattle.std.proofs.Common.{◌≡◌, drop}
use Rattle.layout_plan.specs.Parts.{place_in}
use Rattle.layout_plan.proofs.placing.place_in.Given as goal

abbrev pub invariant-loop-p : goal.invariant-loop-p
invariant-loop-p l = place_in (drop l.p-index l.placed) l.field ≡ place_in l.placed l.field
