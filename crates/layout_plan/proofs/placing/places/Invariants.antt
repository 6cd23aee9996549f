use Rattle.std.proofs.Common.{◌≡◌, map}
use Rattle.c_typed.specs.RunCounts.Counting.{numbers_below}
use Rattle.layout_plan.specs.Parts.{place_in}
use Rattle.layout_plan.proofs.placing.places.Given as goal

abbrev pub invariant-loop-field : goal.invariant-loop-field
invariant-loop-field l = l.all ≡ map (place_in l.placed) (numbers_below l.field)
