use Rattle.std.proofs.Common.{◌≡◌, ◌++◌, drop}
use Rattle.rv_code.specs.Frames.{end_from, places_from}
use Rattle.rv_code.proofs.frames.places.Given as goal

abbrev pub invariant-loop-size : goal.invariant-loop-size
invariant-loop-size l = record {
  places : l.places.items ++ places_from l.at (drop l.size-index l.sizes) ≡ places_from l.fn.at l.fn.sizes;
  end : end_from l.at (drop l.size-index l.sizes) ≡ end_from l.fn.at l.fn.sizes;
}
