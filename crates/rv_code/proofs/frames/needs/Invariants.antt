use Rattle.std.proofs.Common.{◌≡◌, length, reverse, take}
use Rattle.rv_code.specs.Frames.{sizes_in, kept_in}
use Rattle.rv_code.proofs.frames.needs.Given as goal

abbrev pub invariant-loop-step : goal.invariant-loop-step
invariant-loop-step l = record {
  slots : l.slots ≡ kept_in (reverse (take l.step-index l.step-items)) (length l.g.locals);
  sizes : l.sizes.items ≡ sizes_in (reverse (take l.step-index l.step-items)) l.fn.sizes.items;
}
