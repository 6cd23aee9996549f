use Rattle.std.proofs.Common.{◌≡◌, map}
use Rattle.std.specs.Option.{option_map}
use Rattle.c_link.specs.Clashes.{trouble_of}
use Rattle.c_link.specs.Earliest.{earliest_of}
use Rattle.c_link.proofs.troubles.earliest.Given as goal

abbrev pub invariant-loop-t : goal.invariant-loop-t
invariant-loop-t l = option_map trouble_of l.best ≡ earliest_of (map trouble_of l.yielded)
