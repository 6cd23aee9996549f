use Rattle.std.proofs.Common.{◌≡◌, drop}
use Rattle.legality.specs.Holdings.{is_among}
use Rattle.legality.proofs.holdings.is_among.Given as goal

abbrev pub invariant-loop-s : goal.invariant-loop-s
invariant-loop-s l = is_among l.r (drop l.s-index l.all) ≡ is_among l.r l.all
