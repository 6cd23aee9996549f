use Rattle.std.proofs.Common.{◌≡◌, ◌++◌, drop}
use Rattle.legality.specs.Holdings.{new_in}
use Rattle.legality.proofs.holdings.new_in.Given as goal

abbrev pub invariant-loop-r : goal.invariant-loop-r
invariant-loop-r l = l.fresh ++ new_in l.all (drop l.r-index l.more) ≡ new_in l.all l.more
