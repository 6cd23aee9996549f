use Rattle.std.proofs.Common.{◌≡◌, drop, fold, length}
use Rattle.c_types.specs.Views.{records_of}
use Rattle.legality.specs.Holdings.{holdings_of, with_record}
use Rattle.legality.proofs.holdings.holdings_of.Given as goal

abbrev pub invariant-loop-r : goal.invariant-loop-r
invariant-loop-r l = (length l.holdings ≡ l.r-index) × (fold with_record l.holdings (records_of (drop l.r-index l.records)) ≡ holdings_of (records_of l.records))
