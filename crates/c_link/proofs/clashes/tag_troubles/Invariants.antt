use Rattle.std.proofs.Common.{◌≡◌, ◌++◌, [], drop, map}
use Rattle.c_types.specs.Views.{record_of, records_of}
use Rattle.c_link.specs.Clashes.{clashes, trouble_of}
use Rattle.c_link.proofs.clashes.tag_troubles.Given as goal

abbrev pub invariant-loop-r : goal.invariant-loop-r
invariant-loop-r l = map trouble_of l.troubles ++ clashes l.tags (map (λ it. record_of it.now) l.firsts.items) (records_of (drop l.r-index l.all))
    ≡ clashes l.tags [] (records_of l.all)
