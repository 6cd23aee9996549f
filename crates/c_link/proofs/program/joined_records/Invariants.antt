use Rattle.std.proofs.Common.{◌≡◌, [], drop, length, map, true}
use Rattle.c_types.specs.Views.{records_of}
use Rattle.c_link.specs.Placing.{placed}
use Rattle.c_link.specs.JoinedViews.{tagged}
use Rattle.c_link.proofs.program.joined_records.Given as goal

abbrev pub invariant-loop-r : goal.invariant-loop-r
invariant-loop-r l = placed (λ r. true) l.tags (records_of l.records) (map tagged (records_of (drop (length l.yielded) l.fn.all)))
    ≡ placed (λ r. true) l.tags [] (map tagged (records_of l.fn.all))
