use Rattle.std.proofs.Common.{◌≡◌, drop, length, map}
use Rattle.c_link.specs.Gaps.{first_past}
use Rattle.c_types.specs.Views.{records_of}
use Rattle.c_link.proofs.limits.fields_past.Given as goal

abbrev pub invariant-loop-r : goal.invariant-loop-r
invariant-loop-r l = first_past 64 (map (λ r. length r.fields) (records_of (drop l.r-index l.records))) ≡ first_past 64 (map (λ r. length r.fields) (records_of l.records))
