use Rattle.std.proofs.Common.{◌≡◌, drop, fold}
use Rattle.c_types.specs.Views.{records_of}
use Rattle.legality.specs.Breaches.{by_records}
use Rattle.legality.specs.Firsts.{marked}
use Rattle.legality.proofs.fields.mark_records.Given as goal

abbrev pub invariant-loop-number : goal.invariant-loop-number
invariant-loop-number l = fold marked l.firsts (by_records l.holdings l.number (records_of (drop l.number l.records)))
    ≡ fold marked l.fn.firsts (by_records l.holdings 0 (records_of l.records))
