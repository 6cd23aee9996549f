use Rattle.std.proofs.Common.{◌≡◌, ◌++◌, drop, map}
use Rattle.c_numbers.specs.NewNumbers.Numbers.{number_at}
use Rattle.c_numbers.specs.TypeNumbers.Renumbered.{record_in}
use Rattle.c_types.specs.Views.{records_of}
use Rattle.c_link.proofs.records.add_records.Given as goal

abbrev pub invariant-loop-it : goal.invariant-loop-it
invariant-loop-it l = records_of l.all ++ map (record_in (number_at l.numbers)) (records_of (drop l.it-index l.it-items))
    ≡ records_of l.initial.all ++ map (record_in (number_at l.numbers)) (records_of l.it-items)
