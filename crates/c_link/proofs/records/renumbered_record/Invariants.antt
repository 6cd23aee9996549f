use Rattle.std.proofs.Common.{◌≡◌, ◌++◌, drop, map}
use Rattle.c_numbers.specs.NewNumbers.Numbers.{number_at}
use Rattle.c_numbers.specs.TypeNumbers.Renumbered.{field_in}
use Rattle.c_types.specs.Views.{field_of}
use Rattle.c_link.proofs.records.renumbered_record.Given as goal

abbrev pub invariant-loop-f : goal.invariant-loop-f
invariant-loop-f l = map field_of l.fields ++ map (field_in (number_at l.numbers)) (map field_of (drop l.f-index l.f-items))
    ≡ map (field_in (number_at l.numbers)) (map field_of l.f-items)
