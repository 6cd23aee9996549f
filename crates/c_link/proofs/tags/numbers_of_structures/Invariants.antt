use Rattle.std.proofs.Common.{◌≡◌, ◌++◌, drop, map}
use Rattle.c_numbers.specs.KeyNumbers.Keys.{position}
use Rattle.c_types.specs.Views.{records_of}
use Rattle.c_link.proofs.tags.numbers_of_structures.Given as goal

abbrev pub invariant-loop-r : goal.invariant-loop-r
invariant-loop-r l = l.entries ++ map (position l.tags) (map (λ r. r.tag) (records_of (drop l.r-index l.r-items)))
    ≡ map (position l.tags) (map (λ r. r.tag) (records_of l.r-items))

abbrev pub invariant-loop-name : goal.invariant-loop-name
invariant-loop-name l = l.entries ++ map (position l.tags) (drop l.name-index l.name-items) ≡ l.initial.entries ++ map (position l.tags) l.name-items
