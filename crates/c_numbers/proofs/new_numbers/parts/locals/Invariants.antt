use Rattle.std.proofs.Common.{◌≡◌, ◌++◌, drop, map, take}
use Rattle.c_numbers.specs.NewNumbers.Numbers.{renaming_of}
use Rattle.c_numbers.specs.NewNumbers.Parts.{local_in}
use Rattle.c_numbers.proofs.new_numbers.parts.locals.Given as goal

abbrev pub invariant-loop-it : goal.invariant-loop-it
invariant-loop-it l = l.it-items ≡ map (local_in (renaming_of l.to)) (take l.it-index l.initial.it-items) ++ drop l.it-index l.initial.it-items
