use Rattle.std.proofs.Common.{◌≡◌, ◌++◌, drop, map, take}
use Rattle.c_numbers.specs.NewNumbers.Numbers.{renaming_of}
use Rattle.c_numbers.specs.NewNumbers.Parts.{initial_in}
use Rattle.c_numbers.proofs.new_numbers.parts.initials.Given as goal

abbrev pub invariant-loop-it : goal.invariant-loop-it
invariant-loop-it l = l.it-items ≡ map (initial_in (renaming_of l.to)) (take l.it-index l.initial.it-items) ++ drop l.it-index l.initial.it-items
