use Rattle.std.proofs.Common.{◌≡◌, ◌++◌, map}
use Rattle.c_numbers.specs.NewNumbers.Numbers.{renaming_of}
use Rattle.c_numbers.specs.NewNumbers.Parts.{mention_in}
use Rattle.c_link.proofs.joining.join_mentions.Given as goal

abbrev pub invariant-loop-it : goal.invariant-loop-it
invariant-loop-it l = l.all ≡ l.initial.all ++ map (mention_in (renaming_of l.to)) l.yielded
