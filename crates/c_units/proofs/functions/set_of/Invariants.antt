use Rattle.std.proofs.Common.{◌≡◌, [], drop, fold}
use Rattle.c_numbers.specs.KeyNumbers.Numbers.{with_number}
use Rattle.c_units.proofs.functions.set_of.Given as goal

abbrev pub invariant-loop-number : goal.invariant-loop-number
invariant-loop-number l = fold with_number l.set (drop l.number-index l.numbers) ≡ fold with_number [] l.numbers
