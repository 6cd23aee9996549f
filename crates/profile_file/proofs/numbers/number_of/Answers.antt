use Rattle.std.proofs.Common.{◌+◌, arith}
use Rattle.std.proofs.lemmas.Grind.{common_steps}
use Rattle.profile_file.proofs.Fronts.{too_large}
use Rattle.profile_file.proofs.numbers.number_of.Goals as goal

pub returns-then-number-gt-GREATEST_COUNT : goal.returns-then-number-gt-GREATEST_COUNT
returns-then-number-gt-GREATEST_COUNT c = grind (arith, common_steps, too_large c.args.digits.now (c.loop-digit.digit-index + 1))
