use Rattle.std.proofs.Common.{arith}
use Rattle.std.proofs.lemmas.Grind.{common_steps}
use Rattle.std.proofs.lemmas.List.{take_all}
use Rattle.elf32.specs.Written.{zeros}
use Rattle.elf32.proofs.writing.pad_to.Goals as goal

pub returns-clause-padded : goal.returns-clause-padded
unfolding zeros
returns-clause-padded c = grind (arith, common_steps, take_all)
