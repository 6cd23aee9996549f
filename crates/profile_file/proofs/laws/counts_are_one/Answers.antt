use Rattle.profile_file.proofs.Uniqueness.{counts_are_one}
use Rattle.profile_file.proofs.laws.counts_are_one.Goals as goal

pub returns : goal.returns
returns c = counts_are_one
