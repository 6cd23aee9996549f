use Rattle.c_facts.proofs.Counts.{groups_meet_counts, loops_meet_counts}
use Rattle.c_facts.proofs.laws.groups_meet_counts.Goals as goal

pub returns-clause-loops : goal.returns-clause-loops
returns-clause-loops c = loops_meet_counts

pub returns-clause-all : goal.returns-clause-all
returns-clause-all c = groups_meet_counts
