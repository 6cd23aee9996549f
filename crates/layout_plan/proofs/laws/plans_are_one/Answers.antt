use Rattle.layout_plan.proofs.One.{plans_are_one}
use Rattle.layout_plan.proofs.laws.plans_are_one.Goals as goal

pub returns : goal.returns
returns c = plans_are_one
