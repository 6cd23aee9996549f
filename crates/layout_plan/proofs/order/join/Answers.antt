use Rattle.std.proofs.Common.{arith}
use Rattle.layout_plan.proofs.Joins.{within, past}
use Rattle.layout_plan.proofs.order.join.Goals as goal

pub returns-then-number-len : goal.returns-then-number-len
returns-then-number-len c = grind (arith, within c.args.w.now c.args.groups.now c.args.f c.group_of-number.result)

pub returns-in_ok-add : goal.returns-in_ok-add
returns-in_ok-add c = grind (arith, past c.args.w.now c.args.groups.now c.args.f c.group_of-number.result)
