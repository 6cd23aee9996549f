use Rattle.c_typed.proofs.RunCounts.Orders.{is_profile_order}
use Rattle.c_typed.proofs.run_counts.laws.order_is_one.Goals as goal

pub returns : goal.returns
returns c = is_profile_order
