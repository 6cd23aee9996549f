use Rattle.std.proofs.Common.{◌≡◌, drop}
use Rattle.lay_commands.specs.Compiling.{is_changed}
use Rattle.lay_commands.proofs.compiling.is_changed.Given as goal

abbrev pub invariant-loop-plan : goal.invariant-loop-plan
invariant-loop-plan l = is_changed (drop l.plan-index l.plans) ≡ is_changed l.plans
