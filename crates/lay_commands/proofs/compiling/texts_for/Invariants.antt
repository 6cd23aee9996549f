use Rattle.std.proofs.Common.{ℕ, List, ◌++◌, drop}
use Rattle.lay_commands.specs.Compiling.{AreTextsFor}
use Rattle.lay_commands.proofs.compiling.texts_for.Given as goal

-- whatever texts the plans that are left have stand behind
abbrev pub invariant-loop-plan : goal.invariant-loop-plan
invariant-loop-plan l = (more : List (List ℕ)) → AreTextsFor l.files (drop l.plan-index l.plans) more → AreTextsFor l.files l.plans (l.texts ++ more)
