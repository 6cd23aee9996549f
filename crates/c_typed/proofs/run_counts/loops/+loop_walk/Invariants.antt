use Rattle.std.proofs.Common.{◌≡◌, ◌+◌, ◌-◌, ◌^◌, ◌<◌, drop, min}
use Rattle.std.specs.Prelude.{map}
use Rattle.c_typed.specs.RunCounts.Loops.{loops_in_all, loops_in_arms}
use Rattle.c_typed.specs.Views.{arm_of, arms_of, statement_of, statements_of}
use Rattle.c_typed.proofs.run_counts.loops.+loop_walk.Given as goal

abbrev pub invariant-loops_in_statements-loop-s : goal.invariant-loops_in_statements-loop-s
invariant-loops_in_statements-loop-s l =
    (l.count < 2 ^ 32)
    × (min (l.count + loops_in_all (statements_of (map statement_of (drop l.s-index l.all)))) (2 ^ 32 - 1)
    ≡ min (loops_in_all (statements_of (map statement_of l.fn.all))) (2 ^ 32 - 1))

abbrev pub invariant-loops_in_arms-loop-arm : goal.invariant-loops_in_arms-loop-arm
invariant-loops_in_arms-loop-arm l =
    (l.count < 2 ^ 32)
    × (min (l.count + loops_in_arms (arms_of (map arm_of (drop l.arm-index l.arms)))) (2 ^ 32 - 1)
    ≡ min (loops_in_arms (arms_of (map arm_of l.fn.arms))) (2 ^ 32 - 1))
