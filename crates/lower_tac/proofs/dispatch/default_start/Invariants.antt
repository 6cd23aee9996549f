use Rattle.std.proofs.Common.{◌≡◌, map, drop}
use Rattle.c_typed.specs.Views.{arm_of, arms_of}
use Rattle.lower_tac.specs.Statements.{default_start}
use Rattle.lower_tac.proofs.dispatch.default_start.Given as goal

abbrev pub invariant-loop-arm : goal.invariant-loop-arm
invariant-loop-arm l = default_start l.fn.behind (arms_of (map arm_of l.arms)) l.fn.starts
    ≡ default_start l.fn.behind (arms_of (map arm_of (drop l.arm-index l.arms))) l.left
