use Rattle.std.proofs.Common.{◌≡◌, ◌++◌, map, drop}
use Rattle.c_typed.specs.TypedStatements.{declared_by_arms}
use Rattle.c_annotated.specs.Views.{arm_of, arms_of}
use Rattle.c_check_statements.proofs.statement_parts.making.declared_by_arms.Given as goal

abbrev pub invariant-loop-arm : goal.invariant-loop-arm
invariant-loop-arm l = declared_by_arms (arms_of (map arm_of l.arms))
    ≡ l.locals ++ declared_by_arms (arms_of (map arm_of (drop l.arm-index l.arms)))
