use Rattle.std.proofs.Common.{◌≡◌, ◌++◌, drop}
use Rattle.c_types.specs.Views.{records_of}
use Rattle.c_typed.specs.Programs.{program_data}
use Rattle.layout_plan.specs.Plans.{plan_of, plans_from}
use Rattle.layout_plan.proofs.planning.plan.Given as goal

abbrev pub invariant-loop-number : goal.invariant-loop-number
invariant-loop-number l = l.records ++ plans_from (program_data l.p) l.facts l.v.list l.w l.number (records_of (drop l.number l.p.records))
    ≡ plan_of (program_data l.p) l.facts l.v.list l.w
