-- What is found out of a program as it is planned.
use Rattle.std.specs.Prelude.{◌≡◌, List, Option, length}
use Rattle.c_typed.specs.declared.run_counts.counts.Counts.{Counts}
use Rattle.c_typed.specs.Programs.{ProgramData}
use Rattle.c_facts.specs.Programs.{facts_of}
use Rattle.legality.specs.declared.violation.Violation.{Violation}
use Rattle.legality.specs.Breaches.{breaches}
use Rattle.legality.specs.Verdicts.{AreVerdicts}
use Rattle.affinity.specs.Weighing.{Weighs}
use Rattle.layout_plan.specs.declared.plans.Planned.{Planned}
use Rattle.layout_plan.specs.Plans.{plan_of}

-- the plan of a program by the first violations of its records and by its weights, which a profile gave or, where there is none, the depths of loops
pub record IsPlanned (counts : Option Counts) (p : ProgramData) (it : Planned) : Type 0 where
  pub verdicts : List (Option Violation)
  pub judged : AreVerdicts (breaches p) (length p.records) verdicts
  pub weighed : Weighs counts (facts_of p) it.weights
  pub planned : it.plan.records ≡ plan_of p (facts_of p) verdicts it.weights

-- ---- a law

-- a program has at most one plan by a profile, and one without
abbrev pub PlansAreOne : Type 0
PlansAreOne = (counts : Option Counts) (p : ProgramData) (a b : Planned) → IsPlanned counts p a → IsPlanned counts p b → a ≡ b
