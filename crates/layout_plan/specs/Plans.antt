-- The plan of a program: where each field of each record lies (own).
use Rattle.std.specs.Prelude.{ℕ, ◌+◌, Bool, List, [], ◌∷◌, map, length, Option, Some, None}
use Rattle.c_types.specs.Types.{CType, Record, field_types}
use Rattle.c_typed.specs.RunCounts.Counting.{numbers_below}
use Rattle.c_typed.specs.Programs.{ProgramData}
use Rattle.c_facts.specs.declared.fact.Fact.{Fact}
use Rattle.legality.specs.declared.violation.Violation.{Violation}
use Rattle.legality.specs.Verdicts.{verdict_of}
use Rattle.affinity.specs.declared.weights.Weights.{Weights}
use Rattle.affinity.specs.FieldWeights.{field_weights}
use Rattle.layout_plan.specs.declared.plans.Decision.TheVariants.{Refused}
use Rattle.layout_plan.specs.declared.plans.RecordPlan.{RecordPlan}
use Rattle.layout_plan.specs.declared.outline.Outline.{Outline}
use Rattle.layout_plan.specs.Outlines.{outline, outlined}
use Rattle.layout_plan.specs.Parts.{part_sizes, place_in, placed_in_parts}
use Rattle.layout_plan.specs.Peeling.{is_peelable}

-- the plan of a record with these types of fields, by what becomes of it
abbrev pub record_plan : List Record → (types : List CType) → Outline → RecordPlan
record_plan records types o = record {
  decision = o.decision;
  fields = map (place_in (placed_in_parts records types o.decision 0 o.parts)) (numbers_below (length types));
  sizes = part_sizes records types o.decision 0 o.parts;
}

-- a record that violates a test keeps the layout that is declared
abbrev pub outline_of : List Record → Weights → (is_peelable : Bool) → Option Violation → (number : ℕ) → (types : List CType) → Outline
outline_of records w is_peelable (Some v) number types = outline (Refused v) (numbers_below (length types) ∷ [])
outline_of records w is_peelable None number types = outlined records types (field_weights w number (length types)) w.by_profile is_peelable

abbrev pub plan_of_record : ProgramData → List Fact → (verdicts : List (Option Violation)) → Weights → (number : ℕ) → Record → RecordPlan
plan_of_record p facts verdicts w number r =
    record_plan p.records (field_types r)
    (outline_of p.records w (is_peelable p facts number) (verdict_of verdicts number) number (field_types r))

-- from the record of a number on
abbrev pub plans_from : ProgramData → List Fact → (verdicts : List (Option Violation)) → Weights → (number : ℕ) → List Record → List RecordPlan
plans_from p facts verdicts w number [] = []
plans_from p facts verdicts w number (r ∷ more) =
    plan_of_record p facts verdicts w number r ∷ plans_from p facts verdicts w (number + 1) more

-- of a program, of whose functions the facts are given
abbrev pub plan_of : ProgramData → List Fact → (verdicts : List (Option Violation)) → Weights → List RecordPlan
plan_of p facts verdicts w = plans_from p facts verdicts w 0 p.records
