-- One more record of a plan.
use Rattle.std.proofs.Common.{◌≡◌, ℕ, ◌+◌, Bool, List, [], ◌∷◌, ◌++◌, drop, refl, ap, ◌∙◌, append_assoc}
use Rattle.std.specs.Prelude.{IsSomeAnd, Option, Some, None, slice_get}
use Rattle.std.proofs.lemmas.List.{drop_more}
use Rattle.std.proofs.lemmas.Option.{get_or_from_slice_get, slice_get_within}
use Rattle.c_types.specs.declared.record.Record.{Record}
use Rattle.c_types.specs.Views.{record_of, records_of, types_of_fields}
use Rattle.c_typed.specs.Programs.{ProgramData}
use Rattle.c_facts.specs.declared.fact.Fact.{Fact}
use Rattle.legality.specs.declared.violation.Violation.{Violation}
use Rattle.legality.specs.Verdicts.{verdict_of}
use Rattle.affinity.specs.declared.weights.Weights.{Weights}
use Rattle.layout_plan.specs.declared.plans.RecordPlan.{RecordPlan}
use Rattle.layout_plan.specs.Peeling.{is_peelable}
use Rattle.layout_plan.specs.Plans.{outline_of, plan_of_record, plans_from, record_plan}

some_of : {X : Type 0} (o : Option X) (P : X → Type 0) → IsSomeAnd o P → (x : X) × (o ≡ Some x) × P x
some_of None P h = absurd h
some_of (Some x) P h = (x, refl, h)

-- the plan of one more record stands behind those of the records before it
pub planned_more : (p : ProgramData) (facts : List Fact) (verdicts : List (Option Violation)) (w : Weights) (records : List Record) (number : ℕ)
    (is : Bool) (verdict : Option Violation) (done all : List RecordPlan) (plan : RecordPlan) → is ≡ is_peelable p facts number
    → verdict ≡ verdict_of verdicts number
    → IsSomeAnd (slice_get records number) (λ r. plan ≡ record_plan p.records (types_of_fields r.fields)
    (outline_of p.records w is verdict number (types_of_fields r.fields)))
    → done ++ plans_from p facts verdicts w number (records_of (drop number records)) ≡ all
    → (done ++ plan ∷ []) ++ plans_from p facts verdicts w (number + 1) (records_of (drop (number + 1) records)) ≡ all
planned_more p facts verdicts w records number is verdict done all plan peels judged gives before =
    let found = some_of (slice_get records number) _ gives in
    let r = found.0 in
    let own : plan ≡ plan_of_record p facts verdicts w number (record_of r) = rw (← peels, ← judged) found.2 in
    let rest = plans_from p facts verdicts w (number + 1) (records_of (drop (number + 1) records)) in
    let here : drop number records ≡ r ∷ drop (number + 1) records = drop_more records number r (slice_get_within records number r found.1)
    ∙ ap (λ x. x ∷ drop (number + 1) records) (get_or_from_slice_get records number r r found.1) in
    let opened : done ++ plan_of_record p facts verdicts w number (record_of r) ∷ rest ≡ all = rw here at before in
    append_assoc done (plan ∷ []) rest ∙ ap (λ x. done ++ x ∷ rest) own ∙ opened
