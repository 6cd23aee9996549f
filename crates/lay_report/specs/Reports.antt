-- The report of a program: what becomes of each of its records (own).
use Rattle.std.specs.Prelude.{◌≡◌, ℕ, ◌+◌, List, [], ◌∷◌, ◌++◌, codes, flat_map, length, Option, Some, None, slice_get, unwrap_or}
use Rattle.std.specs.List.Sorted.{IsPermutation, IsSortedBy}
use Rattle.c_types.specs.Types.{Record, structure}
use Rattle.c_types.specs.Layouts.{size_of}
use Rattle.c_typed.specs.declared.run_counts.order.Defined.{Defined}
use Rattle.c_typed.specs.RunCounts.Order.{stands_before}
use Rattle.affinity.specs.FieldWeights.{hotnesses}
use Rattle.layout_plan.specs.declared.plans.Decision.{Decision}
use Rattle.layout_plan.specs.declared.plans.Decision.TheVariants.{Refused}
use Rattle.layout_plan.specs.declared.plans.Planned.{Planned}
use Rattle.layout_plan.specs.declared.plans.RecordPlan.{RecordPlan}
use Rattle.lay_report.specs.Texts.{decision_text, field_lines, first_line, part_lines, record_line}

-- ---- the order of records

abbrev pub defined_from : (number : ℕ) → List Record → List Defined
defined_from number [] = []
defined_from number (r ∷ more) = record { number = number; place = r.place } ∷ defined_from (number + 1) more

-- each record once, none behind one that stands after it by the file and the place of its first definition
pub record IsReportOrder (records : List Record) (order : List Defined) : Type 0 where
  pub permutation : IsPermutation (defined_from 0 records) order
  pub sorted : IsSortedBy stands_before order

-- ---- a record

-- what stands behind its first line
abbrev pub laid_out_lines : Record → (hotness : List ℕ) → RecordPlan → Decision → List ℕ
laid_out_lines r hotness plan (Refused v) = []
laid_out_lines r hotness plan decision = field_lines 0 r.fields plan.fields hotness ++ part_lines 0 plan.sizes

abbrev pub planned_text : (size : ℕ) → Record → (place hotness : List ℕ) → RecordPlan → List ℕ
planned_text size r place hotness plan =
    record_line r.tag size (decision_text place plan.decision (length plan.sizes)) ++ laid_out_lines r hotness plan plan.decision

abbrev pub plain_text : (size : ℕ) → Record → List ℕ
plain_text size r = record_line r.tag size (codes "plain")

-- by the texts of the places of violations, one for each record
abbrev pub by_plan : (size : ℕ) → (number : ℕ) → Record → Planned → (places : List (List ℕ)) → Option RecordPlan → List ℕ
by_plan size number r p places None = []
by_plan size number r p places (Some plan) =
    planned_text size r (unwrap_or (slice_get places number) []) (hotnesses p.weights number (length r.fields)) plan

abbrev pub record_text : (size : ℕ) → (number : ℕ) → Record → Option Planned → (places : List (List ℕ)) → List ℕ
record_text size number r None places = plain_text size r
record_text size number r (Some p) places = by_plan size number r p places (slice_get p.plan.records number)

abbrev pub if_any : (Record → List ℕ) → Option Record → List ℕ
if_any text None = []
if_any text (Some r) = text r

abbrev pub text_at : List Record → Option Planned → (places : List (List ℕ)) → (number : ℕ) → List ℕ
text_at records p places number =
    if_any (λ r. record_text (size_of records (structure number)) number r p places) (slice_get records number)

-- ---- the report, by a plan or, where there is none, of records as they are declared

abbrev pub report_text : List Record → Option Planned → (places : List (List ℕ)) → List Defined → List ℕ
report_text records p places order = first_line ++ flat_map (λ d. text_at records p places d.number) order

abbrev pub IsReport : List Record → Option Planned → (places : List (List ℕ)) → (text : List ℕ) → Type 0
IsReport records p places text = (order : List Defined) × IsReportOrder records order × (text ≡ report_text records p places order)
