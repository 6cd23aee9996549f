-- The outside after `compile`.
use Rattle.std.specs.Prelude.{◌≡◌, ℕ, Bool, false, true, List, [], ◌∷◌, take, Option, Some, None, Result, Ok, Err, ◌⊎◌, ⊤}
use Rattle.std.specs.List.{list_any}
use Rattle.lay_base.specs.Known.{Rose, IfKnown, Appends, FilesKeepBut}
use Rattle.lay_base.specs.declared.place.File.{File}
use Rattle.refusals.specs.declared.refusal.Refusal.{Refusal}
use Rattle.refusals.specs.declared.refusal.Refusal.TheVariants as R
use Rattle.c_typed.specs.declared.run_counts.counts.Counts.{Counts}
use Rattle.c_typed.specs.Programs.{ProgramData}
use Rattle.layout_plan.specs.declared.plans.Decision.{Decision}
use Rattle.layout_plan.specs.declared.plans.Decision.TheVariants.{Refused}
use Rattle.layout_plan.specs.declared.plans.Planned.{Planned}
use Rattle.layout_plan.specs.declared.plans.RecordPlan.{RecordPlan}
use Rattle.layout_plan.specs.Planning.{IsPlanned}
use Rattle.lay_report.specs.Reports.{IsReport}
use Rattle.lay_commands.specs.Words.{Compilation}
use Rattle.compiled_files.specs.Files.{IsFileOf}
use Rattle.lay_compile.specs.LineTexts.PlaceTexts.{IsPlaceText}
use Rattle.lay_compile.specs.ProgramFiles.Outside.{Outside}
use Rattle.lay_commands.specs.Profiles.{WereGiven}
use Rattle.lay_commands.specs.declared.compiling.Outputs.{Outputs}

-- ---- which programs are compiled

-- the record lies anew
abbrev pub changes : Decision → Bool
changes (Refused v) = false
changes decision = true

abbrev pub is_changed : List RecordPlan → Bool
is_changed plans = list_any (λ r. changes r.decision) plans

-- as it is written, or where each record keeps its layout
abbrev pub IsBuilt : Compilation → ProgramData → Option Counts → Type 0
IsBuilt c p counts = (c.is_plain ≡ true) ⊎ ((planned : Planned) × IsPlanned counts p planned × (is_changed planned.plan.records ≡ false))

abbrev pub IsNotBuilt : Compilation → ProgramData → Option Counts → Type 0
IsNotBuilt c p counts = (c.is_plain ≡ false) × ((planned : Planned) × IsPlanned counts p planned × (is_changed planned.plan.records ≡ true))

-- ---- the report

-- the text of the place of the record's violation, if it has one
abbrev pub IsTextFor : List File → Decision → (text : List ℕ) → Type 0
IsTextFor files (Refused v) text = IsPlaceText files v.place text
IsTextFor files decision text = text ≡ []

-- ... of each record
abbrev pub AreTextsFor : List File → List RecordPlan → (texts : List (List ℕ)) → Type 0
AreTextsFor files [] texts = texts ≡ []
AreTextsFor files (r ∷ more) texts =
    (text : List ℕ) × (rest : List (List ℕ)) × (texts ≡ text ∷ rest) × IsTextFor files r.decision text × AreTextsFor files more rest

-- of records as they are declared, or by a plan
abbrev pub Reports : Option Planned → List File → ProgramData → (text : List ℕ) → Type 0
Reports None files p text = IsReport p.records None [] text
Reports (Some planned) files p text =
    (places : List (List ℕ)) × AreTextsFor files planned.plan.records places × IsReport p.records (Some planned) places text

-- what is reported by: nothing where the program is compiled as it is written, else its plan
abbrev pub IsPlanFor : (is_plain : Bool) → Option Counts → ProgramData → Option Planned → Type 0
IsPlanFor true counts p None = ⊤
IsPlanFor false counts p (Some planned) = IsPlanned counts p planned
IsPlanFor is_plain counts p _ = ⊥

abbrev pub IsReportOf : (is_plain : Bool) → List File → ProgramData → Option Counts → (text : List ℕ) → Type 0
IsReportOf is_plain files p counts text = (planned : Option Planned) × IsPlanFor is_plain counts p planned × Reports planned files p text

-- ---- what is left

-- the file is an ELF file of the program
abbrev pub IsCompiled : Compilation → ProgramData → Option (List ℕ) → Type 0
IsCompiled c p file = (elf : List ℕ) × (file ≡ Some elf) × IsFileOf p c.heap c.stack elf

-- the file is as it was, or a first part of such a file
abbrev pub IsPartlyCompiled : Compilation → ProgramData → (was file : Option (List ℕ)) → Type 0
IsPartlyCompiled c p was file = (file ≡ was) ⊎ ((elf : List ℕ) × IsFileOf p c.heap c.stack elf × ((k : ℕ) × (file ≡ Some (take k elf))))

-- What was given at entry is compiled to OUT, and this is so of its report. No other file changed, and the input was not read.
pub record IsCompiledTo (c : Compilation) (before now : Outside) (Reported : (text : List ℕ) → Type 0) : Type 0 where
  pub program : WereGiven before.files c (λ read p counts. IsBuilt c p counts × IfKnown now.files c.out (IsCompiled c p)
      × ((text : List ℕ) × IsReportOf c.is_plain read p counts text × Reported text))
  pub others : FilesKeepBut c.out before.files now.files
  pub unread : now.input ≡ before.input

-- the report was written
abbrev pub IsDone : Compilation → (before now : Outside) → Type 0
IsDone c before now = IsCompiledTo c before now (λ text. Appends before.out.bytes now.out.bytes text)

-- The host failed to write OUT: nothing is reported.
pub record HostFailed (c : Compilation) (before now : Outside) : Type 0 where
  pub cause : Rose (before.failed_writes c.out) (now.failed_writes c.out)
  pub partly : WereGiven before.files c
      (λ read p counts. IsBuilt c p counts × IfKnown before.files c.out (λ was. IfKnown now.files c.out (IsPartlyCompiled c p was)))
  pub others : FilesKeepBut c.out before.files now.files
  pub unreported : now.out ≡ before.out
  pub unread : now.input ≡ before.input

-- The report could not be written, or only a first part: the file is whole, and no write of the host failed.
pub record OutFailed (c : Compilation) (before now : Outside) : Type 0 where
  pub cause : Rose before.out.faults now.out.faults
  pub compiled : IsCompiledTo c before now (λ text. (k : ℕ) × Appends before.out.bytes now.out.bytes (take k text))
  pub written : (name : List ℕ) → now.failed_writes name ≡ before.failed_writes name

-- ---- by the answer; want of memory says nothing

-- the plan, if it is asked for, lays out no record anew
abbrev pub KeepsAll : Option Planned → Type 0
KeepsAll None = ⊤
KeepsAll (Some planned) = is_changed planned.plan.records ≡ false

abbrev pub PlanGives : (given : List ℕ) → Compilation → ProgramData → Option Counts → Result (Option Planned) Refusal → Type 0
PlanGives given c p counts (Ok planned) = IsPlanFor c.is_plain counts p planned × KeepsAll planned
PlanGives given c p counts (Err (R.NotBuilt name)) = (name ≡ given) × IsNotBuilt c p counts
PlanGives given c p counts (Err (R.Memory want)) = Unit {0}
PlanGives given c p counts (Err _) = ⊥

-- the file and the report are made, or the program is not compiled yet; a refusal has the name that is given
abbrev pub OutputsGive : (given : List ℕ) → Compilation → List File → ProgramData → Option Counts → Result Outputs Refusal → Type 0
OutputsGive given c files p counts (Ok outputs) =
    IsBuilt c p counts × IsFileOf p c.heap c.stack outputs.elf.items × IsReportOf c.is_plain files p counts outputs.report.items
OutputsGive given c files p counts (Err (R.NotBuilt name)) = (name ≡ given) × IsNotBuilt c p counts
OutputsGive given c files p counts (Err (R.Memory want)) = Unit {0}
OutputsGive given c files p counts (Err _) = ⊥
