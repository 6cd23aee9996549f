-- What each stage of a command gives, by its answer. Want of memory says nothing.
use Rattle.std.specs.Prelude.{◌≡◌, ℕ, List, take, slice_get, Option, Some, Result, Ok, Err, ◌⊎◌}
use Rattle.lay_base.specs.Known.{Contents, Rose, IfKnown, Appends}
use Rattle.refusals.specs.declared.refusal.Refusal.{Refusal}
use Rattle.refusals.specs.declared.refusal.Refusal.TheVariants as R
use Rattle.rv_isa.specs.declared.image.Image.{Image}
use Rattle.rv_isa.specs.Step.{Exits, Trap, Break}
use Rattle.elf32.specs.Loaded.{loaded}
use Rattle.rv_machine.specs.declared.machine.MachineEnd.{MachineEnd}
use Rattle.rv_machine.specs.declared.machine.MachineEnd.TheVariants as E
use Rattle.lay_commands.specs.Words.{Compilation}
use Rattle.lay_compile.specs.ProgramFiles.Outside.{Outside, IsUntouched, HoldsLonger}
use Rattle.lay_commands.specs.Compiling.{IsNotBuilt, IsDone, HostFailed, OutFailed}
use Rattle.lay_commands.specs.Profiles.{IsRefused, WereGiven}
use Rattle.lay_commands.specs.Running.{elf_limit, HoldsElf, Ended, WouldGoOn, Stopped, StoppedInRead, StoppedInWrite}

-- ---- a file, of either command that writes one

-- the bytes are written under the name
abbrev pub WriteGives : (writes_before writes_now : ℕ) → (before now : Option Contents) → (name bytes : List ℕ) → Result (Unit {0}) Refusal → Type 0
WriteGives writes_before writes_now before now name bytes (Ok done) = IfKnown now name (λ file. file ≡ Some bytes)
WriteGives writes_before writes_now before now name bytes (Err R.WriteFault) =
    Rose writes_before writes_now × IfKnown before name (λ was. IfKnown now name (λ file. (file ≡ was) ⊎ ((k : ℕ) × (file ≡ Some (take k bytes)))))
WriteGives writes_before writes_now before now name bytes (Err (R.Memory want)) = IfKnown before name (λ was. IfKnown now name (λ file. file ≡ was))
WriteGives writes_before writes_now before now name bytes (Err _) = ⊥

-- ---- compile

-- the report is written
abbrev pub ReportGives : (faults_before faults_now : ℕ) → (before now : Option (List ℕ)) → (report : List ℕ) → Result (Unit {0}) Refusal → Type 0
ReportGives faults_before faults_now before now report (Ok done) = Appends before now report
ReportGives faults_before faults_now before now report (Err R.WriteFault) =
    Rose faults_before faults_now × ((k : ℕ) × Appends before now (take k report))
ReportGives faults_before faults_now before now report (Err _) = ⊥

-- all stages, one after the other
abbrev pub CompileGives : Compilation → (before now : Outside) → Result (Unit {0}) Refusal → Type 0
CompileGives c before now (Ok done) = IsDone c before now
CompileGives c before now (Err (R.NotBuilt name)) =
    (slice_get c.files 0 ≡ Some name) × WereGiven before.files c (λ read p counts. IsNotBuilt c p counts) × IsUntouched before now
CompileGives c before now (Err R.WriteFault) = HostFailed c before now ⊎ OutFailed c before now
CompileGives c before now (Err refusal) = IsRefused c before now refusal

-- ---- run

-- their image is found
abbrev pub ImageGives : (bytes : List ℕ) → Result Image Refusal → Type 0
ImageGives bytes (Ok image) = loaded bytes ≡ Ok image
ImageGives bytes (Err (R.BadElf field found)) = loaded bytes ≡ Err (field, found)
ImageGives bytes (Err (R.Memory want)) = Unit {0}
ImageGives bytes (Err _) = ⊥

-- the program's status, or the refusal for another end
abbrev pub answer_for : MachineEnd → Result ℕ Refusal
answer_for (E.Exits status) = Ok status
answer_for (E.Trap kind pc) = Err (R.Trap kind pc)
answer_for (E.Break pc) = Err (R.Break pc)
answer_for (E.StepLimit steps) = Err (R.StepLimit steps)
answer_for E.ReadFault = Err R.ReadFault
answer_for E.WriteFault = Err R.WriteFault

-- all stages, one after the other
abbrev pub RunGives : (limit : ℕ) (elf : List ℕ) → (before now : Outside) → Result ℕ Refusal → Type 0
RunGives limit elf before now (Ok status) = Ended limit elf before now (Exits status)
RunGives limit elf before now (Err (R.Trap kind pc)) = Ended limit elf before now (Trap kind pc)
RunGives limit elf before now (Err (R.Break pc)) = Ended limit elf before now (Break pc)
RunGives limit elf before now (Err (R.StepLimit n)) = (n ≡ limit) × WouldGoOn limit elf before now
RunGives limit elf before now (Err R.ReadFault) = Rose before.input.faults now.input.faults × Stopped limit elf before now (StoppedInRead before now)
RunGives limit elf before now (Err R.WriteFault) = Rose before.out.faults now.out.faults × Stopped limit elf before now (StoppedInWrite before now)
RunGives limit elf before now (Err (R.BadElf field found)) = HoldsElf before.files elf (λ bytes. loaded bytes ≡ Err (field, found)) × IsUntouched before now
RunGives limit elf before now (Err (R.FileFault name)) = (name ≡ elf) × Rose (before.failed_reads elf) (now.failed_reads elf) × IsUntouched before now
RunGives limit elf before now (Err (R.TooLong name)) = (name ≡ elf) × HoldsLonger elf_limit elf before now × IsUntouched before now
RunGives limit elf before now (Err (R.Memory want)) = IsUntouched before now
RunGives limit elf before now (Err _) = ⊥
