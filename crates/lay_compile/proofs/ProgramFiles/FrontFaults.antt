-- Faults of the front end, and refusals that have no place.
use Rattle.std.proofs.Common.{◌≡◌, ℕ, List, Option, Some, None, ap, sym, subst}
use Rattle.std.specs.Prelude.{◌≢◌, Err}
use Rattle.lay_base.specs.Known.{Contents}
use Rattle.lay_base.specs.declared.place.File.{File}
use Rattle.lay_base.specs.declared.faults.LimitKind.{LimitKind}
use Rattle.lay_base.specs.declared.faults.LimitKind.TheVariants as L
use Rattle.c_typed.specs.Programs.{ProgramData}
use Rattle.c_link.specs.Joining.{joined}
use Rattle.c_link.specs.Gaps.{first_limit, limits, or_limit, past}
use Rattle.c_link.specs.declared.gap.Gap.TheVariants as G
use Rattle.lay_compile.specs.declared.fault.CompileFault.{CompileFault}
use Rattle.lay_compile.specs.declared.fault.CompileFault.TheVariants as C
use Rattle.lay_compile.specs.Front.{FrontGives, IsFaultOf}
use Rattle.refusals.specs.declared.refusal.Refusal.{Refusal}
use Rattle.refusals.specs.declared.refusal.Refusal.TheVariants as R
use Rattle.lay_compile.specs.declared.program_files.front_end.PlaceTexts.{PlaceTexts}
use Rattle.lay_compile.specs.ProgramFiles.FrontEnd.{AreRefused, HasTexts}
use Rattle.lay_compile.specs.ProgramFiles.Reading.{NumberGives, FilesGive}

-- ---- the front end does not count files

no_other : (which : LimitKind) (passed : Option ℕ) (later : Option (LimitKind × ℕ)) (n : ℕ) → which ≢ L.Files → later ≢ Some (L.Files, n)
    → or_limit which passed later ≢ Some (L.Files, n)
no_other which None later n other none e = none e
no_other which (Some m) later n other none e =
    let pair : (which, m) ≡ (L.Files, n) = cc in other (ap (λ (p : LimitKind × ℕ). p.0) pair)

not_files : (p : ProgramData) (n : ℕ) → first_limit p limits ≢ Some (L.Files, n)
not_files p n =
    no_other L.Nodes (past p L.Nodes) _ n (λ e. cc) (no_other L.Fields (past p L.Fields) _ n (λ e. cc)
    (no_other L.Frame (past p L.Frame) _ n (λ e. cc) (no_other L.Globals (past p L.Globals) _ n (λ e. cc) (λ e. cc))))

fault_is : (files : List File) (fault : CompileFault) → FrontGives files (Err fault) → IsFaultOf files fault
fault_is files fault (found, none) = found

pub no_files_limit : (files : List File) (n : ℕ) → AreRefused files (R.Limit L.Files n) → ⊥
no_files_limit files n (fault, told, gives) =
    let same : C.Joining (G.Limit (record { which = L.Files; counted = n })) ≡ fault = let some = told in cc in
    let gap = subst (λ (f : CompileFault). IsFaultOf files f) (sym same) (fault_is files fault gives) in
    not_files (joined gap.0) n gap.2.2

-- ---- refusals that have no place

pub number_texts : (f : Option Contents) (names : List (List ℕ)) (texts : PlaceTexts) (n : ℕ) (refusal : Refusal) → NumberGives n (Err refusal)
    → HasTexts f names texts refusal
number_texts f names texts n (R.Limit L.Files counted) gives = λ place. cc
number_texts f names texts n _ gives = absurd gives

pub files_texts : (f : Option Contents) (names : List (List ℕ)) (texts : PlaceTexts) (before now : List ℕ → ℕ) (files : Option Contents)
    (read : List (List ℕ)) (refusal : Refusal) → FilesGive before now files read (Err refusal) → HasTexts f names texts refusal
files_texts f names texts before now files read (R.FileFault name) gives = λ place. cc
files_texts f names texts before now files read (R.TooLong name) gives = λ place. cc
files_texts f names texts before now files read (R.Memory want) gives = λ place. cc
files_texts f names texts before now files read _ gives = absurd gives
