-- What of agreement follows from the rest of it.
use Rattle.std.specs.Prelude.{◌≡◌, ℕ, ◌≤◌, List}
use Rattle.block_memory.specs.SourceEnd.{Ends, GoesOn, IsDefined}
use Rattle.rv_isa.specs.declared.image.Image.{Image}
use Rattle.rv_isa.specs.Run.{machine_run}
use Rattle.rv_isa.specs.Step.{Running, Exits}
use Rattle.agreement.specs.Agreement.{SourceRun, shows, ShowsOnlySource}

-- the machine ends where the source ends, and runs on with it, for this input
pub record Follows (source : SourceRun) (image : Image) (input : List ℕ) : Type 0 where
  pub ends : (n : ℕ) (output : List ℕ) (status : ℕ) (rest : List ℕ) → source input n ≡ Ends output status rest
      → (m : ℕ) × (machine_run image input m ≡ shows (Exits status) output rest)
  pub goes_on : (n : ℕ) (output rest : List ℕ) → source input n ≡ GoesOn output rest
      → (m : ℕ) × (n ≤ m) × (machine_run image input m ≡ shows Running output rest)

-- then it does nothing else, where every run of the source is defined
abbrev pub DoesNothingElse : Type 0
DoesNothingElse = (source : SourceRun) (image : Image) (input : List ℕ) → Follows source image input → ((n : ℕ) → IsDefined (source input n))
    → (m : ℕ) → ShowsOnlySource source input (machine_run image input m)
