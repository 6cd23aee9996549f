-- The source and the sink of a run: what is left of one, what was written to the other, and how often each has failed.
use Rattle.std.specs.Prelude.{◌≡◌, ℕ, List, Option}

pub record Streams : Type 0 where
  pub left : Option (List ℕ)
  pub read_faults : ℕ
  pub written : Option (List ℕ)
  pub write_faults : ℕ

abbrev pub streams : (left : Option (List ℕ)) → (read_faults : ℕ) → (written : Option (List ℕ)) → (write_faults : ℕ) → Streams
streams left read_faults written write_faults =
    record { left = left; read_faults = read_faults; written = written; write_faults = write_faults }

-- neither has failed
pub record AreSteady (before now : Streams) : Type 0 where
  pub reads : now.read_faults ≡ before.read_faults
  pub writes : now.write_faults ≡ before.write_faults
