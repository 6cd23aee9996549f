-- One more record at the end of a list.
use Rattle.std.specs.Prelude.{◌≡◌, ℕ, ◌<◌, ◌≤◌, ◌-◌, ◌^◌, min, List, [], ◌∷◌, ◌++◌, length, Result, Ok, Err}
use Rattle.c_types.specs.declared.record.Record.{Record}
use Rattle.c_types.specs.declared.fault.RecordFault.{RecordFault}
use Rattle.c_types.specs.declared.fault.RecordFault.TheVariants.{TooBig, Memory}
use Rattle.c_types.specs.Limits.{greatest_size}

-- what adding a record of that size answers, and the list then
abbrev pub AddGives : (size : ℕ) → (old : List Record) → Record → (new : List Record) → Result ℕ RecordFault → Type 0
AddGives size old r new (Ok number) = (size ≤ greatest_size) × (number ≡ length old) × (new ≡ old ++ r ∷ [])
AddGives size old r new (Err (TooBig n)) = (greatest_size < size) × (n ≡ min size (2 ^ 64 - 1)) × (new ≡ old)
AddGives size old r new (Err (Memory want)) = (size ≤ greatest_size) × (new ≡ old)
