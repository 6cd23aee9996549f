-- What a read of the environment moves from the input to memory.
use Rattle.std.specs.Prelude.{◌≡◌, ℕ, ◌<◌, ◌≤◌, List, length, Option, Result, Ok, Err}
use Rattle.std.specs.Io.KnownBytes.{IsAtEnd}
use Rattle.lay_base.specs.Known.{Rose, Consumes}
use Rattle.lay_base.specs.declared.outside.SourceFault.{SourceFault}
use Rattle.rv_isa.specs.Memory.{Memory as Content, with_bytes}

-- the next n bytes of a source came into memory, from an address on
pub record ComesIn (old new : Option (List ℕ)) (content content1 : Content) (address n : ℕ) : Type 0 where
  pub piece : List ℕ
  pub size : length piece ≡ n
  pub taken : Consumes old new piece
  pub stored : content1 ≡ with_bytes content address piece

-- as many bytes came as were asked for, or fewer where the source ends; or a call on the source failed
-- before all had come
abbrev pub ReadsIn : (before now : ℕ) (old new : Option (List ℕ)) (content content1 : Content) (address count : ℕ) → Result ℕ SourceFault → Type 0
ReadsIn before now old new content content1 address count (Ok n) =
    ComesIn old new content content1 address n × (n ≤ count) × (n < count → IsAtEnd new)
ReadsIn before now old new content content1 address count (Err fault) =
    Rose before now × ((n : ℕ) × (n < count) × ComesIn old new content content1 address n)
