-- What a first value finds where it is put into a block.
use Rattle.std.specs.Prelude.{◌≡◌, ℕ, ◌+◌, ◌%◌, ◌≤◌, Bool, true, false}
use Rattle.block_memory.specs.Accesses.{is_text}
use Rattle.block_memory.specs.Blocks.{Memory, is_live, kind, size}
use Rattle.c_typed.specs.declared.program.Initial.{Initial}
use Rattle.c_typed.specs.declared.program.InitialValue.{InitialValue}
use Rattle.c_typed.specs.declared.program.InitialValue.TheVariants as V
use Rattle.source_start.specs.Fits.{value_bytes}

-- a pointer stands at a multiple of four, and in no string literal
abbrev pub StandsIn : (text : Bool) → (at : ℕ) → InitialValue → Type 0
StandsIn text at (V.Number kind v) = Unit {0}
StandsIn text at v = (at % 4 ≡ 0) × (text ≡ false)

pub record TakesPointer (m : Memory) (b at : ℕ) : Type 0 where
  pub lives : is_live m b ≡ true
  pub ends : at + 4 ≤ size m b
  pub aligned : at % 4 ≡ 0
  pub writable : is_text (kind m b) ≡ false

pub record FitsIn (m : Memory) (b : ℕ) (i : Initial) : Type 0 where
  pub lives : is_live m b ≡ true
  pub ends : i.offset + value_bytes i.value ≤ size m b
  pub free : StandsIn (is_text (kind m b)) i.offset i.value
