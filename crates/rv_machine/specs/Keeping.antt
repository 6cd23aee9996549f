-- The words that are kept with their instructions, and the next instruction among them.
use Rattle.std.specs.Prelude.{◌≡◌, ℕ, ◌+◌, ◌/◌, ◌%◌, ◌<◌, true, false}
use Rattle.std.specs.List.{HoldsAt}
use Rattle.rv_isa.specs.Memory.{is_mapped, are_mapped, executable, writable, word_at}
use Rattle.rv_machine.specs.declared.decoder.Decoder.{Decoder}
use Rattle.rv_machine.specs.declared.memory.Memory.{Memory}
use Rattle.rv_machine.specs.View.{content_of, segments_in}

-- the word is kept for the address
abbrev pub Keeps : Decoder → (pc word : ℕ) → Type 0
Keeps decoder pc word = HoldsAt (λ entry. entry.word ≡ word) decoder.entries.items (pc / 4 % 65536)

-- the word that is kept for the address stays there
abbrev pub Lasts : Decoder → (pc : ℕ) → Type 0
Lasts decoder pc = HoldsAt (λ entry. entry.at ≡ pc) decoder.entries.items (pc / 4 % 65536)

-- the word stands at the address, may be executed, and may not be written
pub record Stays (memory : Memory) (pc word : ℕ) : Type 0 where
  pub mapped : are_mapped (segments_in memory) executable pc 4 ≡ true
  pub is : word_at (content_of memory) pc ≡ word
  pub fixed : (k : ℕ) → k < 4 → is_mapped (segments_in memory) writable (pc + k) ≡ false

-- so does each word whose entry has the place of its address
abbrev pub AllStay : Memory → Decoder → Type 0
AllStay memory decoder = (k : ℕ) → k < 65536 → HoldsAt (λ entry. entry.at / 4 % 65536 ≡ k → Stays memory entry.at entry.word) decoder.entries.items k

-- the word at the program counter may be executed, and is kept
pub record IsReady (memory : Memory) (decoder : Decoder) (pc : ℕ) : Type 0 where
  pub mapped : are_mapped (segments_in memory) executable pc 4 ≡ true
  pub kept : Keeps decoder pc (word_at (content_of memory) pc)
