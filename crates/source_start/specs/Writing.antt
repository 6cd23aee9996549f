-- How memory comes to hold what objects hold at first.
use Rattle.std.specs.Prelude.{◌≡◌, ℕ, List, [], ◌∷◌, ◌++◌, fold, length}
use Rattle.c_meaning.specs.Program.{cells_of}
use Rattle.c_typed.specs.declared.program.Initial.{Initial}
use Rattle.block_memory.specs.Blocks.{Memory, Block, with_cells}

-- a value is put into a block
abbrev pub with_initial : (b : ℕ) → Memory → Initial → Memory
with_initial b m i = with_cells m b i.offset (cells_of i.value)

abbrev pub with_all : (b : ℕ) → Memory → List Initial → Memory
with_all b m all = fold (with_initial b) m all

-- a block of that number is behind the others
abbrev pub AddGives : (old new : Memory) → Block → (number : ℕ) → Type 0
AddGives old new x number = (number ≡ length old) × (new ≡ old ++ x ∷ [])
