-- Active functions and their frames, on a small trace.
use Rattle.std.specs.Prelude.{◌≡◌, refl, ℕ, ◌+◌, List, [], ◌∷◌}
use Rattle.block_memory.specs.RunWorlds.Events.{Event, put, entered, left}
use Rattle.compiled_files.specs.CodeRuns.Active.{active, frames, greatest}

-- function 1 calls 2, which calls 3 and comes back, and 1 calls 4, which writes a byte; the last event first
abbrev trace : List Event
trace = put 65 ∷ entered 4 ∷ left ∷ left ∷ entered 3 ∷ entered 2 ∷ entered 1 ∷ []

active_ones : active trace ≡ 4 ∷ 1 ∷ []
active_ones = refl

abbrev size : ℕ → ℕ
size f = 16 + f

frames_now : frames size (active trace) ≡ 37
frames_now = refl

greatest_so_far : greatest size trace ≡ 54
greatest_so_far = refl
