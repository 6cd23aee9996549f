-- Runs of the machine: steps from a loaded image, one after the other.
use Rattle.std.specs.Prelude.{ℕ, zero, suc, List, [], replicate}
use Rattle.rv_isa.specs.declared.image.Image.{Image}
use Rattle.rv_isa.specs.declared.image.Segment.{Segment}
use Rattle.rv_isa.specs.Memory.{initial_memory}
use Rattle.rv_isa.specs.Step.{State, Standing, Running, Stepped, Goes, Ends, step}

-- what a run shows: how the machine stands, the output so far, and the rest of the input
pub record Shown : Type 0 where
  pub standing : Standing
  pub output : List ℕ
  pub rest : List ℕ

abbrev pub shown : Standing → State → Shown
shown standing s = record { standing = standing; output = s.output; rest = s.input }

-- what follows a step; a state that ended stays
abbrev pub after : (State → Shown) → State → Stepped → Shown
after next s (Goes t) = next t
after next s (Ends standing) = shown standing s

-- m steps from a state
unfoldable pub run : List Segment → ℕ → State → Shown
run segments zero s = shown Running s
run segments (suc m) s = after (run segments m) s (step segments s)

-- the state that follows a step; one that ended stays
abbrev pub state_then : (State → State) → State → Stepped → State
state_then next s (Goes t) = next t
state_then next s (Ends standing) = s

-- the state after m steps
unfoldable pub state_after : List Segment → ℕ → State → State
state_after segments zero s = s
state_after segments (suc m) s = state_then (state_after segments m) s (step segments s)

-- the image before the first step: registers are 0, and the program counter is at the entry
abbrev pub start : Image → List ℕ → State
start image input = record {
  registers = replicate 32 0;
  pc = image.entry;
  memory = initial_memory image.segments;
  input = input;
  output = [];
}

-- m steps from a loaded image
abbrev pub machine_run : Image → (input : List ℕ) (m : ℕ) → Shown
machine_run image input m = run image.segments m (start image input)
