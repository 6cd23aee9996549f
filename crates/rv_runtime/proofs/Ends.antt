-- FREE, EXIT and the start.
use Rattle.std.proofs.Common.{◌≡◌, ℕ, ◌+◌, ◌%◌, ◌^◌, List, pos, refl, ap, arith}
use Rattle.rv_isa.specs.declared.image.Segment.{Segment}
use Rattle.rv_isa.specs.declared.instruction.Inst.TheVariants.{Jal, Addi}
use Rattle.rv_isa.specs.Arithmetic.{plus}
use Rattle.rv_isa.specs.Memory.{Memory}
use Rattle.rv_isa.specs.Step.{State, Ends, Exits, step}
use Rattle.rv_isa.specs.Events.{MachineEvent, code_address, free_entry}
use Rattle.rv_runtime.specs.Steps.States.{put, at, IsBackward, Keeps}
use Rattle.rv_runtime.proofs.Steps.Routines.{by_routine, puts_inside}
use Rattle.rv_runtime.proofs.Steps.Steps.{exit_ends}
use Rattle.rv_runtime.specs.Bytes.{Runtime}
use Rattle.rv_runtime.specs.Effects.{Returns}
use Rattle.rv_runtime.specs.Routines.{start_entry, exit_entry}
use Rattle.rv_runtime.proofs.Returning.{comes_back}

module _ (segments : List Segment) (text : Memory) (Claim : ℕ → State → List MachineEvent → Type 0) (claim : IsBackward segments Claim)
    (runtime : Runtime segments text) (n : ℕ) (before : List MachineEvent) (f : ℕ → ℕ) (memory : Memory) (input output : List ℕ) (keeps : Keeps text memory) where
  -- FREE changes nothing
  pub free_works : (place : ℕ) → Returns f place → Claim n (at f place memory input output) before → Claim n (at f free_entry memory input output) before
  free_works place back c =
      by_routine segments text Claim claim n (at f free_entry memory input output) (at f 0x109FC memory input output) before (Jal 0 (pos 508)) keeps
      runtime.free.0 refl refl (comes_back segments text Claim claim n before f 0x109FC memory input output keeps runtime.free_last place back refl c)

  -- the start leads to compiled code
  pub start_works : Claim n (at f code_address memory input output) before → Claim n (at f start_entry memory input output) before
  start_works c =
      by_routine segments text Claim claim n (at f start_entry memory input output) (at f code_address memory input output) before (Jal 0 (pos 4096)) keeps
      runtime.start.0 refl refl c

  -- EXIT sets x17, and at its second instruction the program ends
  pub exit_works : f 0 ≡ 0 → Claim n (at (put f 17 93) (exit_entry + 4) memory input output) before → Claim n (at f exit_entry memory input output) before
  exit_works nil c =
      puts_inside segments text Claim claim n before f exit_entry memory input output keeps refl (Addi 17 0 (pos 93)) runtime.exit.0
      17 93 (plus (f 0) (pos 93)) (omega arith) refl (ap (λ (z : ℕ). plus z (pos 93)) nil) c

-- with the low byte of a0 as its status
pub exit_is_end : (segments : List Segment) (text : Memory) (runtime : Runtime segments text) (f : ℕ → ℕ) (memory : Memory) (input output : List ℕ)
    → Keeps text memory → step segments (at (put f 17 93) (exit_entry + 4) memory input output) ≡ Ends (Exits (f 10 % 2 ^ 8))
exit_is_end segments text runtime f memory input output keeps =
    exit_ends segments text (put f 17 93) (exit_entry + 4) memory input output keeps runtime.exit.1.0 refl
