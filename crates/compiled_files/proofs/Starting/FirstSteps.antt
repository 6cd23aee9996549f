-- From the start of the machine to the entry of `main`: a jump of the runtime, the end of the stack into x2, and a call.
use Rattle.std.proofs.Common.{◌≡◌, ℕ, ◌+◌, ◌*◌, ◌/◌, ◌%◌, ◌^◌, ◌<◌, ◌≤◌, ◌∷◌, refl, arith}
use Rattle.rv_isa.specs.declared.instruction.Inst.TheVariants.{Lui}
use Rattle.rv_isa.specs.Events.{code_address}
use Rattle.rv_isa.specs.Memory.{Memory}
use Rattle.rv_runtime.specs.Steps.States.{Code, Keeps, put}
use Rattle.rv_code.specs.Words.{call_code}
use Rattle.rv_runtime.specs.Routines.{start_entry}
use Rattle.rv_runtime.proofs.Ends.{start_works}
use Rattle.rv_emit.specs.Grounds.{Ground}
use Rattle.rv_emit.proofs.Moves.{Goal, Shown, by_call, by_lui}
use Rattle.compiled_files.specs.Placing.{end_place}

module _ (ground : Ground) (goal : Goal ground) (memory : Memory) (keeps : Keeps ground.text memory) where
  open ground use {segments, text}

  -- with the end of the stack in x2, and in x1 the place behind the call
  pub by_start : (f : ℕ → ℕ) (stack_end main : ℕ) → f 0 ≡ 0 → Code segments text code_address (Lui 2 (stack_end / 2 ^ 12) ∷ call_code main)
      → stack_end % 2 ^ 12 ≡ 0 → main % 4 ≡ 0 → main < 2 ^ 32 → code_address ≤ main
      → ((g : ℕ → ℕ) → g 0 ≡ 0 → g 1 ≡ end_place → g 2 ≡ stack_end → Shown ground goal g main memory)
      → Shown ground goal f start_entry memory
  by_start f stack_end main nil code even whole small inside c =
      let top = stack_end / 2 ^ 12 * 2 ^ 12 in
      let g = put f 2 top in
      let same : top ≡ stack_end = omega arith in
      start_works segments text goal.Claim goal.claim ground.runtime goal.n goal.before f memory goal.input goal.output keeps
      (by_lui ground goal f code_address memory keeps (omega arith) 2 (stack_end / 2 ^ 12) code.0 (omega arith)
      (by_call ground goal g (code_address + 4) memory keeps (omega arith) main code.1 whole small inside
      (c (put g 1 (code_address + 4 + 4 + 4)) nil refl same)))
