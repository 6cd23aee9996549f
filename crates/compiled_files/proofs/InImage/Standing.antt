-- Bytes that stand in memory as code.
use Rattle.std.proofs.Common.{◌≡◌, ℕ, ◌+◌, ◌*◌, ◌^◌, ◌<◌, ◌≤◌, true, List, [], ◌∷◌, length, refl, ap, ◌∙◌, arith}
use Rattle.std.specs.Prelude.{slice_index}
use Rattle.std.specs.Int.{w32, to_le_bytes}
use Rattle.std.specs.List.{AllByRecursion}
use Rattle.rv_isa.specs.declared.image.Segment.{Segment}
use Rattle.rv_isa.specs.declared.instruction.Inst.{Inst}
use Rattle.rv_isa.specs.Encoding.{encoding, IsInRange}
use Rattle.rv_isa.specs.Memory.{Memory, executable, are_mapped, word_at}
use Rattle.rv_isa.proofs.Laws.{encoding_fits}
use Rattle.rv_runtime.specs.Steps.States.{Code, code_end}
use Rattle.rv_runtime.specs.Bytes.{Holds, bytes_of, words_of}
use Rattle.rv_runtime.proofs.Standing.{holds_back, holds_front}

-- the bytes of a number make it again
joined_bytes : (n b0 b1 b2 b3 : ℕ) → n < 2 ^ 32 → b0 ≡ slice_index (to_le_bytes w32 n) 0 → b1 ≡ slice_index (to_le_bytes w32 n) 1
    → b2 ≡ slice_index (to_le_bytes w32 n) 2 → b3 ≡ slice_index (to_le_bytes w32 n) 3 → b0 + 2 ^ 8 * b1 + 2 ^ 16 * b2 + 2 ^ 24 * b3 ≡ n
joined_bytes n b0 b1 b2 b3 lt e0 e1 e2 e3 = omega arith

holds_word : (memory : Memory) (at n : ℕ) → n < 2 ^ 32 → Holds memory at (to_le_bytes w32 n) → word_at memory at ≡ n
holds_word memory at n lt h =
    let z : at ≡ at + 0 = omega arith in
    joined_bytes n _ _ _ _ lt (ap memory z ∙ h.by 0 (omega arith)) (h.by 1 (omega arith)) (h.by 2 (omega arith)) (h.by 3 (omega arith))

-- in a range of addresses whose bytes may be executed
module _ (segments : List Segment) (text : Memory) (low end : ℕ) (below : end ≤ code_end)
    (mapped : (a : ℕ) → low ≤ a → a + 4 ≤ end → are_mapped segments executable a 4 ≡ true) where
  pub code_stands : (pc : ℕ) (code : List Inst) → low ≤ pc → pc + 4 * length code ≤ end → AllByRecursion IsInRange code
      → Holds text pc (bytes_of (words_of code)) → Code segments text pc code
  code_stands pc [] le fits range h = tt
  code_stands pc (i ∷ code) le fits range h =
      let w = to_le_bytes w32 (encoding i) in
      let rest : Holds text (pc + 4) (bytes_of (words_of code)) = holds_back text pc 4 w (bytes_of (words_of code)) refl h in (
        record {
          mapped = mapped pc le (omega arith);
          below = omega arith;
          word = holds_word text pc (encoding i) (encoding_fits i range.0) (holds_front text pc w (bytes_of (words_of code)) h);
          in_range = range.0;
        },
        code_stands (pc + 4) code (omega arith) (omega arith) range.1 rest,
      )
