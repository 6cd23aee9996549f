use Rattle.std.proofs.Common.{◌≡◌, ◌+◌, length, take}
use Rattle.c_tokens.specs.Presuming.{AreTokensBefore}
use Rattle.c_lexer.specs.PresumingScan.{last_line, LeadsOn}
use Rattle.c_lexer.proofs.presuming.presumed_after.Given as goal

abbrev pub invariant-loop-rest : goal.invariant-loop-rest
invariant-loop-rest l = record {
  leads : (t : AreTokensBefore l.at l.bytes) → ∥ LeadsOn (λ line. line
      ≡ last_line (take l.at l.bytes) t.0 t.1) l.reached.from l.reached.begins_line l.rest l.reached.lines ∥₁;
  place : l.reached.from + length l.rest ≡ l.at;
}

abbrev pub decreases-loop-rest : goal.decreases-loop-rest
decreases-loop-rest l = length l.rest
