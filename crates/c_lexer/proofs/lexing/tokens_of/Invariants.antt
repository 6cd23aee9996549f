use Rattle.std.proofs.Common.{◌≡◌, ◌+◌, length, true}
use Rattle.c_lexer.specs.Scanning.{scan}
use Rattle.c_lexer.proofs.Scans.{Goes}
use Rattle.c_lexer.proofs.lexing.tokens_of.Given as goal

abbrev pub invariant-loop-rest : goal.invariant-loop-rest
invariant-loop-rest l = record {
  goes : Goes l.tokens.items l.at l.begins_line l.rest (scan (length l.bytes) 0 true l.bytes);
  place : l.at + length l.rest ≡ length l.bytes;
}

abbrev pub decreases-loop-rest : goal.decreases-loop-rest
decreases-loop-rest l = length l.rest
