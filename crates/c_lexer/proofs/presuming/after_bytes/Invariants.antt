use Rattle.std.proofs.Common.{◌≡◌, ◌≤◌, ◌+◌, fold, drop}
use Rattle.c_tokens.specs.Presuming.{after_byte}
use Rattle.c_lexer.proofs.presuming.after_bytes.Given as goal

abbrev pub invariant-loop-byte : goal.invariant-loop-byte
invariant-loop-byte l = record {
  is : fold after_byte l.after (drop l.byte-index l.text) ≡ fold after_byte l.fn.lines l.text;
  small : l.after.next.line ≤ l.fn.lines.next.line + l.byte-index;
}
