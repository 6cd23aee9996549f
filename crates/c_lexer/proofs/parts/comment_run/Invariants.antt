use Rattle.std.proofs.Common.{◌≡◌, ◌+◌, drop, false}
use Rattle.std.specs.Option.{option_map}
use Rattle.c_lexer.specs.Scanning.{comment_length}
use Rattle.c_lexer.proofs.parts.comment_run.Given as goal

abbrev pub invariant-loop-i : goal.invariant-loop-i
invariant-loop-i l = option_map (λ n. l.i + n) (comment_length l.starred (drop l.i l.bytes)) ≡ comment_length false l.bytes
