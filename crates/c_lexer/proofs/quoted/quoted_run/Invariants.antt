use Rattle.std.proofs.Common.{◌≡◌, ◌+◌, drop, false}
use Rattle.std.specs.Option.{option_map}
use Rattle.c_tokens.specs.QuotedScan.{quoted_length}
use Rattle.c_lexer.proofs.quoted.quoted_run.Given as goal

abbrev pub invariant-loop-i : goal.invariant-loop-i
invariant-loop-i l = option_map (λ n. l.i + n) (quoted_length l.quote l.escaped (drop l.i l.bytes)) ≡ quoted_length l.quote false l.bytes
