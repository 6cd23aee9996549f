use Rattle.std.proofs.Common.{◌≡◌, drop, false}
use Rattle.c_lexer.specs.DirectiveScan.{are_flags}
use Rattle.c_lexer.proofs.directives.are_flags.Given as goal

abbrev pub invariant-loop-b : goal.invariant-loop-b
invariant-loop-b l = are_flags l.digit_may_come (drop l.b-index l.rest) ≡ are_flags false l.rest
