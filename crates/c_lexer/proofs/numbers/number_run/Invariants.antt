use Rattle.std.proofs.Common.{◌≡◌, ◌+◌, drop}
use Rattle.c_lexer.specs.NumberScan.{number_length}
use Rattle.c_lexer.proofs.numbers.number_run.Given as goal

abbrev pub invariant-loop-i : goal.invariant-loop-i
invariant-loop-i l = l.i + number_length l.before (drop l.i l.bytes) ≡ number_length l.first l.bytes
