use Rattle.std.proofs.Common.{◌≡◌, length}
use Rattle.c_tokens.specs.QuotedScan.{body_of, text_with, values_in}
use Rattle.c_lexer.proofs.Strings.{text_after}
use Rattle.c_lexer.proofs.quoted.string_of.Given as goal

abbrev pub invariant-loop-rest : goal.invariant-loop-rest
invariant-loop-rest l = text_after l.wide (values_in (length l.rest) l.rest) ≡ text_with (values_in (length (body_of l.word)) (body_of l.word))

abbrev pub decreases-loop-rest : goal.decreases-loop-rest
decreases-loop-rest l = length l.rest
