use Rattle.std.proofs.Common.{length}
use Rattle.c_tokens.specs.QuotedScan.{body_of}
use Rattle.c_lexer.proofs.StringBytes.{ReadsOn}
use Rattle.c_lexer.proofs.string_bytes.add_text_bytes.Given as goal

abbrev pub invariant-loop-rest : goal.invariant-loop-rest
invariant-loop-rest l = ReadsOn l.fn.bytes.items l.bytes.items l.rest (body_of l.text)

abbrev pub decreases-loop-rest : goal.decreases-loop-rest
decreases-loop-rest l = length l.rest
