use Rattle.std.proofs.Common.{◌≡◌, drop, map}
use Rattle.c_lexer.specs.Scanning.{word_by}
use Rattle.c_lexer.proofs.words.word_by.Given as goal

abbrev pub invariant-loop-row : goal.invariant-loop-row
invariant-loop-row l = word_by (map (λ row. (row.0.now, row.1)) (drop l.row-index l.rows)) l.bytes ≡ word_by (map (λ row. (row.0.now, row.1)) l.rows) l.bytes
