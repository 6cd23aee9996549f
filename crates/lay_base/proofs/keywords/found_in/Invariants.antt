use Rattle.std.proofs.Common.{◌≡◌, drop}
use Rattle.std.specs.Prelude.{map}
use Rattle.lay_base.specs.KeywordScan.{found_in}
use Rattle.lay_base.proofs.keywords.found_in.Given as goal

abbrev pub invariant-loop-row : goal.invariant-loop-row
invariant-loop-row l = found_in (map (λ row. (row.0.now, row.1)) (drop l.row-index l.rows)) l.word ≡ found_in (map (λ row. (row.0.now, row.1)) l.rows) l.word
