use Rattle.std.proofs.Common.{◌≡◌, drop}
use Rattle.std.specs.Prelude.{map}
use Rattle.lay_base.specs.KeywordScan.{number_from}
use Rattle.lay_base.proofs.keywords.number_of.Given as goal

abbrev pub invariant-loop-number : goal.invariant-loop-number
invariant-loop-number l = number_from l.number (map (λ text. text.now) (drop l.number l.texts)) l.word ≡ number_from 0 (map (λ text. text.now) l.texts) l.word
