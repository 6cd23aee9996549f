use Rattle.std.proofs.Common.{◌≡◌, ◌<◌, ◌^◌, drop}
use Rattle.rv_words.specs.Digits.{value}
use Rattle.rv_words.proofs.digits.value_of.Given as goal

abbrev pub invariant-loop-byte : goal.invariant-loop-byte
invariant-loop-byte l = (l.word < 16 ^ l.byte-index) × (value l.text 0 ≡ value (drop l.byte-index l.text) l.word)
