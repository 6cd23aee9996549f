use Rattle.std.proofs.Common.{◌≡◌, drop, fold}
use Rattle.legality.specs.Breaches.{all_of}
use Rattle.legality.specs.Firsts.{marked}
use Rattle.legality.proofs.marks.mark_all.Given as goal

abbrev pub invariant-loop-number : goal.invariant-loop-number
invariant-loop-number l = fold marked l.firsts (all_of l.test l.place (drop l.number-index l.numbers)) ≡ fold marked l.fn.firsts (all_of l.test l.place l.numbers)
