use Rattle.std.proofs.Common.{◌≡◌, map, take}
use Rattle.c_numbers.specs.KeyNumbers.Keys.{position}
use Rattle.c_link.proofs.identities.numbers_of.Given as goal

abbrev pub invariant-loop-key : goal.invariant-loop-key
invariant-loop-key l = l.entries ≡ map (position l.table) (map (λ key. key.items) (take l.key-index l.keys))
