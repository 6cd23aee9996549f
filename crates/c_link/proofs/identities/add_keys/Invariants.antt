use Rattle.std.proofs.Common.{◌≡◌, fold, map}
use Rattle.c_numbers.specs.KeyNumbers.Keys.{with_key}
use Rattle.c_link.proofs.identities.add_keys.Given as goal

abbrev pub invariant-loop-key : goal.invariant-loop-key
invariant-loop-key l = l.table ≡ fold with_key l.initial.table (map (λ key. key.items) l.yielded)
