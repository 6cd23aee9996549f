use Rattle.std.proofs.Common.{◌≡◌, [], drop, fold, map}
use Rattle.c_numbers.specs.KeyNumbers.Keys.{with_key}
use Rattle.c_link.specs.Names.{linked_of}
use Rattle.c_link.proofs.names.names_of.Given as goal

abbrev pub invariant-loop-l : goal.invariant-loop-l
invariant-loop-l l = fold with_key l.names (map (λ l. l.name) (map linked_of (drop l.l-index l.all))) ≡ fold with_key [] (map (λ l. l.name) (map linked_of l.all))
