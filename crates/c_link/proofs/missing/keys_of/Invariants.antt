use Rattle.std.proofs.Common.{◌≡◌, [], drop, fold, map}
use Rattle.c_walks.specs.NodeTypes.{reference_of}
use Rattle.c_numbers.specs.KeyNumbers.Keys.{with_key}
use Rattle.c_link.specs.Missing.{key_of}
use Rattle.c_link.proofs.missing.keys_of.Given as goal

abbrev pub invariant-loop-reference : goal.invariant-loop-reference
invariant-loop-reference l = fold with_key l.used (map key_of (map reference_of (drop l.reference-index l.all))) ≡ fold with_key [] (map key_of (map reference_of l.all))
