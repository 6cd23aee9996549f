use Rattle.std.proofs.Common.{◌≡◌, ◌++◌, drop}
use Rattle.c_erasure.specs.Erasure.{literal_of}
use Rattle.c_declaring.proofs.literals.literal_bytes.Given as goal

abbrev pub invariant-loop-x : goal.invariant-loop-x
invariant-loop-x l = l.bytes.items ++ literal_of (drop l.x-index l.all) ≡ literal_of l.all
