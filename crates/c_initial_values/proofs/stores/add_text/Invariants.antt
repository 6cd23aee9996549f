use Rattle.std.proofs.Common.{◌≡◌, ◌++◌, drop}
use Rattle.c_erasure.specs.Units.{of_text}
use Rattle.c_initial_values.specs.Values.{stores_in}
use Rattle.c_initial_values.proofs.stores.add_text.Given as goal

abbrev pub invariant-loop-byte : goal.invariant-loop-byte
invariant-loop-byte l = stores_in l.found ++ of_text l.at (drop l.byte-index l.bytes) ≡ stores_in l.fn.found ++ of_text l.offset l.bytes
