use Rattle.std.proofs.Common.{◌≡◌, length, map, take}
use Rattle.rv_code.proofs.functions.lengths.Given as goal

abbrev pub invariant-loop-bytes : goal.invariant-loop-bytes
invariant-loop-bytes l = l.lengths.items ≡ map length (take l.bytes-index l.texts)
