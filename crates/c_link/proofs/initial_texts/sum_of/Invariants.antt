use Rattle.std.proofs.Common.{◌≡◌, ◌≤◌, ◌+◌, ◌*◌, ◌^◌, drop}
use Rattle.c_link.specs.Texts.{rounded}
use Rattle.c_link.proofs.initial_texts.sum_of.Given as goal

abbrev pub invariant-loop-length : goal.invariant-loop-length
invariant-loop-length l = (l.bytes ≤ l.length-index * (2 ^ 64 + 3)) × (l.bytes + rounded (drop l.length-index l.lengths) ≡ rounded l.lengths)
