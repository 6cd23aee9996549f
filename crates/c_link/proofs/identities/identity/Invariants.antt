use Rattle.std.proofs.Common.{◌≡◌, ◌∷◌, take}
use Rattle.c_link.proofs.identities.identity.Given as goal

abbrev pub invariant-loop-byte : goal.invariant-loop-byte
invariant-loop-byte l = l.key.items ≡ 0 ∷ take l.byte-index l.byte-items
