-- Storage classes together, from left to right or from right to left.
use Rattle.std.proofs.Common.{◌≡◌, refl}
use Rattle.c_erasure.specs.Specifiers.{Storage, no_storage, together}

pub together_in_turn : (s t u : Storage) → together s (together t u) ≡ together (together s t) u
together_in_turn no_storage t u = refl
together_in_turn s no_storage u = refl
together_in_turn s t no_storage = refl
together_in_turn s t u = refl

pub together_nothing : (s : Storage) → together s no_storage ≡ s
together_nothing no_storage = refl
together_nothing s = refl
