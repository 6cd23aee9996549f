use Rattle.std.proofs.Common.{◌≡◌, take}
use Rattle.c_types.proofs.types.+copying.Given as goal

abbrev pub invariant-share_all-loop-t : goal.invariant-share_all-loop-t
invariant-share_all-loop-t l = l.copies ≡ take l.t-index l.t-items
