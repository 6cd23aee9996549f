use Rattle.std.proofs.Common.{◌≡◌, ◌++◌, map, take}
use Rattle.lower_tac.proofs.functions.add_blocks.Given as goal

abbrev pub invariant-loop-local : goal.invariant-loop-local
invariant-loop-local l = l.made ≡ l.fn.made ++ map (λ l. l.block) (take l.local-index l.all)
