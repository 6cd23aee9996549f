use Rattle.std.proofs.Common.{◌≡◌, map, take}
use Rattle.tac_ir.specs.Running.{empty_slot}
use Rattle.tac_engine.proofs.calls.frame_of.Given as goal

abbrev pub invariant-loop-block : goal.invariant-loop-block
invariant-loop-block l = l.frame.items ≡ map empty_slot (take l.block-index l.locals)
