use Rattle.std.proofs.Common.{◌≡◌, length}
use Rattle.tac_ir.specs.Running.{with_temp}
use Rattle.tac_engine.proofs.temporaries.grow.Given as goal

abbrev pub invariant-loop : goal.invariant-loop
invariant-loop l = (with_temp l.t l.slot l.frame.items ≡ with_temp l.t l.slot l.fn.frame.items) × (length l.frame.items ≡ l.counter)
