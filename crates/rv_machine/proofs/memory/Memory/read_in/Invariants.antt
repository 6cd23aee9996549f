use Rattle.std.proofs.Common.{◌≡◌}
use Rattle.rv_machine.specs.Streams.{ComesIn}
use Rattle.rv_machine.specs.View.{content_of}
use Rattle.rv_machine.proofs.memory.Memory.read_in.Given as goal

-- the bytes so far have come
abbrev pub invariant-loop-i : goal.invariant-loop-i
invariant-loop-i g l = record {
  rows : l.self.rows ≡ l.fn.self.rows;
  kept : g.I.Source.faults l.input ≡ g.I.Source.faults l.fn.input;
  came : ComesIn (g.I.Source.left l.fn.input) (g.I.Source.left l.input) (content_of l.fn.self) (content_of l.self) l.address l.i;
}
