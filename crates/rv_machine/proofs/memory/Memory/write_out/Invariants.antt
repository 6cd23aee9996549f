use Rattle.std.proofs.Common.{◌≡◌, ◌+◌, true}
use Rattle.rv_isa.specs.Memory.{are_mapped, bytes_at, readable}
use Rattle.rv_machine.specs.View.{content_of, segments_in}
use Rattle.rv_machine.proofs.Pieces.{Wrote}
use Rattle.rv_machine.proofs.memory.Memory.write_out.Given as goal

abbrev pub invariant-loop-left : goal.invariant-loop-left
invariant-loop-left g l = record {
  place : l.next + l.left ≡ l.fn.address + l.fn.count;
  mapped : are_mapped (segments_in l.self) readable l.next l.left ≡ true;
  wrote : Wrote (g.O.Sink.faults l.fn.out) (g.O.Sink.faults l.out) (g.O.Sink.written l.fn.out) (g.O.Sink.written l.out)
      (bytes_at (content_of l.self) l.fn.address l.fn.count) (bytes_at (content_of l.self) l.next l.left);
}

abbrev pub decreases-loop-left : goal.decreases-loop-left
decreases-loop-left g l = l.left
