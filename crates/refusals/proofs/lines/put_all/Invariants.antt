use Rattle.std.proofs.Common.{take, Ok}
use Rattle.refusals.specs.Puts.{Puts}
use Rattle.refusals.proofs.Pieces.{all_of}
use Rattle.refusals.proofs.lines.put_all.Given as goal

-- the pieces so far are put
abbrev pub invariant-loop-piece : goal.invariant-loop-piece
invariant-loop-piece g l =
    Puts (g.E.Sink.faults l.initial.err) (g.E.Sink.faults l.err) (g.E.Sink.written l.initial.err) (g.E.Sink.written l.err)
    (all_of (take l.piece-index l.pieces)) (Ok tt)
