use Rattle.std.proofs.Common.{◌<◌, length, arith, add-one}
use Rattle.std.proofs.lemmas.Result.{err_from_is_err_and}
use Rattle.refusals.proofs.Pieces.{all_of-take-suc, all_of-split, fails_first, puts_both, puts_nothing}
use Rattle.refusals.proofs.lines.put_all.Goals as goal

pub loop-piece-init : goal.loop-piece-init
loop-piece-init g c = puts_nothing (g.E.Sink.faults c.args.err.now) (g.E.Sink.written c.args.err.now)

pub loop-piece-preserved : goal.loop-piece-preserved
loop-piece-preserved g c =
    let within : c.loop-piece.piece-index < length c.args.pieces.now = omega arith in
    rw (add-one, all_of-take-suc c.args.pieces.now c.loop-piece.piece-index within)
    (puts_both c.loop-piece.invariant (record { count = c.in_ok-put.ensures.count; kept = c.in_ok-put.ensures.kept; gives = c.in_ok-put.ensures.gives }))

pub returns-in_err-put : goal.returns-in_err-put
returns-in_err-put g c =
    let within : c.loop-piece.piece-index < length c.args.pieces.now = omega arith in
    let is_err = err_from_is_err_and c.from_residual.result c.from_residual.ensures.1 in
    rw (all_of-split c.args.pieces.now c.loop-piece.piece-index within, is_err.1)
    (puts_both c.loop-piece.invariant
    (fails_first _ (record { count = c.in_err-put.ensures.count; kept = c.in_err-put.ensures.kept; gives = c.in_err-put.ensures.gives })))
