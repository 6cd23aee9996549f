use Rattle.std.proofs.Common.{codes, map}
use Rattle.std.proofs.lemmas.Result.{err_from_is_err_and}
use Rattle.refusals.proofs.Pieces.{fails_first, line-pieces, puts_both}
use Rattle.refusals.proofs.lines.put_line.Goals as goal

pub returns-in_err-put : goal.returns-in_err-put
returns-in_err-put g c =
    let is_err = err_from_is_err_and c.from_residual.result c.from_residual.ensures.1 in
    rw (line-pieces (map (λ piece. piece.now) c.args.pieces.now), is_err.1)
    (fails_first {p = codes "layc: "} _ (record { count = c.in_err-put.ensures.count; kept = c.in_err-put.ensures.kept; gives = c.in_err-put.ensures.gives }))

pub returns-in_err-put_all : goal.returns-in_err-put_all
returns-in_err-put_all g c =
    let is_err = err_from_is_err_and c.from_residual-in_err-put_all.result c.from_residual-in_err-put_all.ensures.1 in
    rw (line-pieces (map (λ piece. piece.now) c.args.pieces.now), is_err.1)
    (puts_both {p = codes "layc: "} (record { count = c.in_ok-put.ensures.count; kept = c.in_ok-put.ensures.kept; gives = c.in_ok-put.ensures.gives })
    (fails_first _ c.in_err-put_all.ensures))

pub returns : goal.returns
returns g c =
    rw (line-pieces (map (λ piece. piece.now) c.args.pieces.now))
    (puts_both {p = codes "layc: "} (record { count = c.in_ok-put.ensures.count; kept = c.in_ok-put.ensures.kept; gives = c.in_ok-put.ensures.gives })
    (puts_both c.in_ok-put_all.ensures (record { count = c.put-2.ensures.count; kept = c.put-2.ensures.kept; gives = c.put-2.ensures.gives })))
