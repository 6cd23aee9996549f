use Rattle.std.proofs.Common.{map}
use Rattle.std.proofs.lemmas.Result.{err_from_is_err_and}
use Rattle.refusals.proofs.Pieces.{fails_first, line_at-pieces, puts_both}
use Rattle.refusals.proofs.lines.put_line_at.Goals as goal

pub returns-in_err-put_all : goal.returns-in_err-put_all
returns-in_err-put_all g c =
    let is_err = err_from_is_err_and c.from_residual.result c.from_residual.ensures.1 in
    rw (line_at-pieces c.args.at.now (map (λ piece. piece.now) c.args.pieces.now), is_err.1) (fails_first _ c.in_err-put_all.ensures)

pub returns-in_err-put_all-2 : goal.returns-in_err-put_all-2
returns-in_err-put_all-2 g c =
    let is_err = err_from_is_err_and c.from_residual-in_err-put_all-2.result c.from_residual-in_err-put_all-2.ensures.1 in
    rw (line_at-pieces c.args.at.now (map (λ piece. piece.now) c.args.pieces.now), is_err.1)
    (puts_both c.in_ok-put_all.ensures (fails_first _ c.in_err-put_all-2.ensures))

pub returns : goal.returns
returns g c =
    rw (line_at-pieces c.args.at.now (map (λ piece. piece.now) c.args.pieces.now))
    (puts_both c.in_ok-put_all.ensures (puts_both c.in_ok-put_all-2.ensures
    (record { count = c.put.ensures.count; kept = c.put.ensures.kept; gives = c.put.ensures.gives })))
