use Rattle.std.proofs.Common.{true, refl, arith}
use Rattle.std.proofs.lemmas.Result.{err_from_is_err_and}
use Rattle.rv_machine.proofs.Pieces.{mapped_after, bytes_none, wrote_split, wrote_more, wrote_part, wrote_all}
use Rattle.rv_machine.proofs.memory.Memory.write_out.Goals as goal

pub returns-in_err-put-clause-gives : goal.returns-in_err-put-clause-gives
returns-in_err-put-clause-gives g c =
    let is_err = err_from_is_err_and c.from_residual.result c.from_residual.ensures.1 in
    let piece = c.piece_at-piece in
    let wrote = wrote_split _ _ _ _ _ piece.result.now _ _ c.loop-left.left c.loop-left.invariant.wrote piece.ensures.bytes piece.ensures.within in
    rw is_err.1 (wrote_part _ _ _ _ _ _ _ _ _ wrote _ c.in_err-put.ensures.gives)

pub loop-left-preserved : goal.loop-left-preserved
loop-left-preserved g c =
    let piece = c.piece_at-piece in
    let within = piece.ensures.within in
    let wrote = wrote_split _ _ _ _ _ piece.result.now _ _ c.loop-left.left c.loop-left.invariant.wrote piece.ensures.bytes within in
    record {
      place = omega arith;
      mapped = mapped_after _ _ _ _ c.loop-left.left c.loop-left.invariant.mapped within;
      wrote = wrote_more _ _ _ _ _ _ _ _ _ wrote (c.in_ok-put.ensures.kept (refl {a = true})) c.in_ok-put.ensures.gives;
    }

pub returns-clause-gives : goal.returns-clause-gives
returns-clause-gives g c = wrote_all _ _ _ _ _ _ c.loop-left.invariant.wrote (bytes_none _ _ c.loop-left.left (omega arith))
