use Rattle.lay_compile.proofs.Rounds.{fault_reached}
use Rattle.lay_compile.proofs.stages.reached_by.Goals as goal

pub returns-in-Err : goal.returns-in-Err
returns-in-Err c =
    let l = c.loop-file in
    fault_reached c.args.files.now l.file-index l.number c.file-item.result l.reached c.in-Err.fault c.loop-file-test.true c.file-item.is
    l.invariant.number l.invariant.reached c.in-Err.ensures
