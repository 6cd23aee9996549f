use Rattle.block_memory.proofs.Reached.{compare_first_err, compare_ok, compare_second_err}
use Rattle.block_memory.proofs.store.Store.compare.Goals as goal

pub returns-in-Ok-place : goal.returns-in-Ok-place
returns-in-Ok-place c =
    let s = c.args.self.now in
    compare_ok s.slots s.arena s.free c.args.p c.args.q c.args.count c.in-Ok.a c.in-Ok-place.b c.compare.result s.sound c.if-count-eq0.false c.in-Ok.ensures c.in-Ok-place.ensures c.compare.ensures

pub returns-in-Err-place : goal.returns-in-Err-place
returns-in-Err-place c =
    let s = c.args.self.now in
    compare_second_err s.slots s.arena c.args.p c.args.q c.args.count c.in-Ok.a c.in-Err-place.fault c.if-count-eq0.false c.in-Ok.ensures c.in-Err-place.ensures

pub returns-in-Err : goal.returns-in-Err
returns-in-Err c =
    let s = c.args.self.now in compare_first_err s.slots s.arena c.args.p c.args.q c.args.count c.in-Err.fault c.if-count-eq0.false c.in-Err.ensures
