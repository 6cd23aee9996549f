use Rattle.std.proofs.Common.{refl}
use Rattle.block_memory.proofs.Reached.{copy_from_err, copy_ok, copy_to_err}
use Rattle.block_memory.proofs.store.Store.copy.Goals as goal

pub returns-in-Ok-place : goal.returns-in-Ok-place
returns-in-Ok-place c =
    let s = c.args.self.now in
    let new = c.copy_places.new.self in
    copy_ok s.slots new.slots s.arena new.arena c.args.to c.args.from c.args.count c.args.overlap c.in-Ok.a c.in-Ok-place.b c.copy_places.result
    c.if-count-eq0.false c.in-Ok.ensures c.in-Ok-place.ensures c.copy_places.ensures

pub returns-in-Err-place : goal.returns-in-Err-place
returns-in-Err-place c =
    let s = c.args.self.now in
    (copy_from_err s.slots s.arena c.args.to c.args.from c.args.count c.args.overlap c.in-Ok.a c.in-Err-place.fault c.if-count-eq0.false c.in-Ok.ensures c.in-Err-place.ensures, refl)

pub returns-in-Err : goal.returns-in-Err
returns-in-Err c =
    let s = c.args.self.now in
    (copy_to_err s.slots s.arena c.args.to c.args.from c.args.count c.args.overlap c.in-Err.fault c.if-count-eq0.false c.in-Err.ensures, refl)
