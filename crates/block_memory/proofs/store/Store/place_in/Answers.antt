use Rattle.std.proofs.Common.{rules}
use Rattle.block_memory.proofs.Views.{place_dead, place_err, place_ok}
use Rattle.block_memory.proofs.store.Store.place_in.Goals as goal

pub returns-in-Ok : goal.returns-in-Ok
returns-in-Ok c =
    let s = c.args.self.now in
    place_ok s.slots s.arena s.free c.args.block c.args.at c.args.count c.args.width c.args.stores c.slot-slot.result
    s.sound c.slot-slot.ensures.is c.slot-slot.ensures.small (search rules) c.if-slot.true c.in-Ok.ensures.is c.in-Ok.ensures.within

pub returns-in-Err : goal.returns-in-Err
returns-in-Err c =
    let s = c.args.self.now in
    place_err s.slots s.arena s.free c.args.block c.args.at c.args.count c.args.width c.args.stores c.slot-slot.result c.in-Err.kind
    s.sound c.slot-slot.ensures.is c.if-slot.true c.in-Err.ensures.is

pub returns-else-slot : goal.returns-else-slot
returns-else-slot c =
    let s = c.args.self.now in
    place_dead s.slots s.arena c.args.block c.args.at c.args.count c.args.width c.args.stores c.slot-slot.result c.slot-slot.ensures.is c.if-slot.false
