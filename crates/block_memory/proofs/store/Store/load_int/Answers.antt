use Rattle.block_memory.proofs.Reached.{load_number_ok}
use Rattle.block_memory.proofs.store.Store.load_int.Goals as goal

pub returns-in-Ok : goal.returns-in-Ok
returns-in-Ok c =
    let s = c.args.self.now in
    load_number_ok s.slots s.arena s.free c.args.p c.args.kind c.width-width.result c.in-Ok.place c.number.result s.sound c.width-width.ensures c.in-Ok.ensures c.number.ensures
