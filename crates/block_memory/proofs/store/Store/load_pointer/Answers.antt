use Rattle.block_memory.proofs.Reached.{load_pointer_ok}
use Rattle.block_memory.proofs.store.Store.load_pointer.Goals as goal

pub returns-in-Ok : goal.returns-in-Ok
returns-in-Ok c =
    let s = c.args.self.now in
    load_pointer_ok s.slots s.arena s.free c.args.p c.args.type_number c.in-Ok.place c.pointer.result s.sound c.in-Ok.ensures c.pointer.ensures
