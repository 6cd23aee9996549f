use Rattle.std.proofs.Common.{refl}
use Rattle.block_memory.specs.Held.{fragments_of}
use Rattle.block_memory.proofs.Reached.{store_pointer_ok, store_pointer_err}
use Rattle.block_memory.proofs.Sound.{sound_changed}
use Rattle.block_memory.proofs.store.Store.store_pointer.Goals as goal

pub returns-in-Ok : goal.returns-in-Ok
returns-in-Ok c =
    let s = c.args.self.now in
    store_pointer_ok s.slots s.arena c.put_pointer.new.self s.free c.args.p c.args.type_number c.args.q c.in-Ok.place s.sound c.in-Ok.ensures c.put_pointer.ensures

pub invariant_of-self : goal.invariant_of-self
invariant_of-self c =
    let s = c.args.self.now in
    record { sound = sound_changed s.slots s.arena c.put_pointer.new.self s.free c.in-Ok.place.cell (fragments_of c.args.type_number c.args.q) s.sound c.put_pointer.ensures; settles = s.settles }

pub returns-in-Err : goal.returns-in-Err
returns-in-Err c =
    let s = c.args.self.now in
    (store_pointer_err s.slots s.arena c.args.p c.args.type_number c.args.q c.in-Err.fault c.in-Err.ensures, refl)
