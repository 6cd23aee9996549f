use Rattle.std.proofs.Common.{refl}
use Rattle.c_types.specs.IntKinds.{width}
use Rattle.block_memory.specs.Held.{bytes_of}
use Rattle.block_memory.proofs.Reached.{store_number_ok, store_number_err}
use Rattle.block_memory.proofs.Sound.{sound_changed}
use Rattle.block_memory.proofs.store.Store.store_int.Goals as goal

pub returns-in-Ok : goal.returns-in-Ok
returns-in-Ok c =
    let s = c.args.self.now in
    store_number_ok s.slots s.arena c.put_number.new.self s.free c.args.p c.args.kind c.width-width.result c.args.v c.in-Ok.place s.sound c.width-width.ensures c.in-Ok.ensures c.put_number.ensures

pub invariant_of-self : goal.invariant_of-self
invariant_of-self c =
    let s = c.args.self.now in
    record { sound = sound_changed s.slots s.arena c.put_number.new.self s.free c.in-Ok.place.cell (bytes_of (width c.args.kind) c.args.v) s.sound c.put_number.ensures; settles = s.settles }

pub returns-in-Err : goal.returns-in-Err
returns-in-Err c =
    let s = c.args.self.now in
    (store_number_err s.slots s.arena c.args.p c.args.kind c.width-width.result c.args.v c.in-Err.fault c.width-width.ensures c.in-Err.ensures, refl)
