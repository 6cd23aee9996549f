use Rattle.std.proofs.Common.{replicate, refl}
use Rattle.memory_words.specs.declared.cell_words.cell.Cell.TheVariants.{Byte}
use Rattle.block_memory.proofs.Reached.{fill_ok, fill_err}
use Rattle.block_memory.proofs.Sound.{sound_changed}
use Rattle.block_memory.proofs.store.Store.fill.Goals as goal

pub returns-in-Ok : goal.returns-in-Ok
returns-in-Ok c =
    let s = c.args.self.now in
    fill_ok s.slots s.arena c.fill.new.self s.free c.args.to c.args.byte c.args.count c.in-Ok.place s.sound c.if-count-eq0.false c.in-Ok.ensures c.fill.ensures

pub invariant_of-self : goal.invariant_of-self
invariant_of-self c =
    let s = c.args.self.now in
    record { sound = sound_changed s.slots s.arena c.fill.new.self s.free c.in-Ok.place.cell (replicate c.args.count (Byte c.args.byte)) s.sound c.fill.ensures; settles = s.settles }

pub returns-in-Err : goal.returns-in-Err
returns-in-Err c =
    let s = c.args.self.now in
    (fill_err s.slots s.arena c.args.to c.args.byte c.args.count c.in-Err.fault c.if-count-eq0.false c.in-Err.ensures, refl)
