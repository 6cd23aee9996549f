use Rattle.std.proofs.Common.{◌+◌, ◌*◌, length, map, arith, refl}
use Rattle.std.proofs.lemmas.List.{length-map}
use Rattle.memory_words.specs.declared.cell_words.cell.Cell.TheVariants.{Byte}
use Rattle.block_memory.proofs.Beginning.{set_ended, set_live, set_within}
use Rattle.block_memory.proofs.Sound.{sound_changed}
use Rattle.block_memory.proofs.store.Store.set_bytes.Goals as goal

pub put_bytes-requires-clause-within : goal.put_bytes-requires-clause-within
put_bytes-requires-clause-within c =
    let s = c.args.self.now in
    set_within s.slots s.arena s.free c.args.block c.args.at (length c.args.bytes.now) c.slot-slot.result s.sound c.slot-slot.ensures.is c.if-slot.true c.requires

pub returns-then-slot : goal.returns-then-slot
returns-then-slot c =
    let s = c.args.self.now in
    let many = length-map c.args.bytes.now Byte in
    set_live s.slots s.arena c.put_bytes.new.self s.free c.args.block c.args.at (4 * c.slot-slot.result.start + c.args.at) c.slot-slot.result (map Byte c.args.bytes.now)
    s.sound c.slot-slot.ensures.is c.if-slot.true (omega (arith, many)) refl c.put_bytes.ensures

pub returns-else-slot : goal.returns-else-slot
returns-else-slot c =
    let s = c.args.self.now in
    set_ended s.slots s.arena c.args.block c.args.at c.slot-slot.result (map Byte c.args.bytes.now) c.slot-slot.ensures.is c.if-slot.false

pub invariant_of-self : goal.invariant_of-self
invariant_of-self c =
    let s = c.args.self.now in
    record { sound = sound_changed s.slots s.arena c.put_bytes.new.self s.free (4 * c.slot-slot.result.start + c.args.at) (map Byte c.args.bytes.now) s.sound c.put_bytes.ensures; settles = s.settles }
