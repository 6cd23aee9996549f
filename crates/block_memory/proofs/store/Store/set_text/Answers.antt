use Rattle.std.proofs.Common.{◌+◌, ◌*◌, ◌∷◌, [], arith, refl}
use Rattle.memory_words.specs.declared.cell_words.cell.Cell.TheVariants.{Byte}
use Rattle.block_memory.proofs.Beginning.{set_ended, set_live, set_within}
use Rattle.block_memory.proofs.Sound.{sound_changed}
use Rattle.block_memory.proofs.store.Store.set_text.Goals as goal

pub put-requires : goal.put-requires
put-requires c =
    let s = c.args.self.now in
    let within = set_within s.slots s.arena s.free c.args.block c.args.at 1 c.slot-slot.result s.sound c.slot-slot.ensures.is c.if-slot.true (omega arith) in
    omega (arith, within)

pub returns-then-slot : goal.returns-then-slot
returns-then-slot c =
    let s = c.args.self.now in
    set_live s.slots s.arena c.put.new.self s.free c.args.block c.args.at (4 * c.slot-slot.result.start + c.args.at) c.slot-slot.result (Byte c.args.byte ∷ [])
    s.sound c.slot-slot.ensures.is c.if-slot.true (omega arith) refl c.put.ensures

pub returns-else-slot : goal.returns-else-slot
returns-else-slot c =
    let s = c.args.self.now in
    set_ended s.slots s.arena c.args.block c.args.at c.slot-slot.result (Byte c.args.byte ∷ []) c.slot-slot.ensures.is c.if-slot.false

pub invariant_of-self : goal.invariant_of-self
invariant_of-self c =
    let s = c.args.self.now in
    record { sound = sound_changed s.slots s.arena c.put.new.self s.free (4 * c.slot-slot.result.start + c.args.at) (Byte c.args.byte ∷ []) s.sound c.put.ensures; settles = s.settles }
