use Rattle.std.proofs.Common.{◌*◌, replicate, arith}
use Rattle.std.proofs.lemmas.List.{length-replicate}
use Rattle.memory_words.specs.CellWords.Words.{cell_of}
use Rattle.block_memory.proofs.Beginning.{set_ended, set_live, set_within}
use Rattle.block_memory.proofs.Sound.{sound_changed}
use Rattle.block_memory.proofs.store.Store.set_content.Goals as goal

pub fill-requires-clause-within : goal.fill-requires-clause-within
fill-requires-clause-within c =
    let s = c.args.self.now in
    let within = set_within s.slots s.arena s.free c.args.block 0 c.args.count c.slot-slot.result s.sound c.slot-slot.ensures.is c.if-slot.true (omega arith) in
    omega (arith, within)

pub returns-then-slot : goal.returns-then-slot
returns-then-slot c =
    let s = c.args.self.now in
    let put = replicate c.args.count (cell_of c.args.content) in
    let many = length-replicate c.args.count (cell_of c.args.content) in
    set_live s.slots s.arena c.fill.new.self s.free c.args.block 0 (4 * c.slot-slot.result.start) c.slot-slot.result put
    s.sound c.slot-slot.ensures.is c.if-slot.true (omega (arith, many)) (omega arith) c.fill.ensures

pub returns-else-slot : goal.returns-else-slot
returns-else-slot c =
    let s = c.args.self.now in
    set_ended s.slots s.arena c.args.block 0 c.slot-slot.result (replicate c.args.count (cell_of c.args.content)) c.slot-slot.ensures.is c.if-slot.false

pub invariant_of-self : goal.invariant_of-self
invariant_of-self c =
    let s = c.args.self.now in
    let put = replicate c.args.count (cell_of c.args.content) in
    record { sound = sound_changed s.slots s.arena c.fill.new.self s.free (4 * c.slot-slot.result.start) put s.sound c.fill.ensures; settles = s.settles }
