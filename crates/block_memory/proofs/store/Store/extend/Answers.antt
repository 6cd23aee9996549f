use Rattle.std.proofs.Common.{◌-◌, ◌*◌, ◌+◌, replicate}
use Rattle.memory_words.specs.declared.cell_words.cell.Cell.TheVariants.{Empty}
use Rattle.block_memory.proofs.Beginning.{kept_grown, sound_grown}
use Rattle.block_memory.proofs.store.Store.extend.Goals as goal

pub returns-clause-memory : goal.returns-clause-memory
returns-clause-memory c =
    let s = c.args.self.now in
    let more = replicate (4 * (s.free + c.args.count - c.words-words.result)) Empty in
    kept_grown s.slots s.arena c.grow.new.self s.free more c.grow.result s.sound c.grow.ensures

pub invariant_of-self : goal.invariant_of-self
invariant_of-self c =
    let s = c.args.self.now in
    let more = replicate (4 * (s.free + c.args.count - c.words-words.result)) Empty in
    record { sound = sound_grown s.slots s.arena c.grow.new.self s.free more c.grow.result s.sound c.grow.ensures; settles = s.settles }
