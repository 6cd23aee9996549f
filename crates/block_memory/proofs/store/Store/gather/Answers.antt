use Rattle.std.proofs.Common.{◌≡◌, length, arith, sym, ap, ◌∙◌}
use Rattle.block_memory.specs.Moves.{IsGathered}
use Rattle.block_memory.proofs.Gathering.{settled_all, sound_gathered}
use Rattle.block_memory.specs.Blocks.{Memory, block}
use Rattle.block_memory.specs.RunWorlds.Worlds.{live_in}
use Rattle.block_memory.specs.View.{memory_of}
use Rattle.block_memory.proofs.Near.{live_next}
use Rattle.block_memory.proofs.store.Store.gather.Goals as goal

pub invariant_of-self : goal.invariant_of-self
invariant_of-self c =
    let s = c.loop-block.self in
    let all : c.len-many.result ≡ length s.slots = c.len-many.ensures ∙ sym c.loop-block.invariant.many in
    let last : c.len-many.result ≡ c.loop-block.block = omega (arith, c.args.self.now.settles.known) in
    let gathered : IsGathered s.slots c.len-many.result c.loop-block.to = rw last c.loop-block.invariant.gathered in
    record {
      sound = sound_gathered s.slots s.arena s.free c.loop-block.to s.sound (rw (sym all) gathered) c.loop-block.invariant.within;
      settles = settled_all s.slots c.len-many.result c.loop-block.to gathered all;
    }

pub loop-block-preserved : goal.loop-block-preserved
loop-block-preserved c =
    let i = c.loop-block.invariant in
    let n = c.lower_one-to.ensures in
    let m : Memory = memory_of c.args.self.now in
    let same : live_in (block (memory_of c.loop-block.self) c.loop-block.block).contents ≡ live_in (block m c.loop-block.block).contents
    = ap (λ m. live_in (block m c.loop-block.block).contents) i.memory in
    let next = live_next m c.loop-block.block in
    record {
      memory = n.memory ∙ i.memory;
      gathered = n.gathered;
      many = n.many ∙ i.many;
      within = n.within;
      free = n.free ∙ i.free;
      near = omega (arith, n.near, i.near, same, next);
      settled = omega (arith, n.settled, i.settled);
      words = omega (arith, n.words, i.words, n.further);
    }
