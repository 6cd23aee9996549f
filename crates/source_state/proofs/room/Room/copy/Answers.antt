use Rattle.block_memory.specs.View.{memory_of}
use Rattle.source_state.proofs.Keeps.{copy_kept}
use Rattle.source_state.proofs.room.Room.copy.Goals as goal

pub invariant_of-self : goal.invariant_of-self
invariant_of-self c =
    let r = c.args.self.now in
    record {
      counted = copy_kept c.copy.result (memory_of r.store) (memory_of c.copy.new.self) r.live c.args.to c.args.from c.args.count c.args.overlap r.counted c.copy.ensures;
      few = r.few;
    }
