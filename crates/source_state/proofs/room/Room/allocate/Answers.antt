use Rattle.block_memory.specs.View.{memory_of}
use Rattle.block_memory.specs.declared.kinds.BlockKind.TheVariants.{Heap}
use Rattle.source_state.specs.RoomView.{core_of}
use Rattle.source_state.proofs.Keeps.{zeros_kept}
use Rattle.source_state.proofs.Within.{made_size}
use Rattle.source_state.proofs.room.Room.allocate.Goals as goal

pub invariant_of-self : goal.invariant_of-self
invariant_of-self c =
    let r = c.make.new.self in
    let fits = made_size c.args.size Heap (core_of c.args.self.now) (core_of r) c.in_ok-block.field-0 c.in-Ok.block c.in_ok-block.ensures.makes c.in-Ok.is in
    record {
      counted = zeros_kept (memory_of r.store) (memory_of c.set_zero.new.self) r.live c.in-Ok.block c.args.size r.counted fits c.set_zero.ensures;
      few = r.few;
    }
