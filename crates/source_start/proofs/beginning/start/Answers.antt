use Rattle.std.proofs.Common.{◌∙◌}
use Rattle.block_memory.specs.View.{memory_of}
use Rattle.c_typed.specs.Programs.{program_data}
use Rattle.source_state.specs.RoomView.{core_of}
use Rattle.source_start.proofs.Filled.{filled}
use Rattle.source_start.proofs.beginning.start.Goals as goal

pub returns : goal.returns
returns c = λ turns counts e. c.take_store.ensures ∙ filled (program_data c.args.types.now) turns counts (core_of c.args.room.now)
    (memory_of c.add_objects.new.store) c.in_ok-live.live e c.in_ok-live.ensures.memory c.in_ok-live.ensures.live
