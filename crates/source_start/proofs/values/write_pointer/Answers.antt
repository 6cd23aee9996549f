use Rattle.block_memory.specs.View.{memory_of}
use Rattle.source_start.proofs.Standing.{pointer_stored}
use Rattle.source_start.proofs.values.write_pointer.Goals as goal

pub returns : goal.returns
returns c =
    pointer_stored (memory_of c.args.store.now) _ c.args.block c.args.at c.args.type_number c.args.q c.store_pointer.result c.requires c.store_pointer.ensures
