-- A store as memory.
use Rattle.block_memory.specs.declared.store.Store.{Store}
use Rattle.block_memory.specs.Blocks.{Memory}
use Rattle.block_memory.specs.Slots.{memory_in}

abbrev pub memory_of : Store → Memory
memory_of store = memory_in store.slots store.arena
