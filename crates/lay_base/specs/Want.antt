-- Want of memory: all of it is the same.
use Rattle.lay_base.specs.declared.no_memory.NoMemory.{NoMemory}

pub no_memory : NoMemory
no_memory = record { refused = tt }
