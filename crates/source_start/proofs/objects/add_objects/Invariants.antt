use Rattle.std.proofs.Common.{◌≡◌, ◌+◌, ◌++◌, drop, fold, map}
use Rattle.block_memory.specs.View.{memory_of}
use Rattle.c_meaning.specs.Program.{initial_memory, object_block, object_size}
use Rattle.c_typed.specs.Programs.{program_data}
use Rattle.block_memory.specs.RunWorlds.Worlds.{live_bytes}
use Rattle.source_start.specs.Fits.{object_bytes}
use Rattle.source_start.proofs.objects.add_objects.Given as goal

abbrev pub invariant-loop-o : goal.invariant-loop-o
invariant-loop-o l = record {
  memory : memory_of l.store ++ map (object_block (program_data l.types)) (drop l.o-index l.o-items) ≡ initial_memory (program_data l.types);
  live : l.live ≡ live_bytes (memory_of l.store);
  few : fold (λ n o. n + object_size (program_data l.types) o) l.live (drop l.o-index l.o-items) ≡ object_bytes (program_data l.types);
}
