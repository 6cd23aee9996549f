use Rattle.std.proofs.Common.{◌≡◌, ◌≤◌, ◌+◌, length, take}
use Rattle.block_memory.specs.Moves.{IsGathered}
use Rattle.block_memory.specs.RunWorlds.Worlds.{live_bytes}
use Rattle.block_memory.specs.View.{memory_of}
use Rattle.block_memory.proofs.store.Store.gather.Given as goal

abbrev pub invariant-loop-block : goal.invariant-loop-block
invariant-loop-block l = record {
  memory : memory_of l.self ≡ memory_of l.initial.self;
  gathered : IsGathered l.self.slots l.block l.to;
  many : length l.self.slots ≡ length l.initial.self.slots;
  within : l.to ≤ l.self.free;
  free : l.self.free ≡ l.initial.self.free;
  near : l.to ≤ l.initial.self.settled_words + live_bytes (take l.block (memory_of l.initial.self));
  settled : l.self.settled ≤ l.block;
  words : l.self.settled_words ≤ l.to;
}
