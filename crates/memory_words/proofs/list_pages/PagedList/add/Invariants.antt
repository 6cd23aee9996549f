use Rattle.std.proofs.Common.{◌≡◌, ◌≤◌, ◌+◌, ◌++◌, length, replicate}
use Rattle.memory_words.proofs.list_pages.PagedList.add.Given as goal

abbrev pub invariant-loop : goal.invariant-loop
invariant-loop g l = record {
  items : l.self.items ≡ l.fn.self.items ++ replicate l.counter l.value;
  room : l.fn.self.room ≤ l.self.room;
  enough : length l.fn.self.items + l.count ≤ l.self.room;
}
