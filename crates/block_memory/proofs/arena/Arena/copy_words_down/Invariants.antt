use Rattle.std.proofs.Common.{◌≡◌, ◌*◌, length, take}
use Rattle.block_memory.specs.Cells.{flat, over, range}
use Rattle.block_memory.proofs.arena.Arena.copy_words_down.Given as goal

abbrev pub invariant-loop-i : goal.invariant-loop-i
invariant-loop-i l = record {
  is : flat l.self-inside.words ≡ over (flat l.initial.self-inside.words) (4 * l.to) (take (4 * l.i) (range (flat l.initial.self-inside.words) (4 * l.from) (4 * l.count)));
  long : length l.self-inside.words ≡ length l.initial.self-inside.words;
}
