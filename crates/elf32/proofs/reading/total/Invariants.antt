use Rattle.std.proofs.Common.{◌≡◌, ◌*◌, ◌^◌, ◌≤◌, sum_by, take}
use Rattle.elf32.proofs.reading.total.Given as goal

abbrev pub invariant-loop-header : goal.invariant-loop-header
invariant-loop-header l = record {
  sum : l.total ≡ sum_by (λ h. h.memory_size) (take l.header-index l.headers);
  fits : l.total ≤ 2 ^ 32 * l.header-index;
}
