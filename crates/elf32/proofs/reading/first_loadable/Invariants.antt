use Rattle.std.proofs.Common.{◌==◌, ◌≤◌, filter}
use Rattle.elf32.specs.Header.{headers_from, headers_offset}
use Rattle.elf32.specs.Read.{HasFirst}
use Rattle.elf32.proofs.reading.first_loadable.Given as goal

abbrev pub invariant-loop-i : goal.invariant-loop-i
invariant-loop-i l = record {
  found : HasFirst l.found (filter (λ h. h.kind == 1) (headers_from l.bytes (headers_offset l.bytes) l.i));
  fits : l.found.count ≤ l.i;
}
