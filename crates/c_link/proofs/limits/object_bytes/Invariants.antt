use Rattle.std.proofs.Common.{◌≡◌, ◌≤◌, ◌+◌, ◌*◌, ◌^◌, drop, fold}
use Rattle.c_typed.specs.Programs.{program_data}
use Rattle.c_link.specs.Gaps.{object_bytes}
use Rattle.c_link.proofs.limits.object_bytes.Given as goal

abbrev pub invariant-loop-o : goal.invariant-loop-o
invariant-loop-o l = record {
  fits : l.bytes ≤ l.o-index * 2 ^ 24;
  value : fold (λ n o. n + object_bytes (program_data l.p) o) l.bytes (drop l.o-index l.objects) ≡ fold (λ n o. n + object_bytes (program_data l.p) o) 0 l.objects;
}
