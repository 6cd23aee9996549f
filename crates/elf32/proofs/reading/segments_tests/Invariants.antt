use Rattle.std.proofs.Common.{◌≡◌, ◌+◌, ◌≤◌, [], take, drop}
use Rattle.std.specs.List.{All}
use Rattle.elf32.specs.Loaded.{segments_tests, first_refusal}
use Rattle.elf32.proofs.reading.segments_tests.Given as goal

-- the tests that are left say what all of them say
abbrev pub invariant-loop-i : goal.invariant-loop-i
invariant-loop-i l = record {
  left : first_refusal (segments_tests l.file_length [] l.headers) ≡ first_refusal (segments_tests l.file_length (take l.i l.headers) (drop l.i l.headers));
  ranges : All (λ h. h.offset + h.file_size ≤ l.file_length) (take l.i l.headers);
}
