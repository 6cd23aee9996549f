use Rattle.std.proofs.Common.{◌+◌, ◌≤◌, arith}
use Rattle.std.proofs.lemmas.Grind.{common_steps}
use Rattle.std.proofs.lemmas.List.Elements.{All-more}
use Rattle.elf32.proofs.reading.segments_tests.Goals as goal

pub loop-i-preserved : goal.loop-i-preserved
loop-i-preserved c = record {
  left = grind (arith, common_steps);
  ranges = λ k d lt. All-more (λ h. h.offset + h.file_size ≤ c.args.file_length) c.args.headers.now c.loop-i.i _ (omega arith)
      c.loop-i.invariant.ranges c.in_ok-segment_tests.ensures.range k d lt;
}
