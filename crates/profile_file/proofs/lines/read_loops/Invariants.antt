use Rattle.std.proofs.Common.{◌≡◌, ◌≤◌, ◌++◌, length}
use Rattle.std.specs.Prelude.{map}
use Rattle.std.specs.List.{All}
use Rattle.profile_file.specs.Text.{greatest_count, loop_line, text_of}
use Rattle.profile_file.proofs.lines.read_loops.Given as goal

abbrev pub invariant-loop-count : goal.invariant-loop-count
invariant-loop-count l = record {
  is : l.fn.text ≡ text_of (map loop_line l.loops) ++ l.rest;
  small : All (λ n. n ≤ greatest_count) l.loops;
}

abbrev pub decreases-loop-count : goal.decreases-loop-count
decreases-loop-count l = length l.rest
