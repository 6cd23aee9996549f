use Rattle.std.proofs.Common.{◌≡◌, ◌++◌, drop}
use Rattle.std.specs.Prelude.{map}
use Rattle.profile_file.specs.Text.{loop_line, text_of}
use Rattle.profile_file.proofs.writing.put_loops.Given as goal

abbrev pub invariant-loop-n : goal.invariant-loop-n
invariant-loop-n l = l.out.items ++ text_of (map loop_line (drop l.n-index l.loops)) ≡ l.fn.out.items ++ text_of (map loop_line l.fn.loops)
