use Rattle.std.proofs.Common.{◌≡◌, ◌++◌}
use Rattle.c_declaring.proofs.members.add_members.Given as goal

abbrev pub invariant-loop-field : goal.invariant-loop-field
invariant-loop-field l = l.all ≡ l.initial.all ++ l.yielded
