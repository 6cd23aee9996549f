use Rattle.std.proofs.Common.{length}
use Rattle.profile_file.specs.Reading.{AreFunctions}
use Rattle.profile_file.proofs.reading.read_functions.Given as goal

abbrev pub invariant-loop-functions : goal.invariant-loop-functions
invariant-loop-functions l = AreFunctions l.fn.text l.functions l.line l.rest

abbrev pub decreases-loop-functions : goal.decreases-loop-functions
decreases-loop-functions l = length l.rest
