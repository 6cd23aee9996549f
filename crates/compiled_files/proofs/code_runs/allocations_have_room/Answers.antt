use Rattle.compiled_files.proofs.CodeRuns.Weights.{allocation_has_room}
use Rattle.compiled_files.proofs.code_runs.allocations_have_room.Goals as goal

pub returns : goal.returns
returns c = allocation_has_room
