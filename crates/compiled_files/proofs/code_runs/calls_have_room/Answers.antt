use Rattle.compiled_files.proofs.CodeRuns.Weights.{call_has_room}
use Rattle.compiled_files.proofs.code_runs.calls_have_room.Goals as goal

pub returns : goal.returns
returns c = call_has_room
