use Rattle.std.proofs.Common.{◌≡◌, take}
use Rattle.lay_compile.specs.Reaching.{HaveReached}
use Rattle.lay_compile.proofs.stages.reached_by.Given as goal

abbrev pub invariant-loop-file : goal.invariant-loop-file
invariant-loop-file l = record { number : l.number ≡ l.file-index; reached : HaveReached (take l.file-index l.files) l.reached }
