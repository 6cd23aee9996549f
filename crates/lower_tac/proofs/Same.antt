-- The whole run.
use Rattle.std.proofs.Common.{◌+◌, [], Option, arith}
use Rattle.block_memory.specs.RunWorlds.Worlds.{World}
use Rattle.block_memory.specs.declared.run_worlds.value.Value.{Value}
use Rattle.c_meaning.specs.Run as Source
use Rattle.tac_ir.specs.Covering.{Covers}
use Rattle.tac_ir.specs.Running.{go, returns}
use Rattle.lower_tac.specs.Same.{RunsAreSame}
use Rattle.lower_tac.specs.Statements.{lowered}
use Rattle.lower_tac.proofs.Blind.{stays}
use Rattle.lower_tac.proofs.FunctionsCover.{callees}

pub same : RunsAreSame
same p input turns limited =
    (callees p (turns + 1)).covered (Source.no_place p) p.main [] (λ v f w. Source.end_by (Source.main_place p) v w) turns [] [] (Source.start p input turns limited) [] (omega arith) (omega arith)
    (λ v u h. by_value v u)
  where
    by_value : (v : Option Value) (u : World) → Covers (Source.end_by (Source.main_place p) v u) (λ k. returns p.types (lowered p) (go p.types (lowered p) k) [] v u)
    by_value v u = stays
