-- Steady code: no function of it takes many steps without a turn, and blocks of locals have room for what is put there.
use Rattle.std.specs.Prelude.{List, [], ◌∷◌}
use Rattle.tac_ir.specs.Code.{RoutineData}
use Rattle.tac_ir.specs.Sizes.{HasBlocks}
use Rattle.tac_ir.specs.Turns.{JumpsLeadOn}

pub record IsSteady (g : RoutineData) : Type 0 where
  pub leads : JumpsLeadOn g
  pub blocks : HasBlocks g

abbrev pub AllSteady : List RoutineData → Type 0
AllSteady [] = Unit {0}
AllSteady (g ∷ more) = IsSteady g × AllSteady more
