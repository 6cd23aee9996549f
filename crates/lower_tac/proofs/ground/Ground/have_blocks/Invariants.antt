use Rattle.std.proofs.Common.{◌≡◌, drop}
use Rattle.lower_tac.specs.Grounds.{locals_in, program_in}
use Rattle.lower_tac.specs.Statements.{have_blocks}
use Rattle.lower_tac.proofs.ground.Ground.have_blocks.Given as goal

abbrev pub invariant-loop-x : goal.invariant-loop-x
invariant-loop-x l = have_blocks (program_in l.self) l.self.number (locals_in l.self) l.own
    ≡ have_blocks (program_in l.self) l.self.number (locals_in l.self) (drop l.x-index l.own)
