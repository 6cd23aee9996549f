use Rattle.std.proofs.Common.{◌≡◌, drop}
use Rattle.rv_machine.specs.Rows.{row_at}
use Rattle.rv_machine.proofs.rows.row_with.Given as goal

abbrev pub invariant-loop-row : goal.invariant-loop-row
invariant-loop-row l = row_at l.rows l.address ≡ row_at (drop l.row-index l.rows) l.address
