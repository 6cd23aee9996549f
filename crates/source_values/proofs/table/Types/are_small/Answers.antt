use Rattle.c_typed.specs.Programs.{program_data}
use Rattle.source_values.specs.Rows.{AreRows}
use Rattle.source_values.proofs.table.Types.are_small.Goals as goal

pub returns : goal.returns
returns c = (let known : AreRows (program_data c.args.self.now) c.self.inside.rows.items = rw (← c.self.view_is) c.self.invariant in known.small)
