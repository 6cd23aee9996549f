use Rattle.std.proofs.Common.{◌∙◌, arith}
use Rattle.c_typed.specs.Programs.{program_data}
use Rattle.source_values.specs.Rows.{AreRows}
use Rattle.source_values.proofs.ByNumber.{found_is, missing_is}
use Rattle.source_values.proofs.table.Types.row.Goals as goal

pub returns-in-Some-clause-row : goal.returns-in-Some-clause-row
returns-in-Some-clause-row c =
    let known : AreRows (program_data c.args.self.now) c.self.inside.rows.items = rw (← c.self.view_is) c.self.invariant in
    found_is (program_data c.args.self.now) c.self.inside.rows.items c.args.number known c.in-Some.row (rw (← c.deref.ensures.value) c.in-Some.ensures)

pub returns-in-None-clause-row : goal.returns-in-None-clause-row
returns-in-None-clause-row c =
    let known : AreRows (program_data c.args.self.now) c.self.inside.rows.items = rw (← c.self.view_is) c.self.invariant in
    c.row_of_void.ensures (program_data c.args.self.now)
    ∙ missing_is (program_data c.args.self.now) c.self.inside.rows.items c.args.number known (rw (← c.deref.ensures.value) c.in-None.ensures)

pub returns-in-None-clause-small : goal.returns-in-None-clause-small
returns-in-None-clause-small c =
    rw (c.row_of_void.ensures (program_data c.args.self.now)) (record { size = omega arith; element = omega arith; length = omega arith })
