use Rattle.c_typed.specs.Programs.{program_data}
use Rattle.lay_commands.proofs.Told.{reports}
use Rattle.lay_commands.proofs.compiling.report_of.Goals as goal

pub returns-in_ok-places-in-Some : goal.returns-in_ok-places-in-Some
returns-in_ok-places-in-Some c =
    rw c.in-Some.is
    (reports c.in-Some.planned.now c.args.files.now (program_data c.args.p.now) c.in_ok-places-in-Some.places c.report-in-Some.result
    (rw c.as_slice.ensures at c.in_ok-places-in-Some.ensures) (rw c.as_slice-in-Some.ensures at c.report-in-Some.ensures))
