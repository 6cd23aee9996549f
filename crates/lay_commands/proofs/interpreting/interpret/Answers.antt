use Rattle.std.proofs.Common.{inl, subst, sym}
use Rattle.c_typed.specs.Programs.{program_data}
use Rattle.c_typed.specs.declared.program.Typed.{Typed}
use Rattle.source_run.specs.Starting.{IsSteadyProgram}
use Rattle.lay_commands.proofs.interpreting.interpret.Goals as goal

pub new-requires-clause-starts : goal.new-requires-clause-starts
new-requires-clause-starts g c = c.programs_start_fit.ensures c.args.source.now.files c.requires.program

pub new-requires-clause-small : goal.new-requires-clause-small
new-requires-clause-small g c = c.types_are_small.ensures c.args.source.now.files c.requires.short c.requires.program

pub run-end-requires-clause-starts : goal.run-end-requires-clause-starts
run-end-requires-clause-starts g c =
    rw c.in_ok-runner.ensures.fresh.program (c.programs_start_fit.ensures c.args.source.now.files c.requires.program)

pub run-end-requires-clause-steady : goal.run-end-requires-clause-steady
run-end-requires-clause-steady g c =
    subst (λ (p : Typed). IsSteadyProgram (program_data p)) (sym c.in_ok-runner.ensures.fresh.program)
    (c.programs_are_steady.ensures c.args.source.now.files c.requires.program)

pub run-end-requires-clause-asked : goal.run-end-requires-clause-asked
run-end-requires-clause-asked g c =
    rw c.in_ok-runner.ensures.fresh.program
    (c.few_are_asked.ensures c.args.source.now.files (program_data c.args.source.now.program) c.requires.program)

pub returns-clause-gives : goal.returns-clause-gives
returns-clause-gives g c =
    inl (_, c.run-end.result, c.run-end.ensures.gives c.args.source.now.program c.in_ok-runner.ensures.fresh, c.answer_for.ensures.tells)
