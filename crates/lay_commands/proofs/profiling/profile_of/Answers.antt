use Rattle.std.proofs.Common.{inl, inr, refl, ap, ◌∙◌, subst, sym}
use Rattle.std.proofs.lemmas.Result.{err_from_is_err_and}
use Rattle.c_typed.specs.Programs.{program_data}
use Rattle.c_typed.specs.declared.program.Typed.{Typed}
use Rattle.source_run.specs.Starting.{IsSteadyProgram}
use Rattle.profile_file.specs.Text.{profile_text}
use Rattle.lay_commands.proofs.Interpreted.{tells_status, ended_so}
use Rattle.lay_commands.proofs.profiling.profile_of.Goals as goal

pub new-requires-clause-starts : goal.new-requires-clause-starts
new-requires-clause-starts g c = c.programs_start_fit.ensures c.args.source.now.files c.requires.program

pub new-requires-clause-small : goal.new-requires-clause-small
new-requires-clause-small g c = c.types_are_small.ensures c.args.source.now.files c.requires.short c.requires.program

pub run-end-requires-clause-starts : goal.run-end-requires-clause-starts
run-end-requires-clause-starts g c =
    rw c.in_ok-runner.ensures.fresh.program (c.programs_start_fit.ensures c.args.source.now.files c.requires.program)

pub run-end-requires-clause-steady : goal.run-end-requires-clause-steady
run-end-requires-clause-steady g c =
    subst (λ (p : Typed). IsSteadyProgram (program_data p)) (sym c.in_ok-runner.ensures.fresh.program)
    (c.programs_are_steady.ensures c.args.source.now.files c.requires.program)

pub run-end-requires-clause-asked : goal.run-end-requires-clause-asked
run-end-requires-clause-asked g c =
    rw c.in_ok-runner.ensures.fresh.program
    (c.few_are_asked.ensures c.args.source.now.files (program_data c.args.source.now.program) c.requires.program)

pub returns-in_err-status-clause-gives : goal.returns-in_err-status-clause-gives
returns-in_err-status-clause-gives g c =
    let is_err = err_from_is_err_and c.from_residual-in_err-status.result c.from_residual-in_err-status.ensures.1 in
    rw (is_err.1, is_err.2)
    (inl (_, c.run-end.result, c.run-end.ensures.gives c.args.source.now.program c.in_ok-runner.ensures.fresh, inl c.in_err-status.ensures.tells))

pub returns-in-Ok-clause-gives : goal.returns-in-Ok-clause-gives
returns-in-Ok-clause-gives g c =
    let end = tells_status c.run-end.result c.in_ok-status.status c.in_ok-status.ensures.tells in
    (_, rw end at (c.run-end.ensures.gives c.args.source.now.program c.in_ok-runner.ensures.fresh), c.in-Ok.ensures ∙ ap profile_text c.counts.ensures)

pub returns-clause-gives : goal.returns-clause-gives
returns-clause-gives g c =
    inl (
      _,
      c.run-end.result,
      c.run-end.ensures.gives c.args.source.now.program c.in_ok-runner.ensures.fresh,
      inr (refl, ended_so c.run-end.result c.in_ok-status.status c.in_ok-status.ensures.tells),
    )
