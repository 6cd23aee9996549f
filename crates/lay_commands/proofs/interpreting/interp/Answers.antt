use Rattle.std.proofs.Common.{inl}
use Rattle.std.proofs.lemmas.Result.{err_from_is_err_and}
use Rattle.c_typed.specs.Programs.{program_data}
use Rattle.lay_compile.specs.ProgramFiles.Outside.{stream}
use Rattle.lay_compile.proofs.ProgramFiles.FilesRead.{short_read}
use Rattle.lay_compile.proofs.ProgramFiles.Sources.{places_in_any}
use Rattle.lay_commands.proofs.Interpreted.{interp_gives}
use Rattle.lay_commands.proofs.interpreting.interp.Goals as goal

pub returns-in_err-source-clause-gives : goal.returns-in_err-source-clause-gives
returns-in_err-source-clause-gives g c =
    let is_err = err_from_is_err_and c.from_residual.result c.from_residual.ensures.1 in
    rw (is_err.1, is_err.2)
    (inl (c.in_err-source.ensures.gives (stream (g.I.Source.left c.args.input.now) (g.I.Source.faults c.args.input.now))
    (stream (g.O.Sink.written c.args.out.now) (g.O.Sink.faults c.args.out.now))))

pub interpret-requires-clause-program : goal.interpret-requires-clause-program
interpret-requires-clause-program g c =
    let nothing = stream (g.O.Sink.written c.args.out.now) 0 in
    (c.in_ok-source.ensures.gives nothing nothing).1

pub interpret-requires-clause-short : goal.interpret-requires-clause-short
interpret-requires-clause-short g c =
    let nothing = stream (g.O.Sink.written c.args.out.now) 0 in
    short_read (g.H.Host.files c.args.host.now) c.in_ok-source.source.files (c.in_ok-source.ensures.gives nothing nothing).0.as_known

pub returns-clause-gives : goal.returns-clause-gives
returns-clause-gives g c =
    let files = g.H.Host.files in
    let reads = g.H.Host.failed_reads in
    let writes = g.H.Host.failed_writes in
    let input = stream (g.I.Source.left c.args.input.now) (g.I.Source.faults c.args.input.now) in
    let out = stream (g.O.Sink.written c.args.out.now) (g.O.Sink.faults c.args.out.now) in
    let source = c.in_ok-source.ensures.gives input out in
    interp_gives _ c.args.request.turns (files c.args.host.now) (files c.program_in.new.host) (reads c.args.host.now) (reads c.program_in.new.host)
    (writes c.args.host.now) (writes c.program_in.new.host) input (stream (g.I.Source.left c.interpret.new.input) (g.I.Source.faults c.interpret.new.input))
    out (stream (g.O.Sink.written c.interpret.new.out) (g.O.Sink.faults c.interpret.new.out))
    c.in_ok-source.source.files (program_data c.in_ok-source.source.program) source.0 source.1 source.2.files c.interpret.result c.interpret.ensures.gives

pub returns-clause-texts : goal.returns-clause-texts
returns-clause-texts g c =
    let nothing = stream (g.O.Sink.written c.args.out.now) 0 in
    places_in_any _ _ c.in_ok-source.source.files c.interpret.new.texts c.interpret.result (c.in_ok-source.ensures.gives nothing nothing).0 c.interpret.ensures.texts
