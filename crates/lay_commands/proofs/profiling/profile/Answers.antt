use Rattle.std.proofs.Common.{ℕ, List, Err, subst}
use Rattle.std.proofs.lemmas.Result.{err_from_is_err_and}
use Rattle.c_typed.specs.Programs.{program_data}
use Rattle.lay_commands.specs.Words.{profiling_of}
use Rattle.lay_compile.specs.ProgramFiles.Outside.{stream}
use Rattle.lay_compile.proofs.ProgramFiles.FilesRead.{short_read}
use Rattle.lay_compile.proofs.ProgramFiles.Sources.{places_in}
use Rattle.lay_commands.specs.Stages.{WriteGives}
use Rattle.lay_commands.proofs.Interpreted.{files_refused_too, profile_refused, profile_written, profile_unwritten}
use Rattle.lay_commands.proofs.profiling.profile.Goals as goal

pub returns-in_err-source-clause-gives : goal.returns-in_err-source-clause-gives
returns-in_err-source-clause-gives g c =
    let is_err = err_from_is_err_and c.from_residual.result c.from_residual.ensures.1 in
    rw (is_err.1, is_err.2)
    (files_refused_too (profiling_of c.args.request) _ _ c.in_err-source.field-0.0
    (c.in_err-source.ensures.gives (stream (g.I.Source.left c.args.input.now) (g.I.Source.faults c.args.input.now))
    (stream (g.O.Sink.written c.args.out.now) (g.O.Sink.faults c.args.out.now))))

pub profile_of-requires-clause-program : goal.profile_of-requires-clause-program
profile_of-requires-clause-program g c =
    let nothing = stream (g.O.Sink.written c.args.out.now) 0 in
    (c.in_ok-source.ensures.gives nothing nothing).1

pub profile_of-requires-clause-short : goal.profile_of-requires-clause-short
profile_of-requires-clause-short g c =
    let nothing = stream (g.O.Sink.written c.args.out.now) 0 in
    short_read (g.H.Host.files c.args.host.now) c.in_ok-source.source.files (c.in_ok-source.ensures.gives nothing nothing).0.as_known

pub returns-in_err-profiled-clause-gives : goal.returns-in_err-profiled-clause-gives
returns-in_err-profiled-clause-gives g c =
    let is_err = err_from_is_err_and c.from_residual-in_err-profiled.result c.from_residual-in_err-profiled.ensures.1 in
    let files = g.H.Host.files in
    let reads = g.H.Host.failed_reads in
    let writes = g.H.Host.failed_writes in
    let input = stream (g.I.Source.left c.args.input.now) (g.I.Source.faults c.args.input.now) in
    let out = stream (g.O.Sink.written c.args.out.now) (g.O.Sink.faults c.args.out.now) in
    let source = c.in_ok-source.ensures.gives input out in
    rw (is_err.1, is_err.2)
    (profile_refused _ c.args.request.turns (files c.args.host.now) (files c.program_in.new.host) (reads c.args.host.now) (reads c.program_in.new.host)
    (writes c.args.host.now) (writes c.program_in.new.host) input (stream (g.I.Source.left c.profile_of.new.input) (g.I.Source.faults c.profile_of.new.input))
    out (stream (g.O.Sink.written c.profile_of.new.out) (g.O.Sink.faults c.profile_of.new.out))
    c.in_ok-source.source.files (program_data c.in_ok-source.source.program) source.0 source.1 source.2.files c.args.request.out.now
    c.in_err-profiled.field-0.0 c.in_err-profiled.ensures.gives)

pub returns-in_err-profiled-clause-texts : goal.returns-in_err-profiled-clause-texts
returns-in_err-profiled-clause-texts g c =
    let is_err = err_from_is_err_and c.from_residual-in_err-profiled.result c.from_residual-in_err-profiled.ensures.1 in
    let nothing = stream (g.O.Sink.written c.args.out.now) 0 in
    rw (is_err.1, is_err.2)
    (places_in (g.H.Host.files c.args.host.now) _ c.in_ok-source.source.files c.profile_of.new.texts c.in_err-profiled.field-0.0
    (c.in_ok-source.ensures.gives nothing nothing).0 c.in_err-profiled.ensures.texts)

pub returns-in_err-write_bytes-clause-gives : goal.returns-in_err-write_bytes-clause-gives
returns-in_err-write_bytes-clause-gives g c =
    let is_err = err_from_is_err_and c.from_residual-in_err-write_bytes.result c.from_residual-in_err-write_bytes.ensures.1 in
    let files = g.H.Host.files in
    let reads = g.H.Host.failed_reads in
    let writes = g.H.Host.failed_writes in
    let input = stream (g.I.Source.left c.args.input.now) (g.I.Source.faults c.args.input.now) in
    let out = stream (g.O.Sink.written c.args.out.now) (g.O.Sink.faults c.args.out.now) in
    let source = c.in_ok-source.ensures.gives input out in
    let profiled = c.in_ok-profiled.ensures.gives in
    let Gives = λ (text : List ℕ). WriteGives (writes c.program_in.new.host c.args.request.out.now) (writes c.write_bytes.new.host c.args.request.out.now)
    (files c.program_in.new.host) (files c.write_bytes.new.host) c.args.request.out.now text (Err c.in_err-write_bytes.field-0.0) in
    rw (is_err.1, is_err.2)
    (profile_unwritten _ c.args.request.turns (files c.args.host.now) (files c.program_in.new.host) (reads c.args.host.now) (reads c.program_in.new.host)
    (writes c.args.host.now) (writes c.program_in.new.host) input (stream (g.I.Source.left c.profile_of.new.input) (g.I.Source.faults c.profile_of.new.input))
    out (stream (g.O.Sink.written c.profile_of.new.out) (g.O.Sink.faults c.profile_of.new.out))
    c.in_ok-source.source.files (program_data c.in_ok-source.source.program) source.0 source.1 source.2.files c.args.request.out.now
    (files c.write_bytes.new.host) (reads c.write_bytes.new.host) (writes c.write_bytes.new.host) c.in_ok-profiled.profiled.status profiled.0
    c.in_ok-profiled.profiled.text.items profiled.1 profiled.2 c.write_bytes.ensures.others c.in_err-write_bytes.field-0.0
    (c.in_ok-source.ensures.writes c.args.request.out.now) (subst Gives c.deref.ensures.value c.in_err-write_bytes.ensures.gives))

pub returns-clause-gives : goal.returns-clause-gives
returns-clause-gives g c =
    let files = g.H.Host.files in
    let reads = g.H.Host.failed_reads in
    let writes = g.H.Host.failed_writes in
    let input = stream (g.I.Source.left c.args.input.now) (g.I.Source.faults c.args.input.now) in
    let out = stream (g.O.Sink.written c.args.out.now) (g.O.Sink.faults c.args.out.now) in
    let source = c.in_ok-source.ensures.gives input out in
    let profiled = c.in_ok-profiled.ensures.gives in
    profile_written _ c.args.request.turns (files c.args.host.now) (files c.program_in.new.host) (reads c.args.host.now) (reads c.program_in.new.host)
    (writes c.args.host.now) (writes c.program_in.new.host) input (stream (g.I.Source.left c.profile_of.new.input) (g.I.Source.faults c.profile_of.new.input))
    out (stream (g.O.Sink.written c.profile_of.new.out) (g.O.Sink.faults c.profile_of.new.out))
    c.in_ok-source.source.files (program_data c.in_ok-source.source.program) source.0 source.1 source.2.files c.args.request.out.now
    (files c.write_bytes.new.host) (reads c.write_bytes.new.host) (writes c.write_bytes.new.host) c.in_ok-profiled.profiled.status profiled.0
    c.in_ok-profiled.profiled.text.items profiled.1 profiled.2 c.write_bytes.ensures.others
    (rw c.deref.ensures.value at c.in_ok-write_bytes.ensures.gives)
