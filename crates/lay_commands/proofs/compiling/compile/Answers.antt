use Rattle.std.proofs.Common.{List, ℕ, Err, ap, ◌∙◌, subst}
use Rattle.std.specs.Borrow.{Bor}
use Rattle.std.specs.Prelude.{option_map}
use Rattle.std.proofs.lemmas.List.{length-map}
use Rattle.std.proofs.lemmas.Option.{slice_get-map, slice_get-get_or}
use Rattle.std.proofs.lemmas.Result.{err_from_is_err_and}
use Rattle.c_typed.specs.Programs.{program_data}
use Rattle.lay_commands.specs.Words.{compilation_of}
use Rattle.lay_compile.specs.ProgramFiles.Outside.{stream}
use Rattle.lay_compile.proofs.ProgramFiles.FilesRead.{no_name, short_read}
use Rattle.lay_commands.specs.Stages.{WriteGives}
use Rattle.lay_commands.proofs.Compiled.{inputs_refused, outputs_refused, write_refused, report_gives}
use Rattle.lay_commands.proofs.compiling.compile.Goals as goal

abbrev name_of : Bor (List ℕ) → List ℕ
name_of name = name.now

pub returns-in_err-inputs-clause-gives : goal.returns-in_err-inputs-clause-gives
returns-in_err-inputs-clause-gives g c input =
    let is_err = err_from_is_err_and c.from_residual.result c.from_residual.ensures.1 in
    rw (is_err.1, is_err.2)
    (inputs_refused (compilation_of c.args.request) _ _ c.in_err-inputs.field-0.0
    (c.in_err-inputs.ensures.gives input (stream (g.O.Sink.written c.args.out.now) (g.O.Sink.faults c.args.out.now))))

pub outputs_of-requires-clause-program : goal.outputs_of-requires-clause-program
outputs_of-requires-clause-program g c =
    let nothing = stream (g.O.Sink.written c.args.out.now) 0 in
    (c.in_ok-inputs.ensures.gives nothing nothing).1

pub outputs_of-requires-clause-short : goal.outputs_of-requires-clause-short
outputs_of-requires-clause-short g c =
    let nothing = stream (g.O.Sink.written c.args.out.now) 0 in
    short_read (g.H.Host.files c.args.host.now) c.in_ok-inputs.inputs.source.files (c.in_ok-inputs.ensures.gives nothing nothing).0.as_known

pub returns-in_err-outputs-clause-gives : goal.returns-in_err-outputs-clause-gives
returns-in_err-outputs-clause-gives g c input =
    let is_err = err_from_is_err_and c.from_residual-in_err-outputs.result c.from_residual-in_err-outputs.ensures.1 in
    let files = g.H.Host.files in
    let reads = g.H.Host.failed_reads in
    let writes = g.H.Host.failed_writes in
    let out = stream (g.O.Sink.written c.args.out.now) (g.O.Sink.faults c.args.out.now) in
    let given = c.in_ok-inputs.ensures.gives input out in
    let names = c.args.request.files.now in
    rw (is_err.1, is_err.2)
    (outputs_refused (compilation_of c.args.request) (files c.args.host.now) (files c.inputs_in.new.host) (reads c.args.host.now) (reads c.inputs_in.new.host)
    (writes c.args.host.now) (writes c.inputs_in.new.host) input c.in_ok-inputs.inputs.source.files (program_data c.in_ok-inputs.inputs.source.program)
    c.in_ok-inputs.inputs.counts given.0 given.1 given.2 given.3.files out _
    (slice_get-map name_of names 0 ∙ ap (option_map name_of) (slice_get-get_or names 0 no_name (rw length-map at c.requires.some)))
    c.in_err-outputs.field-0.0 c.in_err-outputs.ensures)

pub returns-in_err-write_bytes-clause-gives : goal.returns-in_err-write_bytes-clause-gives
returns-in_err-write_bytes-clause-gives g c input =
    let is_err = err_from_is_err_and c.from_residual-in_err-write_bytes.result c.from_residual-in_err-write_bytes.ensures.1 in
    let files = g.H.Host.files in
    let reads = g.H.Host.failed_reads in
    let writes = g.H.Host.failed_writes in
    let name = c.args.request.out.now in
    let out = stream (g.O.Sink.written c.args.out.now) (g.O.Sink.faults c.args.out.now) in
    let given = c.in_ok-inputs.ensures.gives input out in
    let made = c.in_ok-outputs.ensures in
    let Gives = λ (elf : List ℕ). WriteGives (writes c.inputs_in.new.host name) (writes c.write_bytes.new.host name)
    (files c.inputs_in.new.host) (files c.write_bytes.new.host) name elf (Err c.in_err-write_bytes.field-0.0) in
    rw (is_err.1, is_err.2)
    (write_refused (compilation_of c.args.request) (files c.args.host.now) (files c.inputs_in.new.host) (reads c.args.host.now) (reads c.inputs_in.new.host)
    (writes c.args.host.now) (writes c.inputs_in.new.host) input c.in_ok-inputs.inputs.source.files (program_data c.in_ok-inputs.inputs.source.program)
    c.in_ok-inputs.inputs.counts given.0 given.1 given.2 given.3.files (files c.write_bytes.new.host) (reads c.write_bytes.new.host)
    (writes c.write_bytes.new.host) c.in_ok-outputs.outputs.elf.items c.in_ok-outputs.outputs.report.items made.0 made.1 made.2 c.write_bytes.ensures.others out
    c.in_err-write_bytes.field-0.0 (c.in_ok-inputs.ensures.writes name) (subst Gives c.deref.ensures.value c.in_err-write_bytes.ensures.gives))

pub returns-clause-gives : goal.returns-clause-gives
returns-clause-gives g c input =
    let files = g.H.Host.files in
    let reads = g.H.Host.failed_reads in
    let writes = g.H.Host.failed_writes in
    let out = stream (g.O.Sink.written c.args.out.now) (g.O.Sink.faults c.args.out.now) in
    let given = c.in_ok-inputs.ensures.gives input out in
    let made = c.in_ok-outputs.ensures in
    report_gives (compilation_of c.args.request) (files c.args.host.now) (files c.inputs_in.new.host) (reads c.args.host.now) (reads c.inputs_in.new.host)
    (writes c.args.host.now) (writes c.inputs_in.new.host) input c.in_ok-inputs.inputs.source.files (program_data c.in_ok-inputs.inputs.source.program)
    c.in_ok-inputs.inputs.counts given.0 given.1 given.2 given.3.files (files c.write_bytes.new.host) (reads c.write_bytes.new.host)
    (writes c.write_bytes.new.host) c.in_ok-outputs.outputs.elf.items c.in_ok-outputs.outputs.report.items made.0 made.1 made.2 c.write_bytes.ensures.others out
    (stream (g.O.Sink.written c.write_report.new.out) (g.O.Sink.faults c.write_report.new.out)) c.write_report.result
    (λ name. c.in_ok-write_bytes.ensures.writes name ∙ c.in_ok-inputs.ensures.writes name)
    (rw c.deref.ensures.value at c.in_ok-write_bytes.ensures.gives) (rw c.deref-2.ensures.value at c.write_report.ensures)
