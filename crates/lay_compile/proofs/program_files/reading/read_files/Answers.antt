use Rattle.std.proofs.Common.{◌<◌, length, arith}
use Rattle.std.proofs.lemmas.Result.{err_from_is_err_and}
use Rattle.lay_compile.proofs.ProgramFiles.FilesRead.{one_more_read, stops}
use Rattle.lay_compile.proofs.program_files.reading.read_files.Goals as goal

pub returns-in_err-bytes_of-clause-gives : goal.returns-in_err-bytes_of-clause-gives
returns-in_err-bytes_of-clause-gives g c =
    let within : c.loop-name.name-index < length c.args.names.now = omega arith in
    let is_err = err_from_is_err_and c.from_residual.result c.from_residual.ensures.1 in
    let reads = g.H.Host.failed_reads in
    let writes = g.H.Host.failed_writes in
    let files = g.H.Host.files in
    rw (is_err.1, is_err.2)
    (stops (reads c.args.host.now) (reads c.loop-name.host) (reads c.bytes_of.new.host)
    (writes c.args.host.now) (writes c.loop-name.host) (writes c.bytes_of.new.host)
    (files c.args.host.now) (files c.loop-name.host) (files c.bytes_of.new.host)
    c.args.names.now c.loop-name.name-index c.loop-name.files c.loop-name.invariant within c.requires
    c.in_err-bytes_of.field-0.0 c.in_err-bytes_of.ensures.gives)

pub loop-name-preserved : goal.loop-name-preserved
loop-name-preserved g c =
    let within : c.loop-name.name-index < length c.args.names.now = omega arith in
    let reads = g.H.Host.failed_reads in
    let writes = g.H.Host.failed_writes in
    let files = g.H.Host.files in
    let more = one_more_read (reads c.args.host.now) (reads c.loop-name.host) (reads c.bytes_of.new.host)
    (writes c.args.host.now) (writes c.loop-name.host) (writes c.bytes_of.new.host)
    (files c.args.host.now) (files c.loop-name.host) (files c.bytes_of.new.host)
    c.args.names.now c.loop-name.name-index c.loop-name.files c.loop-name.invariant within c.in_ok-bytes_of.field-0
    c.bytes_of.ensures.files c.in_ok-bytes_of.ensures.reads c.in_ok-bytes_of.ensures.writes c.in_ok-bytes_of.ensures.gives in
    rw c.in_ok-add.ensures.added (rw (c.in_ok-name.ensures, c.of-bytes.ensures) more)
