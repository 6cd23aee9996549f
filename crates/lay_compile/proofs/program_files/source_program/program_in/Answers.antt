use Rattle.lay_compile.proofs.ProgramFiles.FilesRead.{few_read, short_read}
use Rattle.lay_compile.proofs.ProgramFiles.Sources.{are_files, places_in_any, source_gives}
use Rattle.lay_compile.proofs.program_files.source_program.program_in.Goals as goal

pub with_program-requires-clause-few : goal.with_program-requires-clause-few
with_program-requires-clause-few g c = few_read c.in_ok-files.files c.args.names.now c.in_ok-files.ensures.gives.0 c.in_ok-check_number.ensures

pub with_program-requires-clause-short : goal.with_program-requires-clause-short
with_program-requires-clause-short g c = short_read (g.H.Host.files c.args.host.now) c.in_ok-files.files c.in_ok-files.ensures.gives.1

pub returns-clause-gives : goal.returns-clause-gives
returns-clause-gives g c input out =
    let files = g.H.Host.files in
    let reads = g.H.Host.failed_reads in
    let writes = g.H.Host.failed_writes in
    source_gives (files c.args.host.now) (files c.read_files.new.host) (reads c.args.host.now) (reads c.read_files.new.host)
    (writes c.args.host.now) (writes c.read_files.new.host) input out _ c.in_ok-files.files c.read_files.ensures.files
    (are_files _ c.args.names.now c.in_ok-files.files c.in_ok-check_number.ensures c.in_ok-files.ensures.gives.0 c.in_ok-files.ensures.gives.1)
    c.with_program.result c.with_program.ensures.gives

pub returns-clause-texts : goal.returns-clause-texts
returns-clause-texts g c =
    places_in_any _ _ c.in_ok-files.files c.with_program.new.texts c.with_program.result
    (are_files _ c.args.names.now c.in_ok-files.files c.in_ok-check_number.ensures c.in_ok-files.ensures.gives.0 c.in_ok-files.ensures.gives.1)
    c.with_program.ensures.texts
