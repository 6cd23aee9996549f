use Rattle.lay_compile.proofs.ProgramFiles.FilesRead.{AreRead}
use Rattle.lay_compile.proofs.program_files.reading.read_files.Given as goal

-- the files so far are read
abbrev pub invariant-loop-name : goal.invariant-loop-name
invariant-loop-name g l =
    AreRead (g.H.Host.failed_reads l.initial.host) (g.H.Host.failed_reads l.host) (g.H.Host.failed_writes l.initial.host) (g.H.Host.failed_writes l.host)
    (g.H.Host.files l.initial.host) (g.H.Host.files l.host) l.names l.name-index l.files
