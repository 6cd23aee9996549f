use Rattle.rv_machine.specs.Runs.{observed}
use Rattle.lay_compile.specs.ProgramFiles.Outside.{stream}
use Rattle.lay_commands.proofs.Ran.{run_gives}
use Rattle.lay_commands.proofs.running.run.Goals as goal

pub returns-clause-gives : goal.returns-clause-gives
returns-clause-gives g c =
    rw c.answer_for.ensures (run_gives c.args.request.steps c.args.request.elf.now
    (g.H.Host.files c.args.host.now) (g.H.Host.files c.bytes_of.new.host)
    (g.H.Host.failed_reads c.args.host.now) (g.H.Host.failed_reads c.bytes_of.new.host)
    (g.H.Host.failed_writes c.args.host.now) (g.H.Host.failed_writes c.bytes_of.new.host)
    (stream (g.I.Source.left c.args.input.now) (g.I.Source.faults c.args.input.now))
    (stream (g.I.Source.left c.run.new.input) (g.I.Source.faults c.run.new.input))
    (stream (g.O.Sink.written c.args.out.now) (g.O.Sink.faults c.args.out.now))
    (stream (g.O.Sink.written c.run.new.out) (g.O.Sink.faults c.run.new.out))
    c.in_ok-image.image (observed c.run.new.self) c.in_ok-bytes.bytes.items
    c.bytes_of.ensures.files c.in_ok-bytes.ensures.gives.0 c.in_ok-bytes.ensures.gives.1 c.in_ok-image.ensures.gives
    c.run.result (c.run.ensures.gives c.in_ok-image.image c.in_ok-machine.ensures))
