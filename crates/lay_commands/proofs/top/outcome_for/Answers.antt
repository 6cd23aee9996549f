use Rattle.std.proofs.Common.{inl, refl}
use Rattle.lay_compile.specs.ProgramFiles.FrontEnd.{or_empty}
use Rattle.lay_compile.specs.ProgramFiles.Outside.{outside, stream}
use Rattle.lay_commands.proofs.Requested.{compile_done, compile_refused, compile_texts, profile_gives, profile_texts, profile_reads}
use Rattle.lay_commands.proofs.Requested.{interp_gives, interp_texts, interp_reads, run_gives, run_has, run_reads}
use Rattle.lay_commands.proofs.top.outcome_for.Goals as goal

pub returns-in-Ok-clause-input : goal.returns-in-Ok-clause-input
returns-in-Ok-clause-input g c = inl refl

pub returns-in-Ok-clause-gives : goal.returns-in-Ok-clause-gives
returns-in-Ok-clause-gives g c =
    compile_done c.args.request c.in-Compile.request c.in-Compile.is
    (outside (g.H.Host.files c.args.host.now) (g.H.Host.failed_reads c.args.host.now) (g.H.Host.failed_writes c.args.host.now)
    (stream (g.I.Source.left c.args.input.now) (g.I.Source.faults c.args.input.now)) (stream (g.O.Sink.written c.args.out.now) (g.O.Sink.faults c.args.out.now)))
    (outside (g.H.Host.files c.compile.new.host) (g.H.Host.failed_reads c.compile.new.host) (g.H.Host.failed_writes c.compile.new.host)
    (stream (g.I.Source.left c.args.input.now) (g.I.Source.faults c.args.input.now)) (stream (g.O.Sink.written c.compile.new.out) (g.O.Sink.faults c.compile.new.out)))
    (c.in-Ok.ensures.gives (stream (g.I.Source.left c.args.input.now) (g.I.Source.faults c.args.input.now)))

pub returns-in-Ok-clause-texts : goal.returns-in-Ok-clause-texts
returns-in-Ok-clause-texts g c = tt

pub returns-in-Err-clause-input : goal.returns-in-Err-clause-input
returns-in-Err-clause-input g c = inl refl

pub returns-in-Err-clause-gives : goal.returns-in-Err-clause-gives
returns-in-Err-clause-gives g c =
    compile_refused c.args.request c.in-Compile.request c.in-Compile.is
    (outside (g.H.Host.files c.args.host.now) (g.H.Host.failed_reads c.args.host.now) (g.H.Host.failed_writes c.args.host.now)
    (stream (g.I.Source.left c.args.input.now) (g.I.Source.faults c.args.input.now)) (stream (g.O.Sink.written c.args.out.now) (g.O.Sink.faults c.args.out.now)))
    (outside (g.H.Host.files c.compile.new.host) (g.H.Host.failed_reads c.compile.new.host) (g.H.Host.failed_writes c.compile.new.host)
    (stream (g.I.Source.left c.args.input.now) (g.I.Source.faults c.args.input.now)) (stream (g.O.Sink.written c.compile.new.out) (g.O.Sink.faults c.compile.new.out)))
    c.in-Err.refusal (c.in-Err.ensures.gives (stream (g.I.Source.left c.args.input.now) (g.I.Source.faults c.args.input.now)))

pub returns-in-Err-clause-texts : goal.returns-in-Err-clause-texts
returns-in-Err-clause-texts g c =
    compile_texts c.args.request c.in-Compile.request c.in-Compile.is (g.H.Host.files c.args.host.now) c.compile.new.texts c.in-Err.refusal c.in-Err.ensures.texts

pub returns-in-Profile-clause-input : goal.returns-in-Profile-clause-input
returns-in-Profile-clause-input g c = profile_reads c.args.request c.in-Profile.request c.in-Profile.is c.profile.result c.by_status.result c.by_status.ensures c.profile.ensures.input

pub returns-in-Profile-clause-gives : goal.returns-in-Profile-clause-gives
returns-in-Profile-clause-gives g c =
    profile_gives c.args.request c.in-Profile.request c.in-Profile.is c.profile.result c.by_status.result c.by_status.ensures
    (outside (g.H.Host.files c.args.host.now) (g.H.Host.failed_reads c.args.host.now) (g.H.Host.failed_writes c.args.host.now)
    (stream (g.I.Source.left c.args.input.now) (g.I.Source.faults c.args.input.now)) (stream (g.O.Sink.written c.args.out.now) (g.O.Sink.faults c.args.out.now)))
    (outside (g.H.Host.files c.profile.new.host) (g.H.Host.failed_reads c.profile.new.host) (g.H.Host.failed_writes c.profile.new.host)
    (stream (g.I.Source.left c.profile.new.input) (g.I.Source.faults c.profile.new.input)) (stream (g.O.Sink.written c.profile.new.out) (g.O.Sink.faults c.profile.new.out)))
    c.profile.ensures.gives

pub returns-in-Profile-clause-texts : goal.returns-in-Profile-clause-texts
returns-in-Profile-clause-texts g c =
    profile_texts c.args.request c.in-Profile.request c.in-Profile.is c.profile.result c.by_status.result c.by_status.ensures
    (g.H.Host.files c.args.host.now) c.profile.new.texts c.profile.ensures.texts

pub returns-in-Interp-clause-input : goal.returns-in-Interp-clause-input
returns-in-Interp-clause-input g c = interp_reads c.args.request c.in-Interp.request c.in-Interp.is c.interp.result c.by_status-in-Interp.result c.by_status-in-Interp.ensures c.interp.ensures.input

pub returns-in-Interp-clause-gives : goal.returns-in-Interp-clause-gives
returns-in-Interp-clause-gives g c =
    interp_gives c.args.request c.in-Interp.request c.in-Interp.is c.interp.result c.by_status-in-Interp.result c.by_status-in-Interp.ensures
    (outside (g.H.Host.files c.args.host.now) (g.H.Host.failed_reads c.args.host.now) (g.H.Host.failed_writes c.args.host.now)
    (stream (g.I.Source.left c.args.input.now) (g.I.Source.faults c.args.input.now)) (stream (g.O.Sink.written c.args.out.now) (g.O.Sink.faults c.args.out.now)))
    (outside (g.H.Host.files c.interp.new.host) (g.H.Host.failed_reads c.interp.new.host) (g.H.Host.failed_writes c.interp.new.host)
    (stream (g.I.Source.left c.interp.new.input) (g.I.Source.faults c.interp.new.input)) (stream (g.O.Sink.written c.interp.new.out) (g.O.Sink.faults c.interp.new.out)))
    c.interp.ensures.gives

pub returns-in-Interp-clause-texts : goal.returns-in-Interp-clause-texts
returns-in-Interp-clause-texts g c =
    interp_texts c.args.request c.in-Interp.request c.in-Interp.is c.interp.result c.by_status-in-Interp.result c.by_status-in-Interp.ensures
    (g.H.Host.files c.args.host.now) c.interp.new.texts c.interp.ensures.texts

pub returns-in-Run-clause-input : goal.returns-in-Run-clause-input
returns-in-Run-clause-input g c = run_reads c.args.request c.in-Run.request c.in-Run.is c.run.result c.by_status-in-Run.result c.by_status-in-Run.ensures c.run.ensures.input

pub returns-in-Run-clause-gives : goal.returns-in-Run-clause-gives
returns-in-Run-clause-gives g c =
    run_gives c.args.request c.in-Run.request c.in-Run.is c.run.result c.by_status-in-Run.result c.by_status-in-Run.ensures
    (outside (g.H.Host.files c.args.host.now) (g.H.Host.failed_reads c.args.host.now) (g.H.Host.failed_writes c.args.host.now)
    (stream (g.I.Source.left c.args.input.now) (g.I.Source.faults c.args.input.now)) (stream (g.O.Sink.written c.args.out.now) (g.O.Sink.faults c.args.out.now)))
    (outside (g.H.Host.files c.run.new.host) (g.H.Host.failed_reads c.run.new.host) (g.H.Host.failed_writes c.run.new.host)
    (stream (g.I.Source.left c.run.new.input) (g.I.Source.faults c.run.new.input)) (stream (g.O.Sink.written c.run.new.out) (g.O.Sink.faults c.run.new.out)))
    c.run.ensures.gives

pub returns-in-Run-clause-texts : goal.returns-in-Run-clause-texts
returns-in-Run-clause-texts g c =
    run_has c.args.request c.in-Run.request c.in-Run.is c.run.result c.by_status-in-Run.result c.by_status-in-Run.ensures
    (g.H.Host.files c.args.host.now) (or_empty c.args.texts.now.at) (or_empty c.args.texts.now.first)
    (outside (g.H.Host.files c.args.host.now) (g.H.Host.failed_reads c.args.host.now) (g.H.Host.failed_writes c.args.host.now)
    (stream (g.I.Source.left c.args.input.now) (g.I.Source.faults c.args.input.now)) (stream (g.O.Sink.written c.args.out.now) (g.O.Sink.faults c.args.out.now)))
    (outside (g.H.Host.files c.run.new.host) (g.H.Host.failed_reads c.run.new.host) (g.H.Host.failed_writes c.run.new.host)
    (stream (g.I.Source.left c.run.new.input) (g.I.Source.faults c.run.new.input)) (stream (g.O.Sink.written c.run.new.out) (g.O.Sink.faults c.run.new.out)))
    c.run.ensures.gives
