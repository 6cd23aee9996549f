use Rattle.std.proofs.Common.{map, refl}
use Rattle.std.specs.String.{string_bytes}
use Rattle.lay_commands.specs.Words.{command_of}
use Rattle.lay_compile.specs.ProgramFiles.FrontEnd.{or_empty}
use Rattle.lay_compile.specs.ProgramFiles.Outside.{outside, stream}
use Rattle.lay_commands.proofs.Placed.{places_stand}
use Rattle.lay_commands.proofs.Refused.{reported, unreported}
use Rattle.lay_commands.proofs.top.layc.Goals.{in-Refused, in_default}
use Rattle.lay_commands.proofs.top.layc.Goals as goal

pub returns-clause-err : goal.returns-clause-err
returns-clause-err g c =
    elim c.match-outcome.branch [
      | in-Refused w ↦
          let has = rw w.in-Refused.is at c.outcome_of-outcome.ensures.texts in
          let gives = rw w.in-Refused.is at c.outcome_of-outcome.ensures.gives in
          let stand = places_stand c.named_texts_are_of_places.ensures c.undefined_steps_stand_in_files.ensures
          (command_of (map string_bytes c.args.words.now))
          (outside (g.H.Host.files c.args.host.now) (g.H.Host.failed_reads c.args.host.now) (g.H.Host.failed_writes c.args.host.now)
          (stream (g.I.Source.left c.args.input.now) (g.I.Source.faults c.args.input.now))
          (stream (g.O.Sink.written c.args.out.now) (g.O.Sink.faults c.args.out.now)))
          (outside (g.H.Host.files c.outcome_of-outcome.new.host) (g.H.Host.failed_reads c.outcome_of-outcome.new.host)
          (g.H.Host.failed_writes c.outcome_of-outcome.new.host)
          (stream (g.I.Source.left c.outcome_of-outcome.new.input) (g.I.Source.faults c.outcome_of-outcome.new.input))
          (stream (g.O.Sink.written c.outcome_of-outcome.new.out) (g.O.Sink.faults c.outcome_of-outcome.new.out)))
          w.in-Refused.refusal (or_empty c.outcome_of-outcome.new.texts.at) (or_empty c.outcome_of-outcome.new.texts.first) gives has in
          let puts = rw (w.text_of.ensures, w.text_of-in-Refused.ensures) at w.put_refusal.ensures.gives in
          rw (w.err-is, w.in-Refused.is)
          (reported (command_of (map string_bytes c.args.words.now)) (g.H.Host.files c.args.host.now) (g.I.Source.left c.args.input.now)
          (or_empty c.outcome_of-outcome.new.texts.at) (or_empty c.outcome_of-outcome.new.texts.first) _ _ _ _ _ w.put_refusal.result has stand puts)
      | in_default w ↦
          rw w.err-is (unreported (command_of (map string_bytes c.args.words.now)) (g.H.Host.files c.args.host.now) (g.I.Source.left c.args.input.now) _ _
          c.outcome_of-outcome.result w.in_default.not-Refused refl)
    ]
