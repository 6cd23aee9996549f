use Rattle.std.proofs.Common.{[], drop, Ok, Err, sym, refl}
use Rattle.rv_machine.specs.View.{content_of}
use Rattle.rv_machine.specs.Harts.{places_of}
use Rattle.rv_machine.proofs.Pieces.{reads_known}
use Rattle.rv_machine.proofs.Accesses.{read_goes}
use Rattle.rv_machine.proofs.Reaching.{appends_nothing}
use Rattle.rv_machine.proofs.Unwritten.{read_unwritten}
use Rattle.rv_machine.proofs.hart.Hart.read_bytes.Goals as goal

pub returns-in-Ok-clause-gives : goal.returns-in-Ok-clause-gives
returns-in-Ok-clause-gives g c = (
  record { read_faults = c.in-Ok.ensures.kept refl; write_faults = refl },
  λ input known.
      let reads = reads_known (g.I.Source.faults c.args.input.now) (g.I.Source.faults c.read_in.new.input) _ _ input _ _ _ _ c.in-Ok.n known
      c.in-Ok.ensures.gives in (
        drop c.in-Ok.n input,
        [],
        reads.rest,
        appends_nothing (g.O.Sink.written c.args.out.now),
        λ output. rw c.put.ensures (read_goes (places_of c.args.self.now) c.args.self.now.registers c.args.self.now.pc (content_of c.args.self.now.memory)
            (content_of c.read_in.new.self) input c.in-Ok.n c.get-address.result c.get-count.result c.get-address.ensures c.get-count.ensures
            (sym c.if-not-may_use.ensures)
            (record { number = reads.number; rest = refl; stored = reads.stored }) output),
      ),
)

pub returns-in-Ok-clause-unwritten : goal.returns-in-Ok-clause-unwritten
returns-in-Ok-clause-unwritten g c = λ a fixed.
    read_unwritten (places_of c.args.self.now) a fixed (g.I.Source.faults c.args.input.now) (g.I.Source.faults c.read_in.new.input)
    (g.I.Source.left c.args.input.now) (g.I.Source.left c.read_in.new.input) (content_of c.args.self.now.memory) (content_of c.read_in.new.self) _ _ (Ok c.in-Ok.n)
    (sym c.if-not-may_use.ensures) c.in-Ok.ensures.gives

pub returns-in-Err-clause-unwritten : goal.returns-in-Err-clause-unwritten
returns-in-Err-clause-unwritten g c = λ a fixed.
    read_unwritten (places_of c.args.self.now) a fixed (g.I.Source.faults c.args.input.now) (g.I.Source.faults c.read_in.new.input)
    (g.I.Source.left c.args.input.now) (g.I.Source.left c.read_in.new.input) (content_of c.args.self.now.memory) (content_of c.read_in.new.self) _ _ (Err c.in-Err.field-0)
    (sym c.if-not-may_use.ensures) c.in-Err.ensures.gives
