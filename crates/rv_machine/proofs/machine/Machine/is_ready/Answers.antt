use Rattle.rv_machine.proofs.Standing.{ready_where_lasts}
use Rattle.rv_machine.proofs.machine.Machine.is_ready.Goals as goal

pub returns : goal.returns
returns c = λ e. ready_where_lasts c.args.self.now.hart.memory c.args.self.now.decoder c.args.pc c.args.self.now.all_stay (c.lasts.ensures e)
