use Rattle.std.proofs.Common.{arith}
use Rattle.std.proofs.lemmas.Option.{IfSome_then}
use Rattle.rv_isa.specs.Memory.{readable}
use Rattle.rv_machine.proofs.Places.{word_within, narrower}
use Rattle.rv_machine.proofs.memory.Memory.find_to_load.Goals as goal

pub returns : goal.returns
returns c = IfSome_then c.place_within.result c.place_within.ensures (λ place found.
    narrower _ _ readable c.args.address 4 c.args.width place c.requires.word
    (word_within _ _ readable c.args.address place _ (c.args.self.now.loads_begin c.args.register _ (omega arith)) found.0 found.1))
