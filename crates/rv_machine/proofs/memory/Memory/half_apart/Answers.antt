use Rattle.std.proofs.Common.{◌∙◌, ◌+◌}
use Rattle.rv_isa.specs.Memory.{half_at}
use Rattle.rv_machine.specs.View.{content_of}
use Rattle.rv_machine.proofs.Places.{both_there, first_not, second_not, half_joined}
use Rattle.rv_machine.proofs.memory.Memory.half_apart.Goals as goal

pub returns-in_err-low : goal.returns-in_err-low
returns-in_err-low c =
    c.from_residual.ensures ∙ first_not c.args.self.now c.args.flag c.args.address 1 1 (content_of c.args.self.now c.args.address)
    (half_at (content_of c.args.self.now) c.args.address) c.in_err-low.ensures

pub returns-in_err-high : goal.returns-in_err-high
returns-in_err-high c =
    c.from_residual-in_err-high.ensures ∙ second_not c.args.self.now c.args.flag c.args.address 1 1 (content_of c.args.self.now (c.args.address + 1))
    (half_at (content_of c.args.self.now) c.args.address) c.in_err-high.ensures

pub returns : goal.returns
returns c =
    both_there c.args.self.now c.args.flag c.args.address 1 1 c.in_ok-low.low c.in_ok-high.high (content_of c.args.self.now c.args.address)
    (content_of c.args.self.now (c.args.address + 1)) _ _
    c.in_ok-low.ensures c.in_ok-high.ensures (λ e f. half_joined _ _ _ _ e f)
