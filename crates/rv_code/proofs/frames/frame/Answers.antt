use Rattle.std.proofs.Common.{◌≡◌, ◌+◌, ◌*◌, ◌<◌, ◌^◌, arith}
use Rattle.rv_code.specs.Frames.{slots}
use Rattle.tac_ir.specs.Code.{data_of}
use Rattle.rv_code.proofs.Lists.{slots_fit}
use Rattle.rv_code.proofs.frames.frame.Goals as goal

pub overflow_mul-slots : goal.overflow_mul-slots
overflow_mul-slots c =
    let fit : 4 + 4 * slots (data_of c.args.g.now) < 2 ^ 31 = slots_fit (data_of c.args.g.now) c.requires in
    let is : c.needs-slots.result ≡ slots (data_of c.args.g.now) = c.needs-slots.ensures.slots in
    omega arith

pub overflow_add-slots : goal.overflow_add-slots
overflow_add-slots c =
    let fit : 4 + 4 * slots (data_of c.args.g.now) < 2 ^ 31 = slots_fit (data_of c.args.g.now) c.requires in
    let is : c.needs-slots.result ≡ slots (data_of c.args.g.now) = c.needs-slots.ensures.slots in
    omega arith
