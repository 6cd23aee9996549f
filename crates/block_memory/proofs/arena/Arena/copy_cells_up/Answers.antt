use Rattle.std.proofs.Common.{◌≡◌, ◌+◌, ◌-◌, ◌<◌, drop, arith, ap, ◌∙◌, refl}
use Rattle.block_memory.specs.Cells.{over, range}
use Rattle.block_memory.proofs.Copying.{Copies, up_all, up_long, up_more, up_none}
use Rattle.block_memory.proofs.arena.Arena.copy_cells_up.Goals as goal

pub loop-i-init : goal.loop-i-init
loop-i-init c =
    let known : Copies c.args.self.now c.args.to c.args.from c.args.count = record { to_within = c.requires.to; from_within = c.requires.from } in
    record { most = omega arith; is = up_none c.args.self.now c.args.to c.args.from c.args.count known; long = refl }

pub loop-i-preserved : goal.loop-i-preserved
loop-i-preserved c =
    let all = c.args.self.now in
    let known : Copies all c.args.to c.args.from c.args.count = record { to_within = c.requires.to; from_within = c.requires.from } in
    let n = c.loop-i.i - 1 in
    let next : c.loop-i.i ≡ n + 1 = omega arith in
    let less : n < c.args.count = omega (arith, c.loop-i.invariant.most) in
    let was : c.loop-i.self ≡ over all (c.args.to + (n + 1)) (drop (n + 1) (range all c.args.from c.args.count)) =
    c.loop-i.invariant.is ∙ ap (λ n. over all (c.args.to + n) (drop n (range all c.args.from c.args.count))) next in
    let is = up_more all c.loop-i.self c.put.new.self c.args.to c.args.from c.args.count n c.cell-cell.result
    known less c.requires.up was c.cell-cell.ensures c.put.ensures in
    record { most = omega arith; is = is; long = up_long all c.put.new.self c.args.to c.args.from c.args.count n known (omega arith) is }

pub returns : goal.returns
returns c =
    let zero_is : c.loop-i.i ≡ 0 = omega arith in
    up_all c.args.self.now c.loop-i.self c.args.to c.args.from c.args.count
    (c.loop-i.invariant.is ∙ ap (λ n. over c.args.self.now (c.args.to + n) (drop n (range c.args.self.now c.args.from c.args.count))) zero_is)
