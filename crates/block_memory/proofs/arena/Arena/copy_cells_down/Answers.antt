use Rattle.std.proofs.Common.{◌≡◌, ◌+◌, ◌<◌, take, arith, refl, ap, ◌∙◌}
use Rattle.block_memory.specs.Cells.{over, range}
use Rattle.block_memory.proofs.Copying.{Copies, down_all, down_long, down_more}
use Rattle.block_memory.proofs.Overs.{over_none}
use Rattle.block_memory.proofs.arena.Arena.copy_cells_down.Goals as goal

pub loop-i-init : goal.loop-i-init
loop-i-init c = record { is = over_none c.args.self.now c.args.to; long = refl }

pub loop-i-preserved : goal.loop-i-preserved
loop-i-preserved c =
    let all = c.args.self.now in
    let known : Copies all c.args.to c.args.from c.args.count = record { to_within = c.requires.to; from_within = c.requires.from } in
    let less : c.loop-i.i < c.args.count = omega arith in
    let is = down_more all c.loop-i.self c.put.new.self c.args.to c.args.from c.args.count c.loop-i.i c.cell-cell.result
    known less c.requires.down c.loop-i.invariant.is c.cell-cell.ensures c.put.ensures in
    record { is = is; long = down_long all c.put.new.self c.args.to c.args.from c.args.count (c.loop-i.i + 1) known (omega arith) is }

pub returns : goal.returns
returns c =
    let all = c.args.self.now in
    let known : Copies all c.args.to c.args.from c.args.count = record { to_within = c.requires.to; from_within = c.requires.from } in
    let last : c.loop-i.i ≡ c.args.count = omega arith in
    down_all all c.loop-i.self c.args.to c.args.from c.args.count known
    (c.loop-i.invariant.is ∙ ap (λ n. over all c.args.to (take n (range all c.args.from c.args.count))) last)
