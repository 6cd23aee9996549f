use Rattle.std.proofs.Common.{◌≡◌, ◌+◌, ◌*◌, ◌<◌, ◌≤◌, length, arith, ap, sym}
use Rattle.block_memory.specs.Cells.{flat}
use Rattle.block_memory.proofs.Flat.{length_flat}
use Rattle.block_memory.proofs.Gathering.{Shifts, shifted, shifts_more, shifts_none}
use Rattle.block_memory.proofs.arena.Arena.shift.Goals as goal

pub loop-i-init : goal.loop-i-init
loop-i-init c = shifts_none c.self.inside.words c.args.from c.args.to

pub shift-requires-clause-known : goal.shift-requires-clause-known
shift-requires-clause-known c =
    omega (arith, c.requires.within, ap length c.self.view_is, length_flat c.self.inside.words, c.loop-i.invariant.long, c.loop-i-test.true)

pub loop-i-preserved : goal.loop-i-preserved
loop-i-preserved c =
    let within : c.args.from + c.args.count ≤ length c.self.inside.words = omega (arith, c.requires.within, ap length c.self.view_is, length_flat c.self.inside.words) in
    let less : c.loop-i.i < c.args.count = omega (arith, c.loop-i-test.true) in
    shifts_more c.self.inside.words c.loop-i.self-inside.words c.shift.new.self c.args.from c.args.to c.args.count c.loop-i.i
    c.requires.down within less c.loop-i.invariant c.shift.ensures

pub returns : goal.returns
returns c =
    let last : c.args.count ≡ c.loop-i.i = omega (arith, c.loop-i-test.false) in
    let is : Shifts c.self.inside.words c.loop-i.self-inside.words c.args.from c.args.to c.args.count = rw last c.loop-i.invariant in
    let within : 4 * (c.args.from + c.args.count) ≤ length (flat c.self.inside.words) = omega (arith, c.requires.within, ap length c.self.view_is) in
    rw (sym c.self.view_is) (shifted c.self.inside.words c.loop-i.self-inside.words c.args.from c.args.to c.args.count c.requires.down within is)
