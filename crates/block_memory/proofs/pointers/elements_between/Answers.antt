use Rattle.std.proofs.Common.{arith}
use Rattle.std.proofs.lemmas.Int.{ints}
use Rattle.block_memory.proofs.Stepping.{uneven}
use Rattle.block_memory.proofs.pointers.elements_between.Goals as goal

pub returns-else-distance-size-eq0 : goal.returns-else-distance-size-eq0
returns-else-distance-size-eq0 c =
    uneven c.args.from c.args.to c.args.size c.from.result c.from-2.result c.from-size.result c.from.ensures c.from-2.ensures c.from-size.ensures
    c.ranges.to.fits c.ranges.from.fits c.ranges.size.fits c.if-distance-size-eq0.false

pub overflow_sub-distance : goal.overflow_sub-distance
overflow_sub-distance c = omega (arith, ints)
