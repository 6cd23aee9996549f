use Rattle.std.proofs.Common.{◌≡◌, ap, ◌∙◌, arith, pos, ◌+ℤ◌, of_z, to_z, w64}
use Rattle.std.proofs.lemmas.Int.{ints}
use Rattle.block_memory.specs.Pointers.{within}
use Rattle.block_memory.specs.View.{memory_of}
use Rattle.block_memory.proofs.Stepping.{moved_null, too_far}
use Rattle.block_memory.proofs.store.Store.step.Goals as goal

pub overflow_add-at : goal.overflow_add-at
overflow_add-at c = omega (arith, ints)

pub returns-else-by-eq0 : goal.returns-else-by-eq0
returns-else-by-eq0 c = moved_null (memory_of c.args.self.now) c.args.p c.args.by c.in-Null.is c.if-by-eq0.false

pub returns-then-by-from : goal.returns-then-by-from
returns-then-by-from c =
    too_far (memory_of c.args.self.now) c.args.p c.in-Block.block c.in-Block.at c.size.result c.args.by c.in-Block.is c.size.ensures (omega (arith, ints))

pub overflow_sub-from : goal.overflow_sub-from
overflow_sub-from c = omega (arith, ints)

pub returns-else-by-from : goal.returns-else-by-from
returns-else-by-from c =
    let to : to_z w64 (of_z w64 (to_z w64 (of_z w64 c.from-at.result) +ℤ to_z w64 (of_z w64 c.args.by))) ≡ pos c.in-Block.at +ℤ c.args.by = omega (arith, ints) in
    rw c.in-Block.is (c.within.ensures ∙ ap (within (memory_of c.args.self.now) c.in-Block.block) to)
