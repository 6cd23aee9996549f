use Rattle.std.proofs.Common.{sym, ap, ◌∙◌}
use Rattle.block_memory.specs.View.{memory_of}
use Rattle.c_meaning.specs.Expressions.{inside}
use Rattle.source_values.proofs.Outside.{rest_fits, test_is, byte_fits, byte_is, too_far, inside_is}
use Rattle.source_values.proofs.paths.field_in.Goals as goal

pub overflow_sub-from : goal.overflow_sub-from
overflow_sub-from c = rest_fits c.from.ensures c.from-at.ensures (record { sfits = c.from.type_inv }) (record { sfits = c.from-at.type_inv }) c.ranges.by

pub overflow_add-at : goal.overflow_add-at
overflow_add-at c = byte_fits c.from.ensures c.from-at.ensures (record { sfits = c.from.type_inv }) (record { sfits = c.from-at.type_inv }) c.ranges.by
    c.if-by-from.false

pub returns-then-by-from : goal.returns-then-by-from
returns-then-by-from c =
    let live = sym c.live.ensures ∙ c.if-not-live.false in
    let test = test_is c.from.ensures c.from-at.ensures (record { sfits = c.from.type_inv }) (record { sfits = c.from-at.type_inv }) c.ranges.by in
    too_far (memory_of c.args.store.now) c.args.p c.in-Block.block c.in-Block.at c.size.result c.args.by c.in-Block.is live c.size.ensures
    (sym test ∙ c.if-by-from.true)

pub returns-else-by-from : goal.returns-else-by-from
returns-else-by-from c =
    let live = sym c.live.ensures ∙ c.if-not-live.false in
    let byte = byte_is c.from.ensures c.from-at.ensures (record { sfits = c.from.type_inv }) (record { sfits = c.from-at.type_inv }) c.ranges.by c.if-by-from.false in
    c.inside.ensures ∙ ap (inside (memory_of c.args.store.now) c.in-Block.block) byte
    ∙ inside_is (memory_of c.args.store.now) c.args.p c.in-Block.block c.in-Block.at c.args.by c.in-Block.is live
