use Rattle.std.proofs.Common.{ap, arith, ◌<◌, length}
use Rattle.source_state.proofs.Counted.{counted}
use Rattle.source_state.proofs.counting.Counters.begin.Goals as goal

pub returns-then-function-len : goal.returns-then-function-len
returns-then-function-len c =
    let within : c.args.function < length c.args.self.now.begins.items = grind (arith, c.if-function-len.true, c.len.ensures, c.well_formed) in
    ap (λ rows. record { entries = c.args.self.now.entries.items; begins = rows })
    (counted c.args.self.now.begins.items c.args.function c.args.number c.index_mut.result.now c.raise.new.counts
    within c.index_mut.ensures.value c.raise.ensures)
