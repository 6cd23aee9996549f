use Rattle.std.proofs.Common.{◌<◌, length, rules}
use Rattle.c_numbers.specs.NewNumbers.Numbers.{renaming_of}
use Rattle.c_numbers.specs.NewNumbers.Parts.{local_in}
use Rattle.c_numbers.proofs.NewNumbers.Lists.{one_changed}
use Rattle.c_numbers.proofs.new_numbers.parts.locals.Goals as goal

pub loop-it-preserved : goal.loop-it-preserved
loop-it-preserved c =
    let before = c.deref_mut-it-items.result.now in
    let h : c.loop-it.it-index < length before = search rules in
    let k : c.loop-it.it-index < length c.loop-it.it-items = search rules in
    one_changed (local_in (renaming_of c.args.to.now)) before c.loop-it.it-items c.loop-it.it-index _ _ h k c.loop-it.invariant
    c.local.ensures
