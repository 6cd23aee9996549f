use Rattle.std.proofs.Common.{◌∙◌, ap, fold, sym}
use Rattle.std.proofs.lemmas.List.{drop_all}
use Rattle.c_numbers.specs.KeyNumbers.Numbers.{with_number}
use Rattle.c_units.proofs.Tables.{gathered}
use Rattle.c_units.proofs.functions.set_of.Goals as goal

pub returns : goal.returns
returns c =
    let e = drop_all c.loop-number.number-index c.args.numbers.now c.loop-number-test.false in
    gathered c.args.numbers.now c.loop-number.set (ap (fold with_number c.loop-number.set) (sym e) ∙ c.loop-number.invariant)
