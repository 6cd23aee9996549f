use Rattle.std.proofs.Common.{refl, rules}
use Rattle.c_initial_values.proofs.address.field_at.Goals as goal

pub returns : goal.returns
returns c =
    let there = c.moved-a.ensures 1 refl in
    search (rules, there)
