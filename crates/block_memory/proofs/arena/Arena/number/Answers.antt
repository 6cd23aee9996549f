use Rattle.std.proofs.Common.{◌≡◌, ◌+◌, ◌≤◌, length, arith, rules, ap, sym, ◌∙◌}
use Rattle.c_types.specs.IntKinds.{width}
use Rattle.block_memory.specs.Cells.{flat}
use Rattle.block_memory.specs.Digits.{number_at}
use Rattle.block_memory.proofs.Flat.{within}
use Rattle.block_memory.proofs.Hold.{number_of_word}
use Rattle.block_memory.proofs.arena.Arena.number.Goals as goal

pub number-requires : goal.number-requires
number-requires c =
    let four : width c.args.kind ≡ 4 = sym c.width.ensures ∙ c.if-width-eq4.true in
    within c.self.inside.words c.args.at (omega (arith, c.requires.within, four, ap length c.self.view_is))

pub returns-in-Some : goal.returns-in-Some
returns-in-Some c =
    let fits : c.args.at + width c.args.kind ≤ length (flat c.self.inside.words) = omega (arith, c.requires.within, ap length c.self.view_is) in
    number_of_word c.self.inside.words c.args.at c.in-Some.v c.args.kind
    (sym c.width.ensures ∙ c.if-width-eq4.true) c.if-at-eq0.true fits (search rules) c.in-Some.ensures
    ∙ ap (λ all. number_at all c.args.at c.args.kind) c.self.view_is
