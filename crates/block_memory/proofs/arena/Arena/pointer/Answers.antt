use Rattle.std.proofs.Common.{◌+◌, ◌≤◌, length, arith, ap, ◌∙◌}
use Rattle.block_memory.specs.Cells.{flat}
use Rattle.block_memory.specs.Digits.{pointer_at}
use Rattle.block_memory.proofs.Flat.{within}
use Rattle.block_memory.proofs.Hold.{pointer_of_word}
use Rattle.block_memory.proofs.arena.Arena.pointer.Goals as goal

pub pointer-requires : goal.pointer-requires
pointer-requires c = within c.self.inside.words c.args.at (omega (arith, c.requires.within, ap length c.self.view_is))

pub returns-in-Some : goal.returns-in-Some
returns-in-Some c =
    let fits : c.args.at + 4 ≤ length (flat c.self.inside.words) = omega (arith, c.requires.within, ap length c.self.view_is) in
    pointer_of_word c.self.inside.words c.args.at c.args.type_number c.in-Some.p c.if-at-eq0.true fits c.in-Some.ensures
    ∙ ap (λ all. pointer_at all c.args.at c.args.type_number) c.self.view_is
