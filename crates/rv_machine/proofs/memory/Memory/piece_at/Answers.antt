use Rattle.std.proofs.Common.{◌≡◌, arith}
use Rattle.std.specs.Prelude.{false}
use Rattle.rv_isa.specs.Memory.{are_mapped, readable}
use Rattle.rv_machine.specs.View.{segments_in}
use Rattle.rv_machine.proofs.Places.{mapped_first_not}
use Rattle.rv_machine.proofs.Pieces.{piece_found}
use Rattle.rv_machine.proofs.memory.Memory.piece_at.Goals as goal

pub unreachable-requires : goal.unreachable-requires
unreachable-requires c =
    let not : are_mapped (segments_in c.args.self.now) readable c.args.address c.args.count ≡ false =
    mapped_first_not _ _ _ c.args.count c.requires.some c.in-None.ensures in
    let mapped = c.requires.mapped in
    cc

pub returns-clause-bytes : goal.returns-clause-bytes
returns-clause-bytes c =
    piece_found c.args.self.now _ c.args.address c.in-Some.stretch.count c.in-Some.stretch.place _ c.deref.result.now c.in-Some.ensures.0
    c.deref.ensures.value (omega arith)
