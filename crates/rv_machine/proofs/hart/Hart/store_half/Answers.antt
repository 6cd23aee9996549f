use Rattle.std.proofs.Common.{◌≡◌, rules}
use Rattle.std.specs.Prelude.{slice_index}
use Rattle.rv_isa.specs.Arithmetic.{plus}
use Rattle.rv_isa.specs.Memory.{with_half}
use Rattle.rv_machine.specs.Harts.{places_of, state_at}
use Rattle.rv_machine.proofs.Accesses.{store_moves}
use Rattle.rv_machine.proofs.hart.Hart.store_half.Goals as goal

pub returns-then-store_half-clause-moved : goal.returns-then-store_half-clause-moved
returns-then-store_half-clause-moved c =
    let a : c.address-address.result ≡ plus (slice_index c.args.self.now.registers c.args.rs1) c.args.imm = search rules in
    let v : c.get-value.result ≡ slice_index c.args.self.now.registers c.args.rs2 = c.get-value.ensures in
    rw (← a, ← v)
    (store_moves (places_of c.args.self.now) (state_at c.args.self.now c.args.pc.now) with_half c.address-address.result c.get-value.result 2 _
    c.if-address-ne0.false c.if-store_half.ensures.mapped c.if-store_half.ensures.content)
