use Rattle.std.proofs.Common.{refl, arith}
use Rattle.rv_isa.specs.Decoding.{decoded}
use Rattle.rv_machine.proofs.decoder.nothing_at.Goals as goal

pub invariant_of-result : goal.invariant_of-result
unfolding decoded
invariant_of-result c = record { read = refl; fits = omega arith }
