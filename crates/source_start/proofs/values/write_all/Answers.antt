use Rattle.std.proofs.Common.{arith, get_or, sym, subst}
use Rattle.std.proofs.lemmas.Grind.{common_steps}
use Rattle.block_memory.specs.Blocks.{Memory}
use Rattle.block_memory.specs.View.{memory_of}
use Rattle.source_start.specs.Standing.{FitsIn}
use Rattle.source_start.proofs.Standing.{next_fits}
use Rattle.source_start.proofs.values.write_all.Goals as goal

pub write_initial-requires : goal.write_initial-requires
write_initial-requires c = c.loop-i.invariant.fits c.loop-i.i-index _ (omega arith) c.loop-i-test.true

pub loop-i-preserved : goal.loop-i-preserved
loop-i-preserved c = record {
  memory = grind (arith, common_steps);
  fits = λ k d later within.
      subst (λ (m : Memory). FitsIn m c.args.block (get_or c.args.all.now k d)) (sym c.write_initial.ensures)
      (next_fits (memory_of c.loop-i.store) c.args.block _ (get_or c.args.all.now k d) (c.loop-i.invariant.fits c.loop-i.i-index _ (omega arith) c.loop-i-test.true)
      (c.loop-i.invariant.fits k d (omega (arith, later)) within));
}
