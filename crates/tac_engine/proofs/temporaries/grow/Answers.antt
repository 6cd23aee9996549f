use Rattle.std.proofs.Common.{ap, ◌∙◌, ◌<◌, ◌+◌, [], ◌∷◌, length, length-append, None, arith}
use Rattle.c_meaning.specs.Frames.{Frame}
use Rattle.c_meaning.specs.declared.frame.Slot.TheVariants.{ByName}
use Rattle.tac_ir.specs.Running.{with_temp}
use Rattle.tac_engine.proofs.Growing.{one_more}
use Rattle.tac_engine.proofs.temporaries.grow.Goals as goal

pub loop-preserved : goal.loop-preserved
loop-preserved c = (
  ap (λ (f : Frame). with_temp c.args.t c.args.slot f) c.in_ok-push.ensures.pushed
      ∙ one_more c.loop.frame.items c.args.t c.args.slot (let h : length c.loop.frame.items < c.args.t = omega (arith, c.loop.invariant.1, c.loop-test.true) in h) ∙ c.loop.invariant.0,
  ap (λ (f : Frame). length f) c.in_ok-push.ensures.pushed ∙ length-append c.loop.frame.items (ByName None ∷ []) ∙ ap (λ n. n + 1) c.loop.invariant.1,
)
