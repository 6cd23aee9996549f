-- What goes to the output and comes from the input passes through one byte of the runtime's own data, which no block has.
use Rattle.std.proofs.Common.{◌≡◌, ◌≢◌, ℕ, ◌+◌, ◌≤◌, inl, true, Some, None, ap, sym, ◌∙◌, subst, arith}
use Rattle.rv_isa.specs.Memory as M
use Rattle.rv_isa.specs.Memory.{are_mapped, readable, word_at, writable}
use Rattle.rv_runtime.specs.Steps.States.{Keeps}
use Rattle.rv_emit.specs.Grounds.{Ground}
use Rattle.rv_emit.specs.Relation.{Program, Moment, Point, Ready, Callers}
use Rattle.rv_emit.proofs.Keeping.{KeepsOther, KeepsOwned, back_stays, byte_place, callers_stay, framed_stays, world_stays}

pub byte_writable : (ground : Ground) → are_mapped ground.segments writable byte_place 1 ≡ true
byte_writable ground = ground.write byte_place 1 (inl (omega arith, omega (arith, ground.data_low)))

pub byte_readable : (ground : Ground) → are_mapped ground.segments readable byte_place 1 ≡ true
byte_readable ground = ground.read byte_place 1 (inl (omega arith, omega (arith, ground.data_low)))

module _ (ground : Ground) (p : Program) (m : Moment) (q : Point) (ready : Ready ground p m q) where
  -- memory in which that byte alone may be another
  pub byte_passed : (new : M.Memory) → Keeps ground.text new → ((c : ℕ) → c ≢ byte_place → new c ≡ q.memory c) → Ready ground p m (record q { memory = new })
  byte_passed new keeps others =
      let fr = ready.frame in
      let other : (floor : ℕ) → 0x10000000 ≤ floor → KeepsOther m.owner floor q.memory new = λ floor le c none above. others c (λ e. omega arith) in
      let back = back_stays ground p m.blocks m.owner q.memory new m.number m.g m.l m.frame m.sp (other m.sp fr.low) fr in
      let callers = callers_stay ground p m.blocks m.owner q.memory new m.numbers m.callers (m.sp + m.l.size) (word_at q.memory m.sp)
      (other (m.sp + m.l.size) (omega (arith, fr.low))) ready.callers in
      record {
        nil = ready.nil;
        stack = ready.stack;
        code = ready.code;
        whole = ready.whole;
        fits = ready.fits;
        world = world_stays ground p m.blocks m.owner q.memory new m.w q.input q.output q.before keeps owned (λ c none out ne. others c ne) ready.world;
        frame = framed_stays ground p m.blocks m.owner q.memory new m.number m.g m.l m.frame m.sp (other m.sp fr.low) fr;
        callers = subst (Callers ground p m.blocks m.owner new m.numbers m.callers (m.sp + m.l.size)) (sym back) callers;
        below = ready.below;
        runs = ready.runs;
      }
    where
      owned : KeepsOwned m.owner q.memory new
      owned c b is = others c (λ e. let d : Some b ≡ None = sym is ∙ ap m.owner e ∙ ready.world.runtime byte_place (omega arith) (omega arith) in cc)
